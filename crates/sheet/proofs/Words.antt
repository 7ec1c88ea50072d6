-- Words and bytes: the record of w and p, and back.
--
--   Bytes b, bytes_piece      numbers that are bytes, and those of a piece
--   word_small                a word of bytes fits 32 bits
--   word_piece                a word is that of its own four bytes
--   word_first, word_next, word_last     the stores of a record
--   word_record               the words of the record of w and p
--   coefficients_record       and its polynomial
--   own_record                the record of a record's own words is that record
--   record_long, recorded-long      how long they are
--   blank_held                a place that is not used holds zeros
--   used-words                a record is used exactly if some word of it is not zero
--   recorded-none, recorded-some     what is put into the place of a part that is not used, and of one that is
use mathlib.Core.Path.{◌≡◌, refl, sym, ap, ap₂, ◌∙◌}
use mathlib.Core.Bool.{Bool, true, false}
use mathlib.Core.List.{List, [], ◌∷◌, ◌++◌, append-nil}
use Prim.Native.Nat.{ℕ, zero, suc, ◌+◌, ◌*◌, ◌/◌, ◌%◌, ◌^◌, ◌≤◌, ◌<◌}
use native.Mathlib.Nat as N
use native.Mathlib.Omega.{arith}
use native.Mathlib.Decide.{dec_lt}
use native.Mathlib.Numerals.{add-one}
use borrow.Author.Tests.{eq-eqb}
use lib.ListN.{length, take, drop, replicate, length-replicate, length-drop, length-take, drop_of_length-le, get_or, get_or-eq_default}
use lib.Seq.{ext_get_or, get_or-take, get_or-drop, length-take-le, take_all}
use Rattle.algebra.specs.Polynomial.{coef, terms}
use Rattle.algebra.proofs.Numbers.{table_below}
use Rattle.area.specs.Area.{all_zero}
use Rattle.area.proofs.Reading.{zero_at}
use Rattle.record.specs.Record.{word, record_bytes, coefficients}
use Rattle.record.proofs.Answers.{coefficients-long}
use Rattle.sheet.specs.Sheet.{used, joined, bytes, record_of, recorded}
use Rattle.sheet.specs.Steps.{put_word}
use Rattle.sheet.proofs.Zeros.{at_zero}
use Rattle.sheet.proofs.Joining.{joined_length, joined_ext, joined-begun, put_next, joined-past, piece, pieces}

-- numbers that are bytes: every `&[u8]` holds such
pub record Bytes (b : List ℕ) : Type 0 where
  pub small : (j : ℕ) → get_or b j 0 < 256

-- so are those of a piece
pub bytes_piece : {b : List ℕ} (n k : ℕ) → Bytes b → Bytes (take n (drop k b))
bytes_piece {b} n k s = record { small = λ j. go j (dec_lt j n) }
  where
    go : (j : ℕ) → Dec (j < n) → get_or (take n (drop k b)) j 0 < 256
    go j (yes l) = rw (get_or-take n (drop k b) j 0 l, get_or-drop k b j 0) (s.small (k + j))
    go j (no l) = rw (get_or-eq_default (take n (drop k b)) 0 {n = j} (omega (arith, length-take n (drop k b)))) (omega arith)

-- a word of bytes
pub word_small : {b : List ℕ} → Bytes b → (i : ℕ) → word b i < 2 ^ 32
unfolding word
word_small s i =
    let a = s.small (4 * i) in
    let b = s.small (4 * i + 1) in
    let c = s.small (4 * i + 2) in
    let d = s.small (4 * i + 3) in
    omega arith

-- byte c of word i
byte_piece : (b : List ℕ) (i c : ℕ) → c < 4 → get_or b (4 * i + c) 0 ≡ get_or (take 4 (drop (i * 4) b)) c 0
byte_piece b i c l = ap (λ (k : ℕ). get_or b (k + c) 0) (N.mul_comm 4 i) ∙ sym (get_or-take 4 (drop (i * 4) b) c 0 l ∙ get_or-drop (i * 4) b c 0)

-- a word is that of its own four bytes
word_piece : (b : List ℕ) (i : ℕ) → word b i ≡ word (take 4 (drop (i * 4) b)) 0
unfolding word
word_piece b i =
    let e : get_or b (4 * i) 0 ≡ get_or b (4 * i + 0) 0 = ap (λ (k : ℕ). get_or b k 0) (sym (N.add-zero (4 * i))) in
    rw (e, byte_piece b i 0 (omega arith), byte_piece b i 1 (omega arith), byte_piece b i 2 (omega arith), byte_piece b i 3 (omega arith)) refl

-- the four bytes of a word
word_bytes : (w : ℕ) → w < 2 ^ 32 → word (bytes w) 0 ≡ w
unfolding word bytes
word_bytes w l = omega arith

-- word j of the record of w and p
abbrev pub words : ℕ → List ℕ → ℕ → List ℕ
words w p j = bytes (coef (w ∷ p) j)

pub four : (w : ℕ) (p : List ℕ) (j : ℕ) → length (words w p j) ≡ 4
unfolding bytes
four w p j = refl

record_long : (w : ℕ) (p : List ℕ) → length (record_of w p) ≡ record_bytes
unfolding record_of record_bytes
record_long w p = joined_length (words w p) 4 (four w p) (terms + 1) ∙ N.mul_comm (terms + 1) 4

-- the stores of a record: its first word, the next, and all
module _ (w : ℕ) (p : List ℕ) where
  pub word_first : (r : List ℕ) {s : List ℕ} → s ≡ put_word r 0 w → s ≡ joined 1 (words w p) ++ drop 4 s
  unfolding put_word
  word_first r e =
      let q = put_next (words w p) 4 (four w p) r r 0 (joined-begun (words w p) 4 r) e in
      q ∙ ap (λ (l : List ℕ). joined 1 (words w p) ++ l) (sym (ap (drop 4) q ∙ joined-past (words w p) 4 (four w p) 1 1 r (omega arith)))

  pub word_next : (b r : List ℕ) (j : ℕ) {s : List ℕ} → r ≡ joined (j + 1) (words w p) ++ drop ((j + 1) * 4) b → s ≡ put_word r (j + 1) (coef p j)
      → s ≡ joined (j + 1 + 1) (words w p) ++ drop ((j + 1 + 1) * 4) b
  unfolding put_word
  word_next b r j e q =
      let z : coef p j ≡ coef (w ∷ p) (j + 1) = rw (add-one j) refl in
      put_next (words w p) 4 (four w p) b r (j + 1) e (q ∙ ap (put_word r (j + 1)) z)

  pub word_last : (b : List ℕ) {r : List ℕ} {j : ℕ} → length b ≡ record_bytes → j ≡ terms → r ≡ joined (j + 1) (words w p) ++ drop ((j + 1) * 4) b → r ≡ record_of w p
  unfolding record_of record_bytes
  word_last b {r} {j} long z e =
      e ∙ ap (λ (k : ℕ). joined (k + 1) (words w p) ++ drop ((k + 1) * 4) b) z
      ∙ ap (λ (l : List ℕ). joined (terms + 1) (words w p) ++ l) (drop_of_length-le b {i = (terms + 1) * 4} (omega arith)) ∙ append-nil _

-- the words of the record of w and p
pub word_record : (w : ℕ) (p : List ℕ) (i : ℕ) → i ≤ terms → coef (w ∷ p) i < 2 ^ 32 → word (record_of w p) i ≡ coef (w ∷ p) i
unfolding record_of
word_record w p i l b =
    word_piece (record_of w p) i
    ∙ ap (λ (r : List ℕ). word (take 4 (drop (i * 4) r)) 0) (sym (append-nil (joined (terms + 1) (words w p))))
    ∙ ap (λ (r : List ℕ). word r 0) (piece (words w p) 4 (four w p) (terms + 1) i [] (omega arith)) ∙ word_bytes (coef (w ∷ p) i) b

-- the polynomial of a record, word by word
coefficients-at : (b : List ℕ) (i : ℕ) → i < terms → coef (coefficients b) i ≡ word b (i + 1)
unfolding coefficients
coefficients-at b i l = table_below terms (λ i. word b (i + 1)) i l

-- and its polynomial
pub coefficients_record : (w : ℕ) (p : List ℕ) → length p ≡ terms → ((i : ℕ) → i < terms → coef p i < 2 ^ 32) → coefficients (record_of w p) ≡ p
coefficients_record w p long b = ext_get_or 0 _ p (coefficients-long (record_of w p) ∙ sym long) go
  where
    go : (i : ℕ) → i < length (coefficients (record_of w p)) → coef (coefficients (record_of w p)) i ≡ coef p i
    go i l =
        let k : i < terms = omega (arith, coefficients-long (record_of w p)) in
        let e : coef (w ∷ p) (i + 1) ≡ coef p i = rw (add-one i) refl in
        coefficients-at (record_of w p) i k ∙ word_record w p (i + 1) (omega arith) (rw e (b i k)) ∙ e

-- the record's own words
own_words : (r : List ℕ) (i : ℕ) → i ≤ terms → coef (word r 0 ∷ coefficients r) i ≡ word r i
own_words r zero l = refl
own_words r (suc i) l = coefficients-at r i (omega arith) ∙ ap (word r) (add-one i)

-- four bytes and no more
four_bytes : (l : List ℕ) → length l ≡ 4 → Bytes l → bytes (word l 0) ≡ l
unfolding word bytes
four_bytes [] e s = absurd (omega arith)
four_bytes (a ∷ []) e s = absurd (omega arith)
four_bytes (a ∷ b ∷ []) e s = absurd (omega arith)
four_bytes (a ∷ b ∷ c ∷ []) e s = absurd (omega arith)
four_bytes (a ∷ b ∷ c ∷ d ∷ []) e s =
    let la : a < 256 = s.small 0 in
    let lb : b < 256 = s.small 1 in
    let lc : c < 256 = s.small 2 in
    let ld : d < 256 = s.small 3 in
    ap₂ ◌∷◌ (omega arith) (ap₂ ◌∷◌ (omega arith) (ap₂ ◌∷◌ (omega arith) (ap₂ ◌∷◌ (omega arith) refl)))
four_bytes (a ∷ b ∷ c ∷ d ∷ x ∷ l) e s = absurd (omega arith)

-- the record of a record's own words is that record
pub own_record : (r : List ℕ) → length r ≡ record_bytes → Bytes r → record_of (word r 0) (coefficients r) ≡ r
unfolding record_of record_bytes
own_record r long small = joined_ext (terms + 1) _ (λ i. take 4 (drop (i * 4) r)) go ∙ pieces 4 (terms + 1) r ∙ take_all ((terms + 1) * 4) r (omega arith)
  where
    go : (i : ℕ) → i < terms + 1 → bytes (coef (word r 0 ∷ coefficients r) i) ≡ take 4 (drop (i * 4) r)
    go i l =
        ap bytes (own_words r i (omega arith) ∙ word_piece r i)
        ∙ four_bytes (take 4 (drop (i * 4) r)) (length-take-le 4 (drop (i * 4) r) (omega (arith, length-drop (i * 4) r))) (bytes_piece 4 (i * 4) small)

-- a place that is not used holds zeros
pub blank_held : (r : List ℕ) → all_zero r ≡ true → all_zero (coefficients r) ≡ true
unfolding word
blank_held r h =
    at_zero _ (λ i l. coefficients-at r i (omega (arith, coefficients-long r)) ∙ rw (zero_at r h (4 * (i + 1)), zero_at r h (4 * (i + 1) + 1), zero_at r h (4 * (i + 1) + 2), zero_at r h (4 * (i + 1) + 3)) refl)

zero_byte : (r : List ℕ) (i c : ℕ) → c < 4 → word r i ≡ 0 → get_or r (4 * i + c) 0 ≡ 0
unfolding word
zero_byte r i zero l h = ap (λ (k : ℕ). get_or r k 0) (N.add-zero (4 * i)) ∙ omega arith
zero_byte r i (suc zero) l h = omega arith
zero_byte r i (suc (suc zero)) l h = omega arith
zero_byte r i (suc (suc (suc zero))) l h = omega arith
zero_byte r i (suc (suc (suc (suc c)))) l h = absurd (omega arith)

same_tests : (s t : Bool) → (s ≡ true → t ≡ true) → (t ≡ true → s ≡ true) → s ≡ t
same_tests true t f g = sym (f refl)
same_tests false true f g = g refl
same_tests false false f g = refl

-- a record is used exactly if some word of it is not zero
pub used-words : (r : List ℕ) → length r ≡ record_bytes → all_zero (word r 0 ∷ coefficients r) ≡ all_zero r
unfolding record_bytes all_zero word
used-words r long = same_tests _ _ there back
  where
    there : all_zero (word r 0 ∷ coefficients r) ≡ true → all_zero r ≡ true
    there h = at_zero r (λ j l.
        let e : j ≡ 4 * (j / 4) + j % 4 = omega arith in
        let k : j / 4 ≤ terms = omega arith in
        ap (λ (n : ℕ). get_or r n 0) e ∙ zero_byte r (j / 4) (j % 4) (omega arith) (sym (own_words r (j / 4) k) ∙ zero_at (word r 0 ∷ coefficients r) h (j / 4)))

    back : all_zero r ≡ true → all_zero (word r 0 ∷ coefficients r) ≡ true
    back h = rw (eq-eqb (word r 0) 0 (rw (zero_at r h 0, zero_at r h 1, zero_at r h 2, zero_at r h 3) refl)) (blank_held r h)

-- what is put into the place of a part that is not used, and of one that is
module _ (w : ℕ) (p : List ℕ) where
  pub recorded-none : used p ≡ false → replicate record_bytes 0 ≡ recorded w p
  unfolding recorded
  recorded-none h = simp h

  pub recorded-some : used p ≡ true → record_of w p ≡ recorded w p
  unfolding recorded
  recorded-some h = simp h

  pub recorded-long : length (recorded w p) ≡ record_bytes
  recorded-long = go (used p) refl
    where
      go : (t : Bool) → used p ≡ t → length (recorded w p) ≡ record_bytes
      go true e = ap length (sym (recorded-some e)) ∙ record_long w p
      go false e = ap length (sym (recorded-none e)) ∙ length-replicate record_bytes 0
