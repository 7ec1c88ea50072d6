-- The digits of a number, and texts put into a buffer piece by piece.
--
--   tens k                       10 ^ k
--   small, large                 the digits of a number below 10, and of any other
--   length-decimal               a number has no more than most_digits
--   few-digits                   the digits before the last are fewer
--   put-nothing, put-append      no text; one text and then another
--   put-most                     a text is at most so long, or more
--   put_byte, put_one, put-more  one byte; a number of one digit; the last digit after the others
use mathlib.Core.Path.{◌≡◌, refl, sym, ap, ◌∙◌}
use mathlib.Core.Logic.{◌⊎◌, inl, inr, ⊎_elim}
use mathlib.Core.List.{List, [], ◌∷◌, ◌++◌}
use Prim.Native.Nat.{ℕ, zero, suc, ◌+◌, ◌*◌, ◌/◌, ◌%◌, ◌<◌, ◌≤◌, ◌^◌}
use native.Mathlib.Nat.{add-zero, suc-add}
use native.Mathlib.Omega.{arith}
use native.Mathlib.Decide.{dec_lt}
use borrow.Author.Tests.{lt-ltb, le-ltb}
use lib.ListN.{length, set, length-append}
use lib.Seq.{sets}
use Rattle.digits.specs.Digits.{digit, most_digits, digits, decimal, Put}

-- ---- the digits of a number

-- 10 ^ k, such that omega reads it
abbrev pub tens : ℕ → ℕ
tens zero = 1
tens (suc k) = 10 * tens k

pub small : (k n : ℕ) → n < 10 → digits (suc k) n ≡ digit n ∷ []
unfolding digits
small k n h = simp (lt-ltb _ _ h)

pub large : (k n : ℕ) → 10 ≤ n → digits (suc k) n ≡ digits k (n / 10) ++ (digit (n % 10) ∷ [])
unfolding digits
large k n h = simp (le-ltb _ _ h)

small_or_large : (n : ℕ) → (n < 10) ⊎ (10 ≤ n)
small_or_large n = go (dec_lt n 10)
  where
    go : Dec (n < 10) → (n < 10) ⊎ (10 ≤ n)
    go (yes h) = inl h
    go (no h) = inr (omega arith)

-- more room changes nothing
digits_same : (j k n : ℕ) → n < tens j → n < tens k → 0 < j → 0 < k → digits j n ≡ digits k n
digits_same zero k n a b p q = absurd (omega arith)
digits_same (suc j) zero n a b p q = absurd (omega arith)
digits_same (suc zero) (suc k) n a b p q = small zero n (omega arith) ∙ sym (small k n (omega arith))
digits_same (suc (suc j)) (suc zero) n a b p q = small (suc j) n (omega arith) ∙ sym (small zero n (omega arith))
digits_same (suc (suc j)) (suc (suc k)) n a b p q =
    ⊎_elim
    (λ h. small (suc j) n h ∙ sym (small (suc k) n h))
    (λ h. large (suc j) n h ∙ ap (λ (t : List ℕ). t ++ (digit (n % 10) ∷ [])) (digits_same (suc j) (suc k) (n / 10) (omega arith) (omega arith) (omega arith) (omega arith)) ∙ sym (large (suc k) n h))
    (small_or_large n)

length_digits : (k n : ℕ) → length (digits k n) ≤ k
unfolding digits
length_digits zero n = omega arith
length_digits (suc k) n =
    ⊎_elim
    (λ h. rw (small k n h) (omega arith))
    (λ h. rw (large k n h, length-append) (omega (arith, length_digits k (n / 10))))
    (small_or_large n)

pub length-decimal : (n : ℕ) → length (decimal n) ≤ most_digits
unfolding decimal
length-decimal n = length_digits most_digits n

-- the digits of a number below 10, and of any other that fits a word
one-digit : (n : ℕ) → n < 10 → decimal n ≡ digit n ∷ []
unfolding decimal most_digits
one-digit n h = small _ n h

more-digits : (n : ℕ) → 10 ≤ n → n < 2 ^ 32 → decimal n ≡ decimal (n / 10) ++ (digit (n % 10) ∷ [])
unfolding decimal most_digits
more-digits n h l =
    large _ n h ∙ ap (λ (t : List ℕ). t ++ (digit (n % 10) ∷ [])) (digits_same _ most_digits (n / 10) (omega arith) (omega arith) (omega arith) (omega arith))

-- the digits before the last are fewer
pub few-digits : (n : ℕ) → 10 ≤ n → n < 2 ^ 32 → length (decimal (n / 10)) < most_digits
few-digits n h l = omega (arith, length-decimal n, ap length (more-digits n h l), length-append (decimal (n / 10)) (digit (n % 10) ∷ []))

-- ---- texts in a buffer

sets_append : (a : List ℕ) (l : List ℕ) (i : ℕ) (b : List ℕ) → sets l i (a ++ b) ≡ sets (sets l i a) (i + length a) b
sets_append [] l i b = rw (add-zero i)
sets_append (x ∷ a) l i b = sets_append a (set l i x) (suc i) b ∙ ap (λ (k : ℕ). sets (sets (set l i x) (suc i) a) k b) (omega (arith, suc-add i (length a)))

-- no text
pub put-nothing : (b : List ℕ) (at m : ℕ) → Put b at [] m b at
put-nothing b at m = record { stored = refl; end = sym (add-zero at); within = omega arith }

-- one text and then another
pub put-append : {b : List ℕ} {at : ℕ} {t : List ℕ} {m : ℕ} {x : List ℕ} {r : ℕ} {u : List ℕ} {k : ℕ} {y : List ℕ} {q : ℕ}
    → Put b at t m x r → Put x r u k y q → Put b at (t ++ u) (m + k) y q
put-append {b} {at} {t} {u = u} one two =
    record {
      stored = two.stored ∙ sym (rw (sets_append t b at u, ← one.stored, ← one.end));
      end = omega (arith, length-append t u, one.end, two.end);
      within = omega (arith, one.within, two.within);
    }

-- at most so long, or more
pub put-most : {b : List ℕ} {at : ℕ} {t : List ℕ} {m : ℕ} {x : List ℕ} {r k : ℕ} → m ≤ k → Put b at t m x r → Put b at t k x r
put-most h p = record { stored = p.stored; end = p.end; within = omega (arith, p.within) }

-- one byte
pub put_byte : (b : List ℕ) (at v : ℕ) → Put b at (v ∷ []) 1 (set b at v) (at + 1)
put_byte b at v = record { stored = refl; end = refl; within = omega arith }

-- a number of one digit
pub put_one : (b : List ℕ) (at : ℕ) {n : ℕ} → n < 10 → Put b at (decimal n) most_digits (set b at (digit n)) (at + 1)
unfolding most_digits
put_one b at {n} h = rw (one-digit n h) (put-most (omega arith) (put_byte b at (digit n)))

-- the last digit after the others
pub put-more : {b x : List ℕ} {at k n : ℕ} → 10 ≤ n → n < 2 ^ 32 → Put b at (decimal (n / 10)) most_digits x k
    → Put b at (decimal n) most_digits (set x k (digit (n % 10))) (k + 1)
put-more {b} {x} {at} {k} {n} h l p =
    let q : Put b at (decimal (n / 10) ++ (digit (n % 10) ∷ [])) (most_digits + 1) (set x k (digit (n % 10))) (k + 1) = put-append p (put_byte x k (digit (n % 10))) in
    record {
      stored = rw (more-digits n h l) q.stored;
      end = rw (more-digits n h l) q.end;
      within = omega (arith, p.end, few-digits n h l);
    }
