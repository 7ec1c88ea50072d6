-- The sheets of records, by what the code does.
--
--   of_refused, of_unchained, of_chained     each return for one record
--   alone                                    a sheet in a buffer that has room for no more
--   inside, this-record, left-after          a chunk of what is left: one more record, which it is, and what is left behind it
--   Begun b xs ys i                          the first i sheets of b stand at the start of ys, which was xs
--   sheets-within                            they stand in the buffer
--   begun-none, begun_more, begun_all        before the first record, after one more, and after the last
use mathlib.Core.Path.{◌≡◌, refl, sym, ap, subst, ◌∙◌}
use mathlib.Core.Bool.{false}
use mathlib.Core.Logic.{⊎_elim}
use mathlib.Core.List.{List, ◌++◌, append-nil}
use Prim.Native.Nat.{ℕ, suc, ◌+◌, ◌*◌, ◌≤◌, ◌<◌, min}
use native.Mathlib.Nat as N
use native.Mathlib.Omega.{arith}
use lib.ListN.{length, take, drop, replicate, take-append-drop, length-take, length-drop, drop_of_length-le}
use lib.Seq.{length-take-le, drop-drop}
use Rattle.refusal.specs.Refusal.{Answered, Refused}
use Rattle.refusal.specs.declared.Refusal.{Refusal}
use Rattle.polynomial.specs.Moduli.{modulus}
use Rattle.area.specs.Area.{area_words}
use Rattle.record.specs.Record.{record_bytes, no_record, checked, Checked}
use Rattle.record.proofs.Chunks.{first, others}
use Rattle.algebra.specs.Polynomial.{terms, limit}
use Rattle.record.proofs.Answers.{check_outcome, check_answered}
use Rattle.chain.specs.Chaining.{unchained, ChainOf}
use Rattle.sheet.specs.Sheet.{sheet_bytes, record_at, sheet_of}
use Rattle.sheets.specs.Sheets.{SheetOf, records, sheet_at, SheetsIn}
use Rattle.sheets.specs.Sheets as of
use Rattle.sheets.proofs.Pieces.{front, put-here, put-before, put-past}

module _ (b : List ℕ) where
  -- its check refuses it
  pub of_refused : (r : Refusal) → no_record (Refused r) ≡ checked b → {c : List ℕ} → c ≡ replicate sheet_bytes 0 → SheetOf b c
  unfolding no_record
  of_refused r is e = of.refused (sym (check_outcome b is)) e

  module _ {w n : ℕ} {f : List ℕ} (is : ◌≡◌ {A = Checked} (record { outcome = Answered; modulus = w; polynomial = f; degree = n }) (checked b)) {ys : List ℕ} where
    -- its chain is refused
    pub of_unchained : (r : Refusal) → ChainOf (modulus w) f (replicate area_words 0) ys (unchained (Refused r)) → {c : List ℕ} → c ≡ replicate sheet_bytes 0 → SheetOf b c
    of_unchained r chain e =
        let (ok, m, g, d) = check_answered b is {t = false} refl refl in
        of.unchained ok (rw (m, g) at chain) refl e

    -- it has one
    pub of_chained : {k t p : ℕ} → ChainOf (modulus w) f (replicate area_words 0) ys (record { outcome = Answered; parts = k; tries = t; price = p })
        → {c : List ℕ} → c ≡ sheet_of w ys → SheetOf b c
    of_chained chain e =
        let (ok, m, g, d) = check_answered b is {t = false} refl refl in
        of.chained ok (rw (m, g) at chain) refl (e ∙ ap (λ (w : ℕ). sheet_of w ys) m)

-- a chunk of what is left behind the first i records
module _ (s x r : List ℕ) (i : ℕ) {rest : List ℕ} {size : ℕ} (left : rest ≡ drop (i * record_bytes) s) (chunk : size ≡ record_bytes) (is : rest ≡ x ++ r)
    (long : length x ≡ min size (length rest)) where
  whole : length x ≡ min record_bytes (length rest)
  whole = rw (← chunk) long

  pub inside : 0 < length rest → i < records (length s)
  unfolding records record_bytes terms limit
  inside some = omega (arith, some, ap length left, length-drop (i * record_bytes) s)

  pub this-record : x ≡ record_at s i
  this-record = sym (first x r is whole) ∙ ap (take record_bytes) left

  pub left-after : r ≡ drop ((i + 1) * record_bytes) s
  left-after =
      let e : (i + 1) * record_bytes ≡ i * record_bytes + record_bytes = N.add-mul i 1 record_bytes ∙ ap (λ (n : ℕ). i * record_bytes + n) (N.one-mul record_bytes) in
      sym (others x r is whole) ∙ ap (drop record_bytes) left ∙ drop-drop record_bytes (i * record_bytes) s ∙ ap (λ (n : ℕ). drop n s) (sym e)

-- so far
pub record Begun (b xs ys : List ℕ) (i : ℕ) : Type 0 where
  pub each : (j : ℕ) → j < i → SheetOf (record_at b j) (sheet_at ys j)
  pub past : drop (i * sheet_bytes) ys ≡ drop (i * sheet_bytes) xs

module _ (b xs : List ℕ) where
  pub begun-none : Begun b xs xs 0
  begun-none = record { each = λ j l. absurd (N.not-suc-le-zero l); past = refl }

  pub begun_more : {ys zs c : List ℕ} (i : ℕ) → i * sheet_bytes ≤ length ys → length c ≡ sheet_bytes → Begun b xs ys i → SheetOf (record_at b i) c
      → zs ≡ take (i * sheet_bytes) ys ++ (c ++ drop sheet_bytes (drop (i * sheet_bytes) ys)) → Begun b xs zs (i + 1)
  begun_more {ys} {zs} {c} i room long k new is = rw is (record { each = go; past = put-past sheet_bytes ys c i room long ∙ past })
    where
      past : drop ((i + 1) * sheet_bytes) ys ≡ drop ((i + 1) * sheet_bytes) xs
      past =
          let e : (i + 1) * sheet_bytes ≡ i * sheet_bytes + sheet_bytes = N.add-mul i 1 sheet_bytes ∙ ap (λ (n : ℕ). i * sheet_bytes + n) (N.one-mul sheet_bytes) in
          rw e (sym (drop-drop sheet_bytes (i * sheet_bytes) ys) ∙ ap (drop sheet_bytes) k.past ∙ drop-drop sheet_bytes (i * sheet_bytes) xs)

      go : (j : ℕ) → j < i + 1 → SheetOf (record_at b j) (sheet_at (take (i * sheet_bytes) ys ++ (c ++ drop sheet_bytes (drop (i * sheet_bytes) ys))) j)
      go j l =
          ⊎_elim
          (λ (e : j ≡ i). rw e (subst (SheetOf (record_at b i)) (sym (put-here sheet_bytes ys c i room long)) new))
          (λ (h : j < i). subst (SheetOf (record_at b j)) (sym (put-before sheet_bytes ys c i room long j h)) (k.each j h))
          (N.eq-or-lt_of_le (omega arith))

  pub begun_all : {ys : List ℕ} {i r : ℕ} → i ≡ records (length b) → r ≡ i * sheet_bytes → r ≤ length ys → Begun b xs ys i → SheetsIn b xs ys r
  begun_all {ys} {i} {r} e f room k = record {
    sheets = record { long = length-take-le r ys room ∙ f ∙ ap (λ (n : ℕ). n * sheet_bytes) e; each = λ j l. subst (SheetOf (record_at b j)) (kept j (rw e l)) (k.each j (rw e l)) };
    end = f ∙ ap (λ (n : ℕ). n * sheet_bytes) e;
    past = rw f k.past;
  }
    where
      kept : (j : ℕ) → j < i → sheet_at ys j ≡ sheet_at (take r ys) j
      kept j l =
          let fits : suc j * sheet_bytes ≤ length (take r ys) = omega (arith, length-take-le r ys room, N.mul-le-mul_right {m = suc j} {n = i} sheet_bytes l) in
          sym (ap (λ (a : List ℕ). sheet_at a j) (take-append-drop r ys)) ∙ front sheet_bytes (take r ys) (drop r ys) j fits

-- a sheet in a buffer that has room for no more
pub alone : (out : List ℕ) {c s : List ℕ} → length out ≡ sheet_bytes → c ≡ s ++ drop sheet_bytes out → c ≡ s
alone out {c} {s} long e = e ∙ ap (λ (l : List ℕ). s ++ l) (drop_of_length-le out {i = sheet_bytes} (omega arith)) ∙ append-nil s

-- the sheets stand in the buffer
pub sheets-within : {b xs ys : List ℕ} {r : ℕ} → SheetsIn b xs ys r → r ≤ length ys
sheets-within {ys = ys} {r = r} s = omega (arith, s.sheets.long, s.end, length-take r ys)
