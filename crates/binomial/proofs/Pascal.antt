-- One row of the binomials: by Pascal's rule, in place, and as a part of the table.
--
--   row_first                                    row 0
--   Stepped j top i b                            from the right, the places down to i are those of row j + 1 already
--   stepped_more, stepped_all                    one place more, all
--   sum_fits                                     the sum of two neighbours fits a word
--   table-end, table-row                         row r in the table: it lies there, and it is that row
--   row_to                                       a whole row, as far as a place
use mathlib.Core.Path.{◌≡◌, refl, sym, ◌∙◌, ap}
use mathlib.Core.Logic.{⊎_elim}
use mathlib.Core.List.{List}
use Prim.Native.Nat.{ℕ, zero, suc, ◌+◌, ◌*◌, ◌-◌, ◌/◌, ◌^◌, ◌≤◌, ◌<◌}
use native.Mathlib.Nat as N
use native.Mathlib.Numerals.{add-one}
use native.Mathlib.Omega.{arith}
use lib.ListN.{length, get_or, set, take, drop, length-set, length-drop, replicate, length-replicate}
use lib.Seq.{get_or-set_same, get_or-set_other, get_or-take, get_or-drop, length-take-le}
use Rattle.algebra.specs.Number.{choose}
use Rattle.binomial.specs.Triangle.{rows, triangle, HasRow}
use Rattle.binomial.proofs.Entries.{place, at}

-- whatever the row, it begins with 1
first : (j : ℕ) → choose j 0 ≡ 1
unfolding choose
first zero = refl
first (suc j) = refl

rule : (j i : ℕ) → choose (j + 1) (suc i) ≡ choose j i + choose j (suc i)
unfolding choose
rule j i = ap (λ (n : ℕ). choose n (suc i)) (add-one j)

pub record Stepped (j top i : ℕ) (b : List ℕ) : Type 0 where
  pub long : top < length b
  pub low : (k : ℕ) → k ≤ i → get_or b k 0 ≡ choose j k
  pub high : (k : ℕ) → i < k → k ≤ top → get_or b k 0 ≡ choose (j + 1) k

pub stepped_more : {j top : ℕ} (i : ℕ) {b : List ℕ} {x : ℕ} → 0 < i → i ≤ top → x ≡ get_or b i 0 + get_or b (i - 1) 0 → Stepped j top i b → Stepped j top (i - 1) (set b i x)
stepped_more zero p l e h = absurd (omega arith)
stepped_more {j} {top} (suc i) {b} {x} p l e h = record {
  long = rw (length-set b (suc i) x) h.long;
  low = λ k a. get_or-set_other b (suc i) k x 0 (λ q. omega arith) ∙ h.low k (omega arith);
  high = λ k a c. ⊎_elim
      (λ (q : suc i ≡ k). rw (← q) (get_or-set_same b (suc i) x 0 (omega (arith, h.long)) ∙ e ∙ here))
      (λ (q : suc i < k). get_or-set_other b (suc i) k x 0 (λ z. omega arith) ∙ h.high k q c)
      (N.eq-or-lt_of_le (omega arith));
}
  where
    here : get_or b (suc i) 0 + get_or b (suc i - 1) 0 ≡ choose (j + 1) (suc i)
    here =
        let w : suc i - 1 ≡ i = omega arith in
        rw (w, h.low (suc i) (omega arith), h.low i (omega arith)) (N.add_comm _ _ ∙ sym (rule j i))

pub stepped_all : {j top : ℕ} {b : List ℕ} → Stepped j top 0 b → HasRow (j + 1) top b
stepped_all {j} {top} {b} h = record { long = h.long; is = at }
  where
    at : (i : ℕ) → i ≤ top → get_or b i 0 ≡ choose (j + 1) i
    at zero l = h.low 0 (omega arith) ∙ first j ∙ sym (first (j + 1))
    at (suc i) l = h.high (suc i) (omega arith) l

-- no entry of row j is above 2^j
most : (j i : ℕ) → choose j i ≤ 2 ^ j
unfolding choose
most j zero = rw (first j) (N.pow-le-pow_right {n = 2} (omega arith) {i = 0} {j = j} (omega arith))
most zero (suc i) = omega arith
most (suc j) (suc i) = rw (N.pow-succ' 2 j) (omega (arith, most j i, most j (suc i)))

pub sum_fits : {j top : ℕ} (i : ℕ) {b : List ℕ} → j + 1 < rows → 0 < i → Stepped j top i b → get_or b i 0 + get_or b (i - 1) 0 < 2 ^ 64
unfolding rows
sum_fits zero l p h = absurd (omega arith)
sum_fits {j} (suc i) l p h =
    let w : suc i - 1 ≡ i = omega arith in
    rw (w, h.low (suc i) (omega arith), h.low i (omega arith)) (N.lt_of_le_of_lt (rw (N.add_comm (choose j (suc i)) (choose j i), ← rule j i) (most (j + 1) (suc i))) (N.lt_of_le_of_lt (N.pow-le-pow_right {n = 2} (omega arith) {i = j + 1} {j = 63} (omega arith)) (omega arith)))

zeros : (n i : ℕ) → get_or (replicate n zero) i 0 ≡ zero
zeros zero i = refl
zeros (suc n) zero = refl
zeros (suc n) (suc i) = zeros n i

pub row_first : {top : ℕ} → top < rows → HasRow 0 top (set (replicate rows zero) 0 1)
unfolding rows choose
row_first {top} l = record { long = rw (length-set (replicate 64 zero) 0 1, length-replicate 64 zero) l; is = at }
  where
    at : (i : ℕ) → i ≤ top → get_or (set (replicate 64 zero) 0 1) i 0 ≡ choose 0 i
    at zero h = refl
    at (suc i) h = get_or-set_other (replicate 64 zero) 0 (suc i) 1 0 (λ q. omega arith) ∙ zeros 64 (suc i)

module _ {r a : ℕ} (l : r < rows) (e : a ≡ r * (r + 1) / 2) where
  pub table-end : a + r + 1 ≤ rows * (rows + 1) / 2
  unfolding rows
  table-end = omega (arith, N.mul-le-mul {n₁ = r + 1} {m₁ = r + 2} {n₂ = 64} {m₂ = 65} (omega arith) (omega arith))

  pub table-row : {top b : ℕ} {t : List ℕ} → top ≤ r → b ≡ a + r + 1 → t ≡ triangle rows → HasRow r top (take (b - a) (drop a t))
  table-row {top} {b} {t} h g q = record { long = long; is = λ i k. get_or-take (b - a) (drop a t) i 0 (omega arith) ∙ get_or-drop a t i 0 ∙ (rw (q, e) (at rows r i l (omega arith))) }
    where
      inside : b - a ≤ length (drop a t)
      inside = rw (length-drop a t, q) (omega (arith, place rows r r l (omega arith)))

      long : top < length (take (b - a) (drop a t))
      long = rw (length-take-le (b - a) (drop a t) inside) (omega arith)

-- a whole row, as far as place top
pub row_to : {r top : ℕ} {b : List ℕ} → top ≤ r → HasRow r r b → HasRow r top b
row_to h w = record { long = omega (arith, w.long); is = λ i l. w.is i (omega arith) }
