-- Polynomials as the desk holds them.
--
--   reduced-reduced, reduced-same, monic-reduced    every polynomial of a degree within the limit has its reduced list
--   reduced-place     its places
--   reduced_equal     two reduced lists that are the same modulo m are equal
--   monic-degree      a polynomial is monic of one degree only
--   reduced-above     above its degree a reduced monic polynomial has zeros
--   degree-monic      a reduced polynomial that is monic of degree n has degree n
use mathlib.Core.Path.{◌≡◌, sym, ap, ◌∙◌}
use mathlib.Core.List.{List}
use Prim.Native.Nat.{ℕ, ◌%◌, ◌≤◌, ◌<◌}
use native.Mathlib.Nat as N
use native.Mathlib.Omega.{arith}
use native.Mathlib.Decide.{dec_lt}
use lib.ListN.{length, get_or-eq_default}
use lib.Seq.{ext_get_or}
use Rattle.algebra.specs.Number.{table}
use Rattle.algebra.specs.Polynomial.{coef, Same, Monic, Reduced, terms, reduced, degree}
use Rattle.algebra.proofs.Highest.{degree-top}
use Rattle.algebra.proofs.Numbers.{table-length, table_below, table-above}

-- every polynomial of a low degree has its reduced list
module _ (m : ℕ) (pos : 0 < m) where
  pub reduced-reduced : (p : List ℕ) → Reduced m (reduced m p)
  unfolding reduced
  reduced-reduced p = record { long = table-length terms _; below = λ i l. rw (table_below terms (λ i. coef p i % m) i l) (N.mod-lt (coef p i) pos) }

  pub reduced-same : (p : List ℕ) → ((i : ℕ) → terms ≤ i → coef p i % m ≡ 0 % m) → Same m p (reduced m p)
  unfolding reduced
  reduced-same p z = record { at = λ i. go i (dec_lt i terms) }
    where
      go : (i : ℕ) → Dec (i < terms) → coef p i % m ≡ coef (table terms (λ i. coef p i % m)) i % m
      go i (yes l) = sym (ap (λ (x : ℕ). x % m) (table_below terms (λ i. coef p i % m) i l) ∙ N.mod-mod (coef p i) m)
      go i (no l) = z i (omega arith) ∙ sym (ap (λ (x : ℕ). x % m) (table-above terms (λ i. coef p i % m) i (omega arith)))

  pub monic-reduced : {n : ℕ} {p : List ℕ} → n < terms → Monic m n p → Same m p (reduced m p)
  monic-reduced {n} {p} l c = reduced-same p (λ i h. c.above i (omega arith))

pub reduced-place : (m : ℕ) (p : List ℕ) (i : ℕ) → i < terms → coef (reduced m p) i ≡ coef p i % m
unfolding reduced
reduced-place m p i l = table_below terms (λ i. coef p i % m) i l

-- reduced lists that are the same modulo m are equal
pub reduced_equal : {m : ℕ} {p q : List ℕ} → Reduced m p → Reduced m q → Same m p q → p ≡ q
reduced_equal {m} {p} {q} a b c = ext_get_or 0 p q (a.long ∙ sym b.long) (λ i h. sym (N.mod-eq_of_lt (a.below i (rw (← a.long) h))) ∙ c.at i ∙ N.mod-eq_of_lt (b.below i (rw (← a.long) h)))

one_not_zero : {m : ℕ} → 2 ≤ m → 1 % m ≡ 0 % m → ⊥
one_not_zero {m} two e = let o : 1 % m ≡ 1 = N.mod-eq_of_lt (omega arith) in let z : 0 % m ≡ 0 = N.zero-mod m in omega arith

-- a polynomial is monic of one degree
pub monic-degree : {m n k : ℕ} {p : List ℕ} → 2 ≤ m → Monic m n p → Monic m k p → n ≡ k
monic-degree {m} {n} {k} {p} two a b = N.le_antisymm (under a b (dec_lt k n)) (under b a (dec_lt n k))
  where
    under : {n k : ℕ} → Monic m n p → Monic m k p → Dec (k < n) → n ≤ k
    under {n} a b (yes l) = absurd (one_not_zero two (sym a.top ∙ b.above n l))
    under a b (no l) = omega arith

-- above its degree a reduced monic polynomial has zeros, not only zeros modulo m
pub reduced-above : {m n : ℕ} {p : List ℕ} → Reduced m p → Monic m n p → (i : ℕ) → n < i → coef p i ≡ 0
reduced-above {m} {n} {p} red mon i l = go (dec_lt i (length p))
  where
    go : Dec (i < length p) → coef p i ≡ 0
    go (yes b) = sym (N.mod-eq_of_lt (red.below i (rw (← red.long) b))) ∙ mon.above i l ∙ N.zero-mod m
    go (no b) = get_or-eq_default p 0 (omega arith)

-- the degree of a reduced polynomial is that of which it is monic
pub degree-monic : {m n : ℕ} {p : List ℕ} → 2 ≤ m → Reduced m p → Monic m n p → degree p ≡ n
degree-monic {m} {n} {p} two red mon = degree-top p n (λ e. one_not_zero two (sym mon.top ∙ ap (λ (x : ℕ). x % m) e)) (reduced-above red mon)
