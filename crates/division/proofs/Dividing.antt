-- The loop of `divide`, from the top place down.
--
--   Dividing m h s p i q           from place i on q has p divided by h, and below it is p still
--   dividing_none, dividing_more   before the first place, and one place further down
--   dividing_range                 the terms of a place's sum are there
--   divided                        at the end: p is the remainder and h times the quotient
use mathlib.Core.Path.{◌≡◌, refl, sym, ap, ap₂, ◌∙◌}
use mathlib.Core.Logic.{⊎_elim}
use mathlib.Core.List.{List}
use Prim.Native.Nat.{ℕ, ◌+◌, ◌*◌, ◌-◌, ◌%◌, ◌≤◌, ◌<◌, min}
use native.Mathlib.Nat as N
use native.Mathlib.Omega.{arith}
use native.Mathlib.Decide.{dec_lt}
use lib.ListN.{length, take, drop, set, length-set, length-take, get_or-eq_default}
use lib.Seq.{get_or-set_same, get_or-set_other, get_or-take}
use Rattle.algebra.specs.Polynomial.{coef, times, limit, terms}
use Rattle.algebra.proofs.Coefficients.{coef-plus}
use Rattle.inner.specs.Inner.{inner, Within}
use Rattle.inner.proofs.Inner.{inner-more, inner_split, inner_zeros, inner-drop, inner_extensional}
use Rattle.algebra.proofs.Congruent.{restored}
use Rattle.polynomial.proofs.Below.{set_below}
use Rattle.composition.proofs.Horner.{product-place, held-ends}
use Rattle.division.specs.Division.{DivisionAsked, Divided}

-- what the quotient's higher places, times h, give at place k
abbrev given : List ℕ → ℕ → List ℕ → ℕ → ℕ
given h s q k = inner h q (k + s) 0 (min s (k + 1))

-- from place i on
pub record Dividing (m : ℕ) (h : List ℕ) (s : ℕ) (p : List ℕ) (i : ℕ) (q : List ℕ) : Type 0 where
  pub long : length q ≡ length p
  pub below : (k : ℕ) → coef q k < m
  pub still : (k : ℕ) → k < i → coef q k ≡ coef p k
  pub is : (k : ℕ) → i ≤ k → (coef q k + given h s q k) % m ≡ coef p k % m

right_zero : (x y : ℕ) → y ≡ 0 → x * y ≡ 0
right_zero x y e = rw e (N.mul-zero x)

-- past the end there is nothing to divide
pub dividing_none : {m s i : ℕ} {h p : List ℕ} → i ≡ length p → ((k : ℕ) → coef p k < m) → Dividing m h s p i p
dividing_none {m} {s} {i} {h} {p} e small =
    record {
      long = refl;
      below = small;
      still = λ k l. refl;
      is = λ k l. ap (λ (x : ℕ). (coef p k + x) % m) (inner_zeros h p (k + s) 0 (min s (k + 1)) (λ j a b. right_zero _ _ (get_or-eq_default p 0 (omega arith)))) ∙ ap (λ (x : ℕ). x % m) (N.add-zero _);
    }

-- one place further down: the sums above do not look at it
pub dividing_more : {m s j a lo hi x y : ℕ} {h p q : List ℕ} (i : ℕ) → 0 < m → j ≡ i + 1 → i < length p
    → a ≡ i + s → lo ≡ a + 1 - length q → hi ≡ min s j → lo ≤ hi
    → x ≡ inner h q a lo (hi - lo) % m → y ≡ (coef q i + (m - x)) % m
    → Dividing m h s p j q → Dividing m h s p i (set q i y)
dividing_more {m} {s} {j} {a} {lo} {hi} {x} {y} {h} {p} {q} i pos ej inside ea elo ehi order ex ey c =
    record {
      long = length-set q i y ∙ c.long;
      below = set_below q i y (rw ey (N.mod-lt _ pos)) c.below;
      still = λ k l. get_or-set_other q i k y 0 (omega arith) ∙ c.still k (omega arith);
      is = λ k l. ⊎_elim (λ (e : i ≡ k). rw (← e) here) (λ (l : i < k). above k l) (N.eq-or-lt_of_le l);
    }
  where
    stored : coef (set q i y) i ≡ y
    stored = get_or-set_same q i y 0 (let e = c.long in omega arith)

    kept : (k : ℕ) → i ≤ k → given h s (set q i y) k ≡ given h s q k
    kept k l = inner_extensional h h (set q i y) q (k + s) 0 (min s (k + 1)) (λ j a b. refl) (λ j a b. get_or-set_other q i (k + s - j) y 0 (omega arith))

    above : (k : ℕ) → i < k → (coef (set q i y) k + given h s (set q i y) k) % m ≡ coef p k % m
    above k l = ap₂ (λ (u v : ℕ). (u + v) % m) (get_or-set_other q i k y 0 (omega arith)) (kept k (omega arith)) ∙ c.is k (omega arith)

    -- the sum's first terms lie past the end of the list
    whole : inner h q a lo (hi - lo) ≡ given h s q i
    whole =
        let e : min s (i + 1) ≡ lo + (hi - lo) = omega arith in
        ap (λ (n : ℕ). inner h q n lo (hi - lo)) ea ∙ sym (ap (inner h q (i + s) 0) e ∙ inner_split h q (i + s) 0 lo (hi - lo)
        ∙ ap₂ ◌+◌ (inner_zeros h q (i + s) 0 lo (λ k a b. right_zero _ _ (get_or-eq_default q 0 (omega arith)))) (ap (λ (n : ℕ). inner h q (i + s) n (hi - lo)) (N.zero-add lo)) ∙ N.zero-add _)

    here : (coef (set q i y) i + given h s (set q i y) i) % m ≡ coef p i % m
    here = ap₂ (λ (u v : ℕ). (u + v) % m) stored (kept i (omega arith)) ∙ (restored (given h s q i) pos (ex ∙ ap (λ (z : ℕ). z % m) whole) ey).same ∙ ap (λ (z : ℕ). z % m) (c.still i (omega arith))

-- the terms of a place's sum are there, be the sum the right one or one place off
pub dividing_range : {a i s n lh lo hi : ℕ} → a ≤ i + s → s < a + 2 → i < n → s ≤ n → s < lh → lh ≡ terms → lo ≡ i + s + 1 - n → hi ≡ min s (i + 1) → Within lh n a lo hi
unfolding terms limit
dividing_range la lb a b c d elo ehi = record { order = omega arith; first = omega arith; down = omega arith; second = omega arith; few = omega arith }

-- all places
pub divided : {m s : ℕ} {h p q : List ℕ} → DivisionAsked m s h p → Dividing m h s p 0 q → Divided m h s p q
unfolding terms
divided {m} {s} {h} {p} {q} d c = record { long = c.long; below = c.below; whole = record { at = λ i. sym (c.is i (omega arith)) ∙ ap (λ (x : ℕ). x % m) (sym (coef-plus (take s q) (times h (drop s q)) i ∙ place i (dec_lt i s))) } }
  where
    -- a place of h times the quotient
    product : (i : ℕ) {n : ℕ} → min i s + 1 ≡ n → coef (times h (drop s q)) i ≡ inner h q (i + s) 0 n
    product i {n} e = sym (product-place (held-ends d.right) (drop s q) i) ∙ ap (inner h (drop s q) i 0) e ∙ inner-drop h q s i 0 n (omega arith)

    one : coef h s ≡ 1
    one = sym (N.mod-eq_of_lt (d.right.reduced.below s (omega (arith, d.right.within)))) ∙ d.right.monic.top ∙ N.mod-eq_of_lt d.modulus.above_one

    -- in the remainder, and above it, where the leading 1 of h gives the place itself
    place : (i : ℕ) → Dec (i < s) → coef (take s q) i + coef (times h (drop s q)) i ≡ coef q i + given h s q i
    place i (yes l) = ap₂ ◌+◌ (get_or-take s q i 0 l) (product i (omega arith))
    place i (no l) =
        let e : min s (i + 1) ≡ s = omega arith in
        let f : i + s - (0 + s) ≡ i = omega arith in
        ap₂ ◌+◌ (get_or-eq_default (take s q) 0 (omega (arith, length-take s q)))
        (product i (omega arith) ∙ inner-more h q (i + s) 0 s ∙ rw (e, f, N.zero-add s, one) (ap (λ (x : ℕ). inner h q (i + s) 0 s + x) (N.one-mul _)))
        ∙ N.zero-add _ ∙ N.add_comm _ _
