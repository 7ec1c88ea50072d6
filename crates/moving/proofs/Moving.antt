-- f(a·x + b) as a composition with the line b + a·x.
--
--   lined                         the array of the line is the line
--   some-line                     the line as an array
--   composable_line               what is held composes with the line
--   moved-is                      composed with the array, f is moved
--   moved-reduced, moved_same     what is moved is reduced, and f(a·x + b) modulo m
--   moved-constant                its constant is f(b)
use mathlib.Core.Path.{◌≡◌, refl, sym, ap, ◌∙◌}
use mathlib.Core.List.{List, ◌∷◌}
use Prim.Native.Nat.{ℕ, zero, suc, ◌+◌, ◌-◌, ◌*◌, ◌%◌, ◌<◌}
use lib.ListN.{replicate}
use native.Mathlib.Omega.{arith}
use Rattle.algebra.specs.Polynomial.{coef, after, value, terms, limit, reduced, Same, Reduced, Held}
use Rattle.algebra.proofs.Numbers.{table_ext}
use Rattle.algebra.proofs.Polynomials.{◌⨾◌, same_refl, after_same}
use Rattle.algebra.proofs.Reduction.{reduced-place}
use Rattle.algebra.proofs.Values.{value_zero, value_after}
use Rattle.polynomial.proofs.Filling.{zeros}
use Rattle.composition.specs.Composition.{composition, Composable}
use Rattle.composition.proofs.Horner.{composition-reduced, composition-same, held-ends}
use Rattle.moving.specs.Moving.{line, Lined, moved}

-- the array of the line is the line
lined : {m a b : ℕ} {l : List ℕ} → Lined a b l → Same m l (line a b)
lined {m} {a} {b} {l} c = record { at = λ k. ap (λ (x : ℕ). x % m) (go k) }
  where
    go : (k : ℕ) → coef l k ≡ coef (line a b) k
    go zero = c.constant
    go (suc zero) = c.slope
    go (suc (suc k)) = c.ends.past (suc (suc k)) (omega arith)

-- b + a·x with zeros above
pub some-line : {a b : ℕ} → Lined a b (b ∷ a ∷ replicate (terms - 2) 0)
unfolding terms limit
some-line {a} {b} = record { ends = record { long = refl; past = go; inside = omega arith }; constant = refl; slope = refl }
  where
    go : (k : ℕ) → 1 < k → coef (b ∷ a ∷ replicate (terms - 2) 0) k ≡ 0
    go zero l = absurd (omega arith)
    go (suc zero) l = absurd (omega arith)
    go (suc (suc k)) l = zeros (terms - 2) k

-- what is held composes with the line
pub composable_line : {m n a b : ℕ} {f l : List ℕ} → Held m n f → Lined a b l → Composable n 1 f l
composable_line h c = record { left = held-ends h; right = c.ends; within = omega (arith, h.within) }

module _ {m : ℕ} (pos : 0 < m) (a b : ℕ) where
  -- the array or the line: the composition is the same
  pub moved-is : (f : List ℕ) {l p : List ℕ} → Lined a b l → p ≡ composition m f l → p ≡ moved m f a b
  unfolding moved composition reduced
  moved-is f c e = e ∙ table_ext terms _ _ (λ k h. (after_same m pos (same_refl f) (lined c)).at k)

  pub moved-reduced : (f : List ℕ) → Reduced m (moved m f a b)
  unfolding moved
  moved-reduced f = composition-reduced pos f (line a b)

  pub moved_same : {n : ℕ} {f : List ℕ} → Held m n f → Same m (moved m f a b) (after f (line a b))
  moved_same {f = f} h =
      let l : Lined a b (b ∷ a ∷ replicate (terms - 2) 0) = some-line in
      rw (moved-is f l refl) at (composition-same pos (composable_line h l)) ⨾ after_same m pos (same_refl f) (lined l)

  -- whose constant is f(b)
  pub moved-constant : (f : List ℕ) → coef (moved m f a b) 0 ≡ value f b % m
  unfolding moved composition value terms
  moved-constant f =
      let at_zero : b + 0 * (a + 0 * 0) ≡ b = omega arith in
      reduced-place m (after f (line a b)) 0 (omega arith) ∙ ap (λ (x : ℕ). x % m) (sym (value_zero (after f (line a b))) ∙ value_after f (line a b) 0 ∙ ap (value f) at_zero)
