-- Coefficients of sums and products of lists, exact in whole numbers: what the loops of the code are held to.
--
--   coef-plus, coef-scaled                of a sum, of a multiple
--   coef-times, coef-times-suc            of a product: the sum of coef p i · coef q (k - i); its first term apart
--   after-end                             where g ends at x^r, g(h) ends at x^(rs), with the same coefficient
--   after-monic, power-monic              g(h) is monic of degree r·s, and h^i of degree i·s
use mathlib.Core.Path.{◌≡◌, refl, sym, ap, ap₂, ◌∙◌}
use mathlib.Core.List.{List, [], ◌∷◌, tail}
use Prim.Native.Nat.{ℕ, zero, suc, ◌+◌, ◌*◌, ◌-◌, ◌%◌, ◌<◌}
use native.Mathlib.Nat as N
use native.Mathlib.Omega.{arith}
use Rattle.algebra.specs.Number.{sum}
use Rattle.algebra.specs.Polynomial.{coef, plus, scaled, times, power, after}
use Rattle.algebra.specs.Polynomial as P
use Rattle.algebra.proofs.Evaluation.{⟦◌⟧, eval-power}
use Rattle.algebra.proofs.Residues.{residues}
use Rattle.algebra.proofs.Degrees.{Lead, Monic, compose}
use Rattle.algebra.proofs.Lines.{lead-compose, pow-one}
use Rattle.algebra.proofs.Forced.{monic-pow}
use Rattle.algebra.proofs.Polynomials.{Q, monic_series, monic_list, residue_at, at_residue, after-compose}
use Rattle.algebra.proofs.Numbers.{sum_first, sum_ext}
use Rattle.algebra.proofs.Ring as A
use Rattle.algebra.proofs.Residues
use mathlib.Core.Path.{subst}

pub coef-plus : (p q : List ℕ) (i : ℕ) → coef (plus p q) i ≡ coef p i + coef q i
unfolding plus
coef-plus [] q i = sym (N.zero-add (coef q i))
coef-plus (a ∷ p) [] i = sym (N.add-zero _)
coef-plus (a ∷ p) (b ∷ q) zero = refl
coef-plus (a ∷ p) (b ∷ q) (suc i) = coef-plus p q i

pub coef-scaled : (a : ℕ) (q : List ℕ) (i : ℕ) → coef (scaled a q) i ≡ a * coef q i
unfolding scaled
coef-scaled a [] i = sym (N.mul-zero a)
coef-scaled a (b ∷ q) zero = refl
coef-scaled a (b ∷ q) (suc i) = coef-scaled a q i

pub coef-times_zero : (p q : List ℕ) → coef (times p q) 0 ≡ coef p 0 * coef q 0
unfolding times
coef-times_zero [] q = sym (N.zero-mul (coef q 0))
coef-times_zero (a ∷ p) q = coef-plus (scaled a q) _ 0 ∙ omega (arith, coef-scaled a q 0)

pub coef-times-suc : (p q : List ℕ) (k : ℕ) → coef (times p q) (suc k) ≡ coef p 0 * coef q (suc k) + coef (times (tail p) q) k
unfolding times
coef-times-suc [] q k = omega arith
coef-times-suc (a ∷ p) q k = coef-plus (scaled a q) (0 ∷ times p q) (suc k) ∙ omega (arith, coef-scaled a q (suc k))

coef_tail : (p : List ℕ) (i : ℕ) → coef (tail p) i ≡ coef p (suc i)
coef_tail [] i = refl
coef_tail (a ∷ p) i = refl

pub coef-times : (p q : List ℕ) (k : ℕ) → coef (times p q) k ≡ sum (suc k) (λ i. coef p i * coef q (k - i))
unfolding sum
coef-times p q zero = omega (arith, coef-times_zero p q)
coef-times p q (suc k) = coef-times-suc p q k
    ∙ ap₂ ◌+◌ (ap (λ (j : ℕ). coef p 0 * coef q j) (sym (N.sub-zero (suc k))))
    (coef-times (tail p) q k ∙ sum_ext (suc k) _ _ (λ i l. ap₂ (λ (x j : ℕ). x * coef q j) (coef_tail p i) (sym (N.suc-sub-suc k i))))
    ∙ sym (sum_first (suc k) (λ i. coef p i * coef q (suc k - i)))

module _ (m : ℕ) (pos : 0 < m) where
  pub after-end : {r s : ℕ} (g : List ℕ) {h : List ℕ} → 0 < s → P.Monic m s h → ((i : ℕ) → r < i → coef g i % m ≡ 0 % m)
      → (coef (after g h) (r * s) % m ≡ coef g r % m) × ((i : ℕ) → r * s < i → coef (after g h) i % m ≡ 0 % m)
  after-end {r} {s} g {h} sp mh z = (at_residue m pos (after g h) (r * s) (coef g r) (lead.top ∙ residue_at m pos g r (coef g r) refl), λ i l. at_residue m pos (after g h) i 0 (lead.deg.above i l))
    where
      Z : A.Ring
      Z = residues m pos

      lead : Lead Z (r * s) (⟦ Z ⟧ g r) (⟦ Z ⟧ (after g h))
      lead = subst (λ f. Lead Z (r * s) (⟦ Z ⟧ g r) f) (sym (after-compose m pos (suc r) g h (λ i l. residue_at m pos g i 0 (z i l))))
          (subst (λ c. Lead Z (r * s) c (compose Z (suc r) (⟦ Z ⟧ g) (⟦ Z ⟧ h))) (ap (Residues.rmul m pos (⟦ Z ⟧ g r)) (pow-one Z r) ∙ A.mul-one Z _) (lead-compose Z (monic_series m pos mh) sp r (⟦ Z ⟧ g)))

  pub after-monic : {r s : ℕ} {g h : List ℕ} → 0 < s → P.Monic m r g → P.Monic m s h → P.Monic m (r * s) (after g h)
  after-monic {g = g} sp mg mh = let (top, above) = after-end g sp mh mg.above in record { top = top ∙ mg.top; above = above }

  pub power-monic : {s : ℕ} {h : List ℕ} → P.Monic m s h → (i : ℕ) → P.Monic m (i * s) (power h i)
  power-monic {s} {h} mh i = monic_list m pos (subst (λ p. Monic (residues m pos) (i * s) p) (sym (eval-power (Q m pos) h i _)) (monic-pow (residues m pos) (monic_series m pos mh) i))
