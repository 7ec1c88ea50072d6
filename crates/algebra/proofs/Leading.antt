-- The leading terms of g(h) force the right part.
--
--   right-part-leading     where r has an inverse, the s leading terms of g(h) tell h, if h(0) = 0
use mathlib.Core.Path.{◌≡◌, refl, sym, ap, ◌∙◌}
use mathlib.Core.List.{List}
use Prim.Native.Nat.{ℕ, zero, suc, ◌+◌, ◌*◌, ◌%◌, ◌<◌}
use native.Mathlib.Nat as N
use native.Mathlib.Omega.{arith}
use Rattle.algebra.specs.Number.{Invertible}
use Rattle.algebra.specs.Polynomial.{coef, after, Same, Monic}
use Rattle.algebra.specs.Pair.{Normal}
use Rattle.algebra.proofs.Numbers.{mod-mul-mod, mul-mod-mod}
use Rattle.algebra.proofs.Evaluation.{nat}
use Rattle.algebra.proofs.Residues.{Res, red, same, nat_red, equal→same}
use Rattle.algebra.proofs.Forced.{right-forced}
use Rattle.algebra.proofs.Polynomials.{monic_series, residue_at, after-compose}
use Rattle.algebra.proofs.Moved.{Z}
use Rattle.algebra.proofs.Residues

module _ (m : ℕ) (pos : 0 < m) where
  pub right-part-leading : {r s : ℕ} {g g' h h' : List ℕ} → 0 < r → Invertible m r
      → Monic m r g → Monic m r g' → Monic m s h → Monic m s h' → Normal m h → Normal m h'
      → ((i : ℕ) → r * s < i + s → coef (after g h) i % m ≡ coef (after g' h') i % m) → Same m h h'
  unfolding red Residues.rmul
  right-part-leading {r = zero} rp inv mg mg' mh mh' z z' e = absurd (N.not-suc-le-zero rp)
  right-part-leading {r = suc r} {s = s} {g = g} {g' = g'} {h = h} {h' = h'} rp inv mg mg' mh mh' z z' e =
      equal→same m pos (right-forced (Z m pos) (monic_series m pos mh) (monic_series m pos mh') r (red m pos inv.inverse) unit _ _ (monic_series m pos mg).top (monic_series m pos mg').top
      (λ i l. ap (λ (p : ℕ → Res m pos). p i) (sym (after-compose m pos (suc (suc r)) g h (monic_series m pos mg).deg.above)) ∙ residue_at m pos (after g h) i (coef (after g' h') i) (e i (omega arith))
      ∙ sym (residue_at m pos (after g' h') i _ refl) ∙ ap (λ (p : ℕ → Res m pos). p i) (after-compose m pos (suc (suc r)) g' h' (monic_series m pos mg').deg.above))
      (residue_at m pos h 0 0 z.constant) (residue_at m pos h' 0 0 z'.constant))
    where
      unit : Residues.rmul m pos (red m pos inv.inverse) (nat (Z m pos) (suc r)) ≡ red m pos 1
      unit = ap (Residues.rmul m pos (red m pos inv.inverse)) (nat_red m pos (suc r)) ∙ same m pos (mod-mul-mod inv.inverse _ m ∙ mul-mod-mod inv.inverse (suc r) m ∙ inv.unit)
