-- The changes themselves: (1, 0) is neutral, combining is associative, and what comes of proper changes is proper.
--
--   combine_associative                            three changes, in either grouping
--   combine_identity-left, combine_identity-right  (1, 0) before and after a change whose numbers are below m
--   identity_proper, combined_proper, undone_proper     (1, 0), a combination and what undoes a change are proper
use mathlib.Core.Path.{◌≡◌, refl, sym, ap, ap₂, ◌∙◌}
use Prim.Native.Nat.{ℕ, ◌+◌, ◌*◌, ◌%◌, ◌<◌}
use native.Mathlib.Nat as N
use native.Mathlib.Omega.{arith}
use Rattle.algebra.proofs.Numbers.{mod-mul-mod, mul-mod-mod}
use Rattle.algebra.proofs.Factors.{invertible-coprime, invertible-one, invertible-mul}
use Rattle.algebra.proofs.Changes.{undoes_sym, undoes-invertible}
use Rattle.algebra.proofs.Congruent.{from_eq, reduced, turn, plus, times, ◌then◌}
use Rattle.change.specs.declared.Change.{Change}
use Rattle.change.specs.Changing.{identity, Proper, combined_change, Undone}
use Rattle.change.proofs.Determined.{change, modulus_positive, proper_invertible}

-- three changes, in either grouping
pub combine_associative : (m : ℕ) (c d e : Change) → combined_change m (combined_change m c d) e ≡ combined_change m c (combined_change m d e)
combine_associative m c d e =
    let flat : c.unit * d.unit * e.origin + (c.unit * d.origin + c.origin) ≡ (d.unit * e.origin + d.origin) * c.unit + c.origin = omega arith in
    ap₂ change
    (mod-mul-mod (c.unit * d.unit) e.unit m ∙ ap (λ (x : ℕ). x % m) (N.mul_assoc c.unit d.unit e.unit) ∙ sym (mul-mod-mod c.unit (d.unit * e.unit) m))
    ((plus _ (times e.origin (reduced refl))).same ∙ N.add-mod-mod _ _ m ∙ ap (λ (x : ℕ). x % m) flat
    ∙ (plus c.origin (times c.unit (turn (reduced refl)) then from_eq (N.mul_comm _ c.unit))).same)

module _ {m : ℕ} {c : Change} where
  -- (1, 0), then c
  pub combine_identity-left : c.unit < m → c.origin < m → combined_change m identity c ≡ c
  combine_identity-left a b = rw (N.one-mul c.unit, N.one-mul c.origin, N.add-zero c.origin, N.mod-eq_of_lt a, N.mod-eq_of_lt b)

  -- c, then (1, 0)
  pub combine_identity-right : c.unit < m → c.origin < m → combined_change m c identity ≡ c
  combine_identity-right a b = rw (N.mul-one c.unit, N.mul-zero c.unit, N.zero-add c.origin, N.mod-eq_of_lt a, N.mod-eq_of_lt b)

  -- what undoes a proper change is proper
  pub undone_proper : {d : Change} → Proper m c → Undone m c d → Proper m d
  undone_proper p k =
      let pos = modulus_positive p in
      record { unit_below = k.unit_below; origin_below = k.origin_below; invertible = invertible-coprime m pos (undoes-invertible pos (undoes_sym pos k.undoes)) }

  -- a combination of proper changes is proper
  pub combined_proper : {d : Change} → Proper m c → Proper m d → Proper m (combined_change m c d)
  combined_proper {d} p q =
      let pos = modulus_positive p in
      let i = invertible-mul (proper_invertible p) (proper_invertible q) in
      record {
        unit_below = N.mod-lt _ pos;
        origin_below = N.mod-lt _ pos;
        invertible = invertible-coprime m pos (record { inverse = i.inverse; unit = mul-mod-mod i.inverse (c.unit * d.unit) m ∙ i.unit });
      }

-- (1, 0) is proper
pub identity_proper : {m : ℕ} → 1 < m → Proper m identity
identity_proper {m} l = record { unit_below = l; origin_below = omega arith; invertible = invertible-coprime m (omega arith) (invertible-one m) }
