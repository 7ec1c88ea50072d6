-- What an operation goes by: the test of a change, and the change that undoes one.
--
--   proper_by, inverts_by    an inverse of the unit makes a change proper, and can be handed on
--   undone-is                (1/a, -b/a) undoes (a, b)
use mathlib.Core.Path.{◌≡◌, sym, ◌∙◌}
use Prim.Native.Nat.{ℕ, ◌+◌, ◌*◌, ◌-◌, ◌%◌, ◌<◌}
use native.Mathlib.Nat as N
use native.Mathlib.Omega.{arith}
use Rattle.algebra.specs.Number.{Modulus}
use Rattle.inverse.specs.Inverse.{InverseIs}
use Rattle.std.specs.Prelude.{Ok}
use Rattle.algebra.proofs.Congruent.{Congruent, from_eq, reduced, plus, times, turn, ◌then◌}
use Rattle.inverse.proofs.Inverses.{inverse-coprime}
use Rattle.moving.specs.Moving.{Inverts}
use Rattle.change.specs.declared.Change.{Change}
use Rattle.change.specs.Changing.{Proper, Undone}

-- an inverse of the unit makes a change proper, and can be handed on
pub proper_by : {m u : ℕ} {c : Change} → c.unit < m → c.origin < m → InverseIs c.unit m (Ok u) → Proper m c
proper_by a b i = record { unit_below = a; origin_below = b; invertible = inverse-coprime i }

pub inverts_by : {m a u : ℕ} → Modulus m → InverseIs a m (Ok u) → Inverts m a u
inverts_by {m} {a} {u} w i = record { modulus = w; unit = (from_eq (N.mul_comm u a) then turn (reduced (sym i.1))).same }

-- (1/a, -b/a) undoes (a, b)
pub undone-is : {m u minus v : ℕ} {c : Change} → Inverts m c.unit u → u < m → c.origin < m → minus ≡ (0 + (m - c.origin)) % m → v ≡ u * minus % m
    → Undone m c (record { unit = u; origin = v })
undone-is {m} {u} {minus} {v} {c} e l b k d =
    let flipped : c.unit * v + c.origin ≡ v * c.unit + c.origin = omega arith in
    let regrouped : u * minus * c.unit + c.origin ≡ u * c.unit * minus + c.origin = omega arith in
    let once : 1 * minus + c.origin ≡ minus + c.origin = omega arith in
    let wholly : 0 + (m - c.origin) + c.origin ≡ m = omega arith in
    record {
      unit_below = l;
      origin_below = rw d (N.mod-lt (u * minus) (omega arith));
      undoes = record {
        unit = (from_eq (N.mul_comm c.unit u) then inverse).same;
        origin = (from_eq flipped then plus c.origin (times c.unit (reduced d)) then from_eq regrouped then plus c.origin (times minus inverse)
            then from_eq once then plus c.origin (reduced k) then from_eq wholly).same ∙ N.mod_self m ∙ sym (N.zero-mod m);
      };
    }
  where
    inverse : Congruent m (u * c.unit) 1
    inverse = record { same = e.unit }
