-- What may be divided again.
--
--   remainder_asked     a remainder
--   raised_asked        what h divides, by h^k
use mathlib.Core.Path.{◌≡◌}
use mathlib.Core.List.{List}
use Prim.Native.Nat.{ℕ, ◌*◌, ◌≤◌, ◌<◌}
use native.Mathlib.Nat as N
use native.Mathlib.Omega.{arith}
use lib.ListN.{length, take}
use lib.Seq.{length-take-le}
use Rattle.polynomial.proofs.Below.{take_below}
use Rattle.division.specs.Division.{DivisionAsked, Divided, Raised}

-- a remainder may be divided again
pub remainder_asked : {m s w : ℕ} (v : ℕ) {h b p q : List ℕ} → DivisionAsked m s h p → Divided m b w p q → 0 < v → v ≤ length p → DivisionAsked m s h (take v q)
remainder_asked {m} {s} {w} v {h} {b} {p} {q} d c above l =
    let wide : length (take v q) ≡ v = length-take-le v q (rw c.long l) in
    record {
      modulus = d.modulus;
      right = d.right;
      above_zero = d.above_zero;
      below = take_below (omega (arith, d.modulus.above_one)) v q (λ i _. c.below i);
      some = rw wide above;
      inside = omega (arith, wide, d.inside);
    }

-- and what h divides, h^k does
pub raised_asked : {m s k : ℕ} {h b p : List ℕ} → DivisionAsked m s h p → Raised m h s k b → 0 < k → DivisionAsked m (k * s) b p
raised_asked {s = s} {k = k} d r l = record { modulus = d.modulus; right = r.held; above_zero = omega (arith, d.above_zero, N.mul-le-mul_right {m = 1} {n = k} s l); below = d.below; some = d.some; inside = d.inside }
