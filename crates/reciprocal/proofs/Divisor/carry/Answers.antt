use Prim.Native.Nat.{◌^◌}
use native.Mathlib.Omega.{arith}
use Rattle.reciprocal.proofs.Reciprocals.{reciprocal_sides, carry_is}
use Rattle.reciprocal.proofs.Divisor.carry.Goals as goal

pub overflow_mul-result : goal.overflow_mul-result
overflow_mul-result c = record { fits = omega (arith, (reciprocal_sides _ _ c.args.self.modulus c.args.self.beside).0) }

pub overflow_sub-result : goal.overflow_sub-result
overflow_sub-result c = (reciprocal_sides _ _ c.args.self.modulus c.args.self.beside).0

pub overflow_add-result : goal.overflow_add-result
overflow_add-result c = record { fits = omega (arith, reciprocal_sides _ _ c.args.self.modulus c.args.self.beside) }

pub returns : goal.returns
returns c =
    let (below, above) = reciprocal_sides _ _ c.args.self.modulus c.args.self.beside in
    (carry_is (2 ^ 64) _ _ (omega arith) below, omega arith)
