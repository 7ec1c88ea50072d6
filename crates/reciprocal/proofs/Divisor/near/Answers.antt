use native.Mathlib.Nat.{lt_of_le_of_lt}
use native.Mathlib.Omega.{arith}
use Rattle.reciprocal.proofs.Reciprocals.{reciprocal_near, less_multiple}
use Rattle.reciprocal.proofs.Divisor.near.Goals as goal

pub overflow_mul-result : goal.overflow_mul-result
overflow_mul-result c =
    let m = c.args.self in
    record { fits = lt_of_le_of_lt (reciprocal_near _ _ _ _ m.modulus m.beside (omega arith) c.high.ensures).0 (omega arith) }

pub overflow_sub-result : goal.overflow_sub-result
overflow_sub-result c =
    let m = c.args.self in
    (reciprocal_near _ _ _ _ m.modulus m.beside (omega arith) c.high.ensures).0

pub returns : goal.returns
returns c =
    let m = c.args.self in
    let (below, above) = reciprocal_near _ _ _ _ m.modulus m.beside (omega arith) c.high.ensures in
    (less_multiple _ _ _ below, omega arith)
