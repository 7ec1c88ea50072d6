use Prim.Native.Nat.{◌+◌}
use native.Mathlib.Nat.{mul-le-mul}
use native.Mathlib.Omega.{arith}
use Rattle.binomial.specs.Triangle.{rows}
use Rattle.binomial.proofs.start.Goals as goal

pub overflow_add-result : goal.overflow_add-result
unfolding rows
overflow_add-result c = omega arith

-- so that it fits a word
pub overflow_mul-result : goal.overflow_mul-result
unfolding rows
overflow_mul-result c = let n = c.args.j in omega (arith, mul-le-mul {n₁ = n} {m₁ = n + 1} {n₂ = rows} {m₂ = rows} (omega arith) (omega arith))
