use native.Mathlib.Omega.{arith}
use Rattle.reciprocal.proofs.Reciprocals.{once, twice}
use Rattle.reciprocal.proofs.Divisor.remainder.Goals as goal

pub returns-then-r-self : goal.returns-then-r-self
returns-then-r-self c = once _ c.near-r.ensures.0 (omega arith)

pub returns-else-r-self : goal.returns-else-r-self
returns-else-r-self c = twice _ c.near-r.ensures.0 (omega arith) (omega arith)
