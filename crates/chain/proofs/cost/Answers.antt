use native.Mathlib.Omega.{arith}
use Rattle.algebra.specs.Chain.{cost}
use Rattle.chain.proofs.cost.Goals as goal

pub returns : goal.returns
unfolding cost
returns c p e = omega (arith, e)
