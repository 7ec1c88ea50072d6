use native.Mathlib.Omega.{arith}
use Rattle.algebra.specs.Polynomial.{limit, terms}
use Rattle.right.proofs.Turning.{turned_none, turned_more, turned-end}
use Rattle.right.proofs.upside.Goals as goal

pub loop-k-init : goal.loop-k-init
unfolding terms limit
loop-k-init c = (omega arith, omega arith, turned_none)

pub loop-k-preserved : goal.loop-k-preserved
loop-k-preserved c = (omega arith, omega arith, turned_more (omega arith) (omega arith) (omega arith) c.loop-k.invariant.2)

pub returns : goal.returns
returns c = turned-end (omega arith) (omega arith) (omega arith) c.loop-k.invariant.2
