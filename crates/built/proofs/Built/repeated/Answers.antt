use native.Mathlib.Omega.{arith}
use Rattle.built.proofs.Joining as law
use Rattle.built.proofs.Built.repeated.Goals as goal

pub loop-i-init : goal.loop-i-init
loop-i-init c = law.powered-none _ c.single-v.ensures

pub returns-in_err-v : goal.returns-in_err-v
returns-in_err-v c = rw c.from_residual.ensures (law.powered-high (omega arith) c.loop-i.invariant c.in_err-v.ensures (omega arith))

pub loop-i-preserved : goal.loop-i-preserved
loop-i-preserved c = law.powered-more (omega arith) c.loop-i.invariant c.in_ok-v.ensures

pub returns : goal.returns
returns c = law.powered-all (omega arith) c.loop-i.invariant
