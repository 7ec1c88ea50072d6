use Rattle.inverse.proofs.Euclid.{Euclid}
use Rattle.inverse.proofs.invert.Given as goal

abbrev pub invariant-loop-y : goal.invariant-loop-y
invariant-loop-y l = Euclid l.a l.m l.x l.y l.s l.t

abbrev pub decreases-loop-y : goal.decreases-loop-y
decreases-loop-y l = l.y
