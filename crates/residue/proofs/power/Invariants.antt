use Rattle.residue.proofs.Powers.{Powers}
use Rattle.residue.proofs.power.Given as goal

abbrev pub invariant-loop-left : goal.invariant-loop-left
invariant-loop-left l = Powers l.m.number l.a l.n l.result l.square l.left

abbrev pub decreases-loop-left : goal.decreases-loop-left
decreases-loop-left l = l.left
