use Prim.Native.Nat.{◌*◌}
use Rattle.left.proofs.Expanding.{Reached}
use Rattle.left.proofs.digits.Given as goal

abbrev pub invariant-loop-i : goal.invariant-loop-i
invariant-loop-i l = Reached l.m.number l.h l.s l.initial.p (l.i * l.s) l.p
