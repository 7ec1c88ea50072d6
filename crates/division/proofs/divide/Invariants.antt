use Rattle.division.proofs.Dividing.{Dividing}
use Rattle.division.proofs.divide.Given as goal

abbrev pub invariant-loop-i : goal.invariant-loop-i
invariant-loop-i l = Dividing l.m.number l.h l.s l.initial.p l.i l.p
