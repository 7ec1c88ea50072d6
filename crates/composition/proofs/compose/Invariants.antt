use Rattle.composition.proofs.Horner.{Partly}
use Rattle.composition.proofs.compose.Given as goal

-- p is what Horner's rule has after g's terms from x^i on
abbrev pub invariant-loop-i : goal.invariant-loop-i
invariant-loop-i l = Partly l.m.number l.r l.s l.g l.h l.i l.d l.p
