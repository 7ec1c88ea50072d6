use Rattle.built.proofs.Joining as law
use Rattle.built.proofs.Built.repeated.Given as goal

abbrev pub invariant-loop-i : goal.invariant-loop-i
invariant-loop-i l = law.Powered l.m.number l.self.coefficients l.i l.v
