use Rattle.text_writer.proofs.Putting as law
use Rattle.text_writer.proofs.put_lowers.Given as goal

abbrev pub invariant-loop-k : goal.invariant-loop-k
invariant-loop-k l = law.Lowering l.f l.n l.initial.out l.at l.out l.k l.end
