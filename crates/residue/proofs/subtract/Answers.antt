use Rattle.std.proofs.Common.{refl, arith}
use Rattle.algebra.proofs.Congruent.{from_eq, wrapped, remainder}
use Rattle.residue.proofs.subtract.Goals as goal

pub returns-then-m-eq-MACHINE_WORDS : goal.returns-then-m-eq-MACHINE_WORDS
returns-then-m-eq-MACHINE_WORDS c = rw c.if-m-eq-MACHINE_WORDS.true refl

pub returns-then-b-a : goal.returns-then-b-a
returns-then-b-a c = remainder (omega arith) (wrapped (omega arith))

pub returns-else-b-a : goal.returns-else-b-a
returns-else-b-a c = remainder (omega arith) (from_eq (omega arith))
