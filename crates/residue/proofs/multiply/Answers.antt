use Rattle.std.proofs.Common.{◌∙◌, refl}
use Rattle.residue.proofs.multiply.Goals as goal

pub returns-then-m-eq-MACHINE_WORDS : goal.returns-then-m-eq-MACHINE_WORDS
returns-then-m-eq-MACHINE_WORDS c = rw c.if-m-eq-MACHINE_WORDS.true refl

pub returns : goal.returns
returns c = c.remainder.ensures ∙ rw c.whole.ensures
