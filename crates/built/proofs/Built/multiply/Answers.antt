use Rattle.built.specs.Built.{left, right, both}
use Rattle.built.proofs.Built.multiply.Goals as goal

pub returns-in_default : goal.returns-in_default
returns-in_default c = rw c.in_default.is left

pub returns-in_default-b : goal.returns-in_default-b
returns-in_default-b c = rw c.in_default-b.is right

pub returns : goal.returns
returns c = rw (c.in-Some.is, c.in-Some-b.is) (both c.whole.ensures)
