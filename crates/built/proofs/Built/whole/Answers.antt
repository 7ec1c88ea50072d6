use Rattle.built.specs.Built.{low, high}
use Rattle.built.proofs.Built.whole.Goals as goal

pub returns-then-spills : goal.returns-then-spills
returns-then-spills c = high (c.spills.ensures.yes c.if-spills.true)

pub returns : goal.returns
returns c = low (c.spills.ensures.no c.if-spills.false) c.product.ensures
