use Rattle.change.proofs.Answering.{undone-is}
use Rattle.change.proofs.undone.Goals as goal

pub returns : goal.returns
returns c = undone-is c.args.c.inverts c.requires.0 c.requires.1 c.subtract-minus.ensures c.multiply.ensures
