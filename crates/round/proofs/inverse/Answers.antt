use Rattle.inverse.proofs.Inverses.{inverse_found}
use Rattle.round.proofs.inverse.Goals as goal

-- n shares no factor
pub unwrap-requires : goal.unwrap-requires
unwrap-requires c = inverse_found _ c.invert.ensures c.requires.1

pub returns : goal.returns
returns c = (rw c.unwrap.ensures at c.invert.ensures).1
