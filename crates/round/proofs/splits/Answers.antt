use Rattle.round.proofs.Rounds.{searched_splits}
use Rattle.round.proofs.splits.Goals as goal

pub inverse-v-requires : goal.inverse-v-requires
inverse-v-requires c = (c.requires.modulus, c.requires.coprime)

pub first_split-requires : goal.first_split-requires
first_split-requires c = (c.requires, c.inverse-v.ensures)

pub returns : goal.returns
returns c = rw c.is_some.ensures (searched_splits _ c.first_split.result.split c.requires c.first_split.ensures)
