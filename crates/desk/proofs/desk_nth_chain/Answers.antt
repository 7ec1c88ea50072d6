use Rattle.desk.proofs.Telling.{chosen_told}
use Rattle.desk.proofs.desk_nth_chain.Goals as goal

pub returns : goal.returns
returns c = chosen_told c.nth_chain-x.result c.nth_chain-x.ensures c.unwrap_or_default-c.ensures (rw c.err.ensures.value at c.told.ensures)
