use Rattle.desk.proofs.Telling.{numbered_told}
use Rattle.desk.proofs.desk_count_chains.Goals as goal

pub returns : goal.returns
returns c = numbered_told c.count_chains-x.result c.count_chains-x.ensures c.unwrap_or.ensures (rw c.err.ensures.value at c.told.ensures)
