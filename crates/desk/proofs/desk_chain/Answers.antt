use Rattle.desk.proofs.Telling.{chained_told}
use Rattle.desk.proofs.desk_chain.Goals as goal

pub returns : goal.returns
returns c = chained_told c.chain-x.result c.chain-x.ensures c.unwrap_or_default-c.ensures (rw c.err.ensures.value at c.told.ensures)
