use Rattle.desk.proofs.Telling.{checked_told}
use Rattle.desk.proofs.desk_check.Goals as goal

pub returns : goal.returns
returns c = checked_told c.check-x.result c.check-x.ensures c.unwrap_or_default-c.ensures (rw c.err.ensures.value at c.told.ensures)
