use Rattle.desk.proofs.Telling.{parts_told}
use Rattle.desk.proofs.desk_change_pair.Goals as goal

pub returns : goal.returns
returns c = parts_told c.change_pair-x.result (rw c.make.ensures at c.change_pair-x.ensures) c.unwrap_or_default-c.ensures (rw c.err.ensures.value at c.told.ensures)
