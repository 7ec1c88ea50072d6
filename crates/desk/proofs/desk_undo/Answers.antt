use Rattle.desk.proofs.Telling.{made_told}
use Rattle.desk.proofs.desk_undo.Goals as goal

pub returns : goal.returns
returns c = made_told c.undo-x.result (rw c.make.ensures at c.undo-x.ensures) c.unwrap_or-c.ensures (rw c.err.ensures.value at c.told.ensures)
