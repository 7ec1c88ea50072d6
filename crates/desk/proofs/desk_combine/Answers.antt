use Rattle.desk.proofs.Telling.{made_told}
use Rattle.desk.proofs.desk_combine.Goals as goal

pub returns : goal.returns
returns c = made_told c.combine-x.result (rw (c.make.ensures, c.make-2.ensures) at c.combine-x.ensures) c.unwrap_or-c.ensures (rw c.err.ensures.value at c.told.ensures)
