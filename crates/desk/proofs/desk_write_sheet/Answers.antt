use Rattle.desk.proofs.Telling.{sheet_told}
use Rattle.desk.proofs.desk_write_sheet.Goals as goal

pub returns : goal.returns
returns c = sheet_told c.write.result c.write.ensures (rw c.err.ensures.value at c.told.ensures)
