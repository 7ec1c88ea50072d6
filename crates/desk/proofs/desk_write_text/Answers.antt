use Rattle.desk.proofs.Telling.{text_told}
use Rattle.desk.proofs.desk_write_text.Goals as goal

pub returns : goal.returns
returns c = text_told c.write-x.result c.write-x.ensures c.unwrap_or.ensures (rw c.err.ensures.value at c.told.ensures)
