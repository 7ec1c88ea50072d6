use Rattle.algebra.specs.Polynomial.{limit, terms}
use Rattle.desk.proofs.Telling.{answer_told}
use Rattle.desk.proofs.desk_read_text.Goals as goal

pub returns : goal.returns
unfolding terms limit
returns c = answer_told c.read-x.result c.read-x.ensures c.unwrap_or-p.ensures (rw c.err.ensures.value at c.told.ensures)
