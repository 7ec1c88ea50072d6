use Rattle.algebra.specs.Polynomial.{limit, terms}
use Rattle.desk.proofs.Telling.{answer_told}
use Rattle.desk.proofs.desk_change_polynomial.Goals as goal

pub returns : goal.returns
unfolding terms limit
returns c = answer_told c.change_polynomial-x.result (rw c.make.ensures at c.change_polynomial-x.ensures) c.unwrap_or-p.ensures (rw c.err.ensures.value at c.told.ensures)
