use Rattle.algebra.specs.Polynomial.{limit}
use Rattle.numeral.proofs.Counting as law
use Rattle.numeral.proofs.exponent.Goals as goal

pub returns-in_err-n : goal.returns-in_err-n
returns-in_err-n c = rw c.from_residual.ensures (law.power-none _ _ c.in_err-n.ensures)

pub returns-then-n : goal.returns-then-n
unfolding limit
returns-then-n c = law.power_over _ _ c.if-n.true c.in_ok-n.ensures

pub returns : goal.returns
unfolding limit
returns c = (c.in_ok-n.ensures, c.if-n.false)
