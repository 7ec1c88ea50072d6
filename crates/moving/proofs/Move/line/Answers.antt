use Rattle.algebra.specs.Polynomial.{limit, terms}
use Rattle.moving.proofs.Moving.{some-line}
use Rattle.moving.proofs.Move.line.Goals as goal

-- what the stores make of an array of zeros is the line by computation
pub returns : goal.returns
unfolding terms limit
returns c = some-line
