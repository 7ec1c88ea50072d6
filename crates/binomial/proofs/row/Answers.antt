use mathlib.Core.Path.{refl}
use Rattle.binomial.specs.Triangle.{rows}
use Rattle.binomial.proofs.Pascal.{row_first}
use Rattle.binomial.proofs.row.Goals as goal

pub loop-j-init : goal.loop-j-init
unfolding rows
loop-j-init c = (row_first c.requires.1, refl)
