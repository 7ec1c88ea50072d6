use native.Mathlib.Omega.{arith}
use Rattle.binomial.specs.Triangle.{rows}
use Rattle.pair.proofs.Forcing.{below_rows}
use Rattle.pair.proofs.row_for.Goals as goal

pub overflow_add-d : goal.overflow_add-d
unfolding rows
overflow_add-d c = omega (arith, below_rows c.args.d.fit)

pub row-requires : goal.row-requires
row-requires c = let d = below_rows c.args.d.fit in (omega arith, omega arith)
