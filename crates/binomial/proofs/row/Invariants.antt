use mathlib.Core.Path.{◌≡◌}
use lib.ListN.{length}
use Rattle.binomial.specs.Triangle.{rows, HasRow}
use Rattle.binomial.proofs.row.Given as goal

abbrev pub invariant-loop-j : goal.invariant-loop-j
invariant-loop-j l = HasRow l.j l.top l.b × (length l.b ≡ rows)
