use native.Mathlib.Omega.{arith}
use Rattle.binomial.proofs.Pascal.{row_to}
use Rattle.pair.proofs.Forcing.{below_rows}
use Rattle.pair.proofs.split_at.Goals as goal

pub row-requires : goal.row-requires
row-requires c = (below_rows c.args.d.fit).0

pub split_by-requires : goal.split_by-requires
split_by-requires c = (c.requires, row_to (omega arith) c.row.ensures)
