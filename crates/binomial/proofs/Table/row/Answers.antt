use mathlib.Core.Path.{refl}
use native.Mathlib.Omega.{arith}
use Rattle.binomial.specs.Triangle.{rows}
use Rattle.binomial.proofs.Pascal.{table-end, table-row}
use Rattle.binomial.proofs.Table.row.Goals as goal

pub overflow_add-end : goal.overflow_add-end
unfolding rows
overflow_add-end c = omega (arith, table-end c.requires c.start-at.ensures)

pub overflow_add-end-2 : goal.overflow_add-end-2
unfolding rows
overflow_add-end-2 c = omega (arith, table-end c.requires c.start-at.ensures)

pub offset_bounds-self-at : goal.offset_bounds-self-at
unfolding rows
offset_bounds-self-at c = omega (arith, table-end c.requires c.start-at.ensures)

pub slice_bounds-result-end : goal.slice_bounds-result-end
unfolding rows
slice_bounds-result-end c = omega (arith, table-end c.requires c.start-at.ensures)

pub returns : goal.returns
returns c = table-row c.requires c.start-at.ensures (omega arith) refl c.args.self.now.exact
