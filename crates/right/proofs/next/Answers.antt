use mathlib.Core.Path.{◌∙◌, refl}
use native.Mathlib.Omega.{arith}
use lib.ListN.{length-set}
use Rattle.algebra.specs.Polynomial.{limit, terms}
use Rattle.binomial.specs.Triangle.{rows}
use Rattle.right.specs.Rows.{words}
use Rattle.right.proofs.Columns.{left_twice, right_twice, column_room, column_strides, rows_next}
use Rattle.right.proofs.next.Goals as goal

pub column-requires : goal.column-requires
column-requires c =
    let p = c.requires in
    record { long = p.rows.0.room.long; inside = omega arith; few = omega arith; room = column_room c.args.d.fit c.min-last.ensures (omega arith) (omega arith) }

pub strided_product-x-requires : goal.strided_product-x-requires
unfolding limit rows
strided_product-x-requires c =
    let p = c.requires in
    column_strides c.args.d.fit c.min-last.ensures (omega arith) (omega (arith, left_twice c.args.d.fit, p.asked.1))
    (length-set c.column.new.t c.args.k _ ∙ c.column.ensures.long ∙ p.rows.0.room.long)

pub bounds-t-k-2 : goal.bounds-t-k-2
unfolding limit terms words
bounds-t-k-2 c =
    rw (length-set c.column.new.t c.args.k _)
    (omega (arith, right_twice c.args.d.fit, c.column.ensures.long, c.requires.rows.0.room.long))

pub returns : goal.returns
unfolding limit terms words
returns c =
    let p = c.requires in
    let d = c.args.d.fit in
    let q = right_twice d in
    rows_next _ _ _ c.min-last.ensures p.rows.0 c.column.ensures d.two_left (omega arith) (omega arith) (omega arith)
    (omega (arith, c.column.ensures.long, p.rows.0.room.long)) refl (p.asked.0.below _ (omega arith)) c.strided_product-x.ensures
