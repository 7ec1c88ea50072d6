use mathlib.Core.Path.{◌≡◌}
use Prim.Native.Nat.{◌+◌, ◌<◌}
use native.Mathlib.Omega.{arith}
use Rattle.algebra.specs.Polynomial.{limit, terms}
use Rattle.right.specs.Rows.{words}
use Rattle.right.proofs.Columns.{column_none, column_more, column_place}
use Rattle.right.proofs.column.Goals as goal

pub loop-i-init : goal.loop-i-init
loop-i-init c = (omega arith, omega arith, column_none)

pub inner_product-x-requires : goal.inner_product-x-requires
unfolding words terms limit
inner_product-x-requires c =
    let p : c.loop-i.at + c.args.w < words = omega (arith, column_place c.loop-i.i c.args.n c.args.w c.args.k (omega arith) (omega arith) c.requires.room) in
    record { order = omega arith; first = omega arith; down = omega arith; second = omega arith; few = omega arith }

pub loop-i-preserved : goal.loop-i-preserved
loop-i-preserved c =
    let l = c.loop-i in (
      omega arith,
      omega arith,
      column_more (omega arith) (omega arith) (omega arith) l.invariant.1 (omega (arith, column_place c.loop-i.i c.args.n c.args.w c.args.k (omega arith) (omega arith) c.requires.room)) (omega arith) c.inner_product-x.ensures l.invariant.2,
    )

pub returns : goal.returns
returns c = let e : c.loop-i.i ≡ c.args.n = omega arith in rw e at c.loop-i.invariant.2
