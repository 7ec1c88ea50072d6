use mathlib.Core.Path.{◌≡◌, refl}
use Prim.Native.Nat.{◌<◌}
use native.Mathlib.Omega.{arith}
use Rattle.algebra.specs.Polynomial.{terms}
use Rattle.division.proofs.Dividing.{dividing_none, dividing_more, dividing_range, divided}
use Rattle.division.proofs.divide.Goals as goal

pub loop-i-init : goal.loop-i-init
loop-i-init c = dividing_none refl c.requires.0.below

pub inner_product-x-requires : goal.inner_product-x-requires
unfolding terms
inner_product-x-requires c =
    let p = c.requires.0 in
    let e = c.loop-i.invariant.long in
    dividing_range (omega arith) (omega arith) (omega arith) (omega arith) (omega (arith, p.right.within, p.right.reduced.long)) p.right.reduced.long c.saturating_sub-lo.ensures c.min-hi.ensures

pub loop-i-preserved : goal.loop-i-preserved
loop-i-preserved c =
    let above_zero : 0 < c.args.m.number = omega (arith, c.args.m.modulus.above_one) in
    dividing_more _ above_zero (omega arith) (omega arith) (omega arith) (omega arith) (omega arith) (omega arith) c.inner_product-x.ensures c.subtract.ensures c.loop-i.invariant

pub returns : goal.returns
returns c =
    let e : c.loop-i.i ≡ 0 = omega arith in
    divided c.requires.0 (rw e at c.loop-i.invariant)
