use mathlib.Core.Path.{◌≡◌}
use native.Mathlib.Omega.{arith}
use Rattle.division.proofs.Raising.{raised-one, raised-room, raised-more}
use Rattle.division.proofs.raise.Goals as goal

pub loop-i-init : goal.loop-i-init
loop-i-init c =
    let p = c.requires in
    (omega arith, rw p.1 (raised-one (omega (arith, c.args.m.modulus.above_one)) p.0))

pub step-requires : goal.step-requires
step-requires c =
    let p = c.requires in
    raised-room (omega (arith, c.args.m.modulus.above_one)) p.0 c.loop-i-test.true p.3 c.loop-i.invariant.1

pub loop-i-preserved : goal.loop-i-preserved
loop-i-preserved c =
    let p = c.requires in
    (omega arith, raised-more (omega (arith, c.args.m.modulus.above_one)) p.0 c.loop-i-test.true p.3 c.loop-i.invariant.1 c.step.ensures)

pub returns : goal.returns
returns c =
    let e : c.loop-i.i ≡ c.args.k = omega arith in
    rw e at c.loop-i.invariant.1
