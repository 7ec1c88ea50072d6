use mathlib.Core.Path.{◌≡◌}
use Prim.Native.Nat.{◌*◌}
use native.Mathlib.Omega.{arith}
use lib.ListN.{length-drop}
use Rattle.division.proofs.Pieces.{lent, returned}
use Rattle.report.proofs.Reporting.{digits-end, expanded_none, expanded_one, expanded_asked, expanded_more}
use Rattle.report.proofs.each_digit.Goals as goal

pub loop-i-init : goal.loop-i-init
loop-i-init c = (omega arith, omega arith, expanded_none c.requires.0)

pub divide-requires : goal.divide-requires
divide-requires c =
    let p = c.requires in
    let a = c.args in
    let l = c.loop-i in
    let e = digits-end l.i 1 a.n a.s (omega (arith, c.loop-i-test.true)) in
    rw (lent (l.i * a.s) l.p) (expanded_asked p.0 l.invariant.2 (omega (arith, p.0.above_zero, p.1, l.invariant.2.long)), omega (arith, p.1, l.invariant.2.long, length-drop (l.i * a.s) l.p))

pub loop-i-preserved : goal.loop-i-preserved
loop-i-preserved c =
    let p = c.requires in
    let a = c.args in
    let l = c.loop-i in
    let e = digits-end l.i 1 a.n a.s (omega (arith, c.loop-i-test.true)) in
    let x = expanded_more p.0 l.invariant.2 l.invariant.1 (expanded_one (rw (lent (l.i * a.s) l.p) at c.divide.ensures)) in
    rw (returned (l.i * a.s) l.p _) (omega arith, omega (arith, p.1, x.long), x)

pub returns : goal.returns
returns c =
    let e : c.loop-i.i ≡ c.args.n = omega arith in
    rw e at c.loop-i.invariant.2
