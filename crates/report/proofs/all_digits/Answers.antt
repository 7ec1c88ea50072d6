use mathlib.Core.Path.{◌≡◌}
use Prim.Native.Nat.{◌+◌, ◌*◌, ◌-◌, ◌/◌}
use native.Mathlib.Nat.{zero-mul, div-mul-le_self}
use native.Mathlib.Omega.{arith}
use lib.ListN.{length-drop}
use Rattle.division.proofs.Pieces.{lent, returned}
use Rattle.report.proofs.Reporting.{digits-end, whole_block, expanded_none, expanded_asked, expanded_more}
use Rattle.report.proofs.all_digits.Goals as goal

pub loop-i-init : goal.loop-i-init
loop-i-init c = rw (zero-mul c.args.k, zero-mul c.args.s) (c.requires.0.some, expanded_none c.requires.0)

pub digits_at_once-requires : goal.digits_at_once-requires
digits_at_once-requires c =
    let p = c.requires in
    let a = c.args in
    let l = c.loop-i in
    let n = l.i * a.k in
    let e = digits-end n a.k a.r a.s (whole_block l.i a.k a.r c.loop-i-test.true) in
    rw (lent (n * a.s) l.p) (expanded_asked p.0 l.invariant.1 l.invariant.0, p.1, p.2, omega (arith, e, p.3, l.invariant.1.long, length-drop (n * a.s) l.p))

pub loop-i-preserved : goal.loop-i-preserved
loop-i-preserved c =
    let p = c.requires in
    let a = c.args in
    let l = c.loop-i in
    let n = l.i * a.k in
    let f : (l.i + 1) * a.k ≡ n + a.k = omega arith in
    let g : (n + a.k) * a.s ≡ n * a.s + a.k * a.s = omega arith in
    let e = digits-end n a.k a.r a.s (whole_block l.i a.k a.r c.loop-i-test.true) in
    let x = expanded_more p.0 l.invariant.1 (omega (arith, l.invariant.0)) (rw (lent (n * a.s) l.p) at c.digits_at_once.ensures) in
    rw (f, returned (n * a.s) l.p _) (omega (arith, e, g, p.3, x.long), x)

pub each_digit-requires : goal.each_digit-requires
each_digit-requires c =
    let p = c.requires in
    let a = c.args in
    let f : c.loop-i.i ≡ a.r / a.k = omega arith in
    let l = rw f at c.loop-i.invariant in
    let n = a.r / a.k * a.k in
    let e = digits-end n (a.r - n) a.r a.s (omega (arith, div-mul-le_self a.r a.k)) in
    rw (lent (n * a.s) c.loop-i.p) (expanded_asked p.0 l.1 l.0, omega (arith, e, p.3, l.1.long, length-drop (n * a.s) c.loop-i.p))

pub returns : goal.returns
returns c =
    let p = c.requires in
    let a = c.args in
    let f : c.loop-i.i ≡ a.r / a.k = omega arith in
    let l = rw f at c.loop-i.invariant in
    let n = a.r / a.k * a.k in
    let e : n + (a.r - n) ≡ a.r = omega (arith, div-mul-le_self a.r a.k) in
    rw (returned (n * a.s) c.loop-i.p _) (rw e at (expanded_more p.0 l.1 (omega (arith, l.0)) (rw (lent (n * a.s) c.loop-i.p) at c.each_digit.ensures)))
