use mathlib.Core.Path.{◌≡◌}
use Prim.Native.Nat.{◌+◌, ◌*◌, ◌-◌, ◌/◌}
use native.Mathlib.Omega.{arith}
use lib.ListN.{length, length-drop, take-append-drop}
use Rattle.division.proofs.Pieces.{lent, returned}
use Rattle.left.proofs.Expanding.{piece, last_piece, reached-more, reached-no, reached_last, reached_asked, flat_digits}
use Rattle.left.proofs.digits.Goals as goal

pub returns-then-not-digit : goal.returns-then-not-digit
returns-then-not-digit c =
    let l = c.loop-i in
    let at = l.i * c.args.s in
    rw (returned at l.p _) (reached-no c.requires.above_zero l.invariant 1 (rw (lent at l.p) at c.digit.ensures) c.if-not-digit.true)

pub loop-i-preserved : goal.loop-i-preserved
loop-i-preserved c =
    let l = c.loop-i in
    let at = l.i * c.args.s in
    let e : (l.i + 1) * c.args.s ≡ l.i * c.args.s + c.args.s = omega arith in
    let more = piece _ c.args.s l.i c.requires.some c.loop-i-test.true in
    rw (e, returned at l.p _) (reached-more c.requires.above_zero l.invariant 1 (omega arith) (omega (arith, more)) (rw (lent at l.p) at c.digit.ensures) c.if-not-digit.false)

pub returns : goal.returns
returns c =
    let d = c.requires in
    let l = c.loop-i in
    let e : l.i ≡ (length c.args.p.now - 1) / c.args.s = omega arith in
    let at = (length c.args.p.now - 1) / c.args.s * c.args.s in
    let reached = rw e at l.invariant in
    let short = last_piece (length c.args.p.now) c.args.s d.above_zero in
    rw (take-append-drop at l.p) at (reached_last d.above_zero reached (flat_digits (reached_asked d.above_zero reached d) (omega (arith, length-drop at l.p, short)) (rw (lent at l.p) at c.is_constant.ensures)))
