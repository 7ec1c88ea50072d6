use mathlib.Core.Path.{◌≡◌, refl}
use Prim.Native.Nat.{◌+◌, ◌*◌, ◌-◌, ◌/◌}
use native.Mathlib.Omega.{arith}
use lib.ListN.{length}
use Rattle.division.proofs.Pieces.{lent, returned}
use Rattle.left.proofs.Expanding.{piece, reached-more, reached-no, reached_last}
use Rattle.left.proofs.blocks.Goals as goal

pub returns-then-not-block : goal.returns-then-not-block
returns-then-not-block c =
    let l = c.loop-i in
    let at = l.i * (c.args.k * c.args.s) in
    rw (returned at l.p _) (reached-no c.requires.0.above_zero l.invariant _ (rw (lent at l.p) at c.block.ensures) c.if-not-block.true)

pub loop-i-preserved : goal.loop-i-preserved
loop-i-preserved c =
    let l = c.loop-i in
    let w = c.args.k * c.args.s in
    let at = l.i * w in
    let e : (l.i + 1) * w ≡ l.i * w + w = omega arith in
    let more = piece _ w l.i c.requires.0.some c.loop-i-test.true in
    rw (e, returned at l.p _) (reached-more c.requires.0.above_zero l.invariant _ refl (omega (arith, more)) (rw (lent at l.p) at c.block.ensures) c.if-not-block.false)

pub returns : goal.returns
returns c =
    let l = c.loop-i in
    let w = c.args.k * c.args.s in
    let e : l.i ≡ (length c.args.p.now - 1) / w = omega arith in
    let at = (length c.args.p.now - 1) / w * w in
    rw (returned at l.p _) (reached_last c.requires.0.above_zero (rw e at l.invariant) (rw (lent at l.p) at c.digits.ensures))
