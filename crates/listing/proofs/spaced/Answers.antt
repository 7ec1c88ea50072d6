use mathlib.Core.Path.{◌≡◌, refl}
use native.Mathlib.Omega.{arith}
use lib.ListN.{length, length-set}
use lib.Seq.{take_all}
use Rattle.digits.specs.Digits.{most_digits}
use Rattle.listing.specs.Text.{most_field}
use Rattle.listing.proofs.Text.{put-none, put-number}
use Rattle.listing.proofs.spaced.Goals as goal

pub loop-n-init : goal.loop-n-init
loop-n-init c = put-none _ _ _

pub bounds-out-end : goal.bounds-out-end
unfolding most_field most_digits
bounds-out-end c = omega (arith, c.loop-n.invariant.within, c.loop-n.auto.out)

pub digits-end-requires : goal.digits-end-requires
unfolding most_field most_digits
digits-end-requires c = simp length-set (omega (arith, c.loop-n.invariant.within, c.loop-n.auto.out))

pub loop-n-preserved : goal.loop-n-preserved
loop-n-preserved c = put-number c.args.numbers.now c.loop-n-test.true refl c.loop-n.invariant c.digits-end.ensures

pub returns : goal.returns
returns c =
    let all : c.loop-n.n-index ≡ length c.args.numbers.now = omega (arith, c.loop-n.auto.n-index-end) in
    rw (all, take_all (length c.args.numbers.now) c.args.numbers.now (omega arith)) at c.loop-n.invariant
