use mathlib.Core.Path.{◌≡◌, refl}
use Prim.Native.Nat.{◌+◌, ◌-◌}
use native.Mathlib.Nat.{sub_self}
use native.Mathlib.Omega.{arith}
use Rattle.inner.proofs.Inner.{inner-none, inner_next}
use Rattle.inner.proofs.inner_sum.Goals as goal

pub loop-i-init : goal.loop-i-init
loop-i-init g c = rw (sub_self c.args.lo, inner-none c.args.a.now c.args.b.now c.args.k c.args.lo) c.none-w.ensures

pub loop-i-preserved : goal.loop-i-preserved
loop-i-preserved g c =
    let a = c.args in
    let l = c.loop-i in
    let e : l.i + 1 - a.lo ≡ l.i - a.lo + 1 = omega arith in
    rw (inner_next a.a.now a.b.now a.k a.lo l.i (omega arith) refl, e) (c.more-w.ensures _ _ (omega arith) l.invariant)
