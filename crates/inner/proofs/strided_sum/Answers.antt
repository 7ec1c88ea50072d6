use mathlib.Core.Path.{◌≡◌, refl}
use Prim.Native.Nat.{◌+◌, ◌-◌}
use native.Mathlib.Nat.{sub_self}
use native.Mathlib.Omega.{arith}
use Rattle.inner.proofs.Inner.{strided-none, strided_next, stride-start, stride-inside, stride_next}
use Rattle.inner.proofs.strided_sum.Goals as goal

pub loop-i-init : goal.loop-i-init
loop-i-init g c =
    let a = c.args in
    (stride-start _ _ _, omega arith, rw (sub_self a.lo, strided-none a.a.now a.b.now a.lo a.at a.step) c.none-w.ensures)

pub bounds-b-j : goal.bounds-b-j
bounds-b-j g c = stride-inside _ c.requires (omega arith) c.loop-i.invariant.0

pub loop-i-preserved : goal.loop-i-preserved
loop-i-preserved g c =
    let a = c.args in
    let l = c.loop-i in
    let e : l.i + 1 - a.lo ≡ l.i - a.lo + 1 = omega arith in (
      stride_next _ _ _ l.invariant.0 (omega arith),
      omega (arith, stride-inside (l.i - a.lo) c.requires (omega arith) l.invariant.0),
      rw (strided_next a.a.now a.b.now a.lo a.at a.step l.i l.j (omega arith) l.invariant.0 refl, e) (c.more-w.ensures _ _ (omega arith) l.invariant.2),
    )
