use mathlib.Core.Path.{◌≡◌}
use Prim.Native.Nat.{◌+◌, ◌-◌, ◌*◌, ◌^◌, ◌<◌}
use Rattle.inner.specs.Inner.{strided}
use Rattle.inner.proofs.strided_sum.Given as goal

-- the terms below i, and the place that goes with it
abbrev pub invariant-loop-i : goal.invariant-loop-i
invariant-loop-i g l = (l.j ≡ l.at + (l.i - l.lo) * l.step) × (l.j < 2 ^ 62) × g.S.Sum.holds l.w (l.i - l.lo) (strided l.a l.b l.lo l.at l.step (l.i - l.lo))
