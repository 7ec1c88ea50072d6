use Prim.Native.Nat.{◌-◌}
use Rattle.inner.specs.Inner.{inner}
use Rattle.inner.proofs.inner_sum.Given as goal

-- the terms below i
abbrev pub invariant-loop-i : goal.invariant-loop-i
invariant-loop-i g l = g.S.Sum.holds l.w (l.i - l.lo) (inner l.a l.b l.k l.lo (l.i - l.lo))
