use mathlib.Core.Path.{◌≡◌}
use Prim.Native.Nat.{◌+◌, ◌-◌, ◌≤◌}
use Rattle.right.specs.Rows.{Scaled}
use Rattle.right.proofs.binomials.Given as goal

abbrev pub invariant-loop-i : goal.invariant-loop-i
invariant-loop-i l = (2 ≤ l.i) × (l.i ≤ l.i-end) × (l.i-end ≡ l.top + 1) × Scaled l.m.number l.r l.u (l.i - 1) l.b
