use mathlib.Core.Path.{◌≡◌}
use Prim.Native.Nat.{◌+◌, ◌≤◌}
use Rattle.right.specs.Rows.{Rows}
use Rattle.right.proofs.root.Given as goal

abbrev pub invariant-loop-k : goal.invariant-loop-k
invariant-loop-k l = (1 ≤ l.k) × (l.k ≤ l.k-end) × (l.k-end ≡ l.d.right + 2) × Rows l.m.number l.f l.d.whole l.d.left (l.d.right + 2) l.b l.k l.t
