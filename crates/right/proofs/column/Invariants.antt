use mathlib.Core.Path.{◌≡◌}
use Prim.Native.Nat.{◌+◌, ◌*◌, ◌≤◌}
use Rattle.right.specs.Rows.{Column}
use Rattle.right.proofs.column.Given as goal

abbrev pub invariant-loop-i : goal.invariant-loop-i
invariant-loop-i l = (l.i ≤ l.n) × (l.at ≡ l.i * l.w + l.k) × Column l.m.number l.w l.k l.i l.initial.t l.t
