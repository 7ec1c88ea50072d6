use Prim.Native.Nat.{◌≤◌}
use Rattle.right.proofs.Turning.{Turned}
use Rattle.right.proofs.upside.Given as goal

abbrev pub invariant-loop-k : goal.invariant-loop-k
invariant-loop-k l = (1 ≤ l.k) × (l.k ≤ l.s) × Turned l.s l.k l.t l.h
