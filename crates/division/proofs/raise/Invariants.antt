use Prim.Native.Nat.{◌≤◌}
use Rattle.division.specs.Division.{Raised}
use Rattle.division.proofs.raise.Given as goal

abbrev pub invariant-loop-i : goal.invariant-loop-i
invariant-loop-i l = (l.i ≤ l.k) × Raised l.m.number l.h l.s l.i l.b
