use Prim.Native.Nat.{◌-◌, ◌≤◌}
use Rattle.binomial.proofs.Pascal.{Stepped}
use Rattle.binomial.proofs.next.Given as goal

abbrev pub invariant-loop-i : goal.invariant-loop-i
invariant-loop-i l = (1 ≤ l.i) × Stepped l.j l.top (l.i - 1) l.b
