use Prim.Native.Nat.{◌+◌, ◌-◌, ◌/◌, ◌≤◌}
use Rattle.right.specs.Rows.{Space}
use Rattle.round.proofs.Rounds.{Passed}
use Rattle.round.proofs.first_split.Given as goal

abbrev pub invariant-loop-s : goal.invariant-loop-s
invariant-loop-s l = Passed l.m.number l.n l.f l.s l.tries × (l.s ≤ l.n / 2 + 1) × Space l.m.number l.rows

abbrev pub decreases-loop-s : goal.decreases-loop-s
decreases-loop-s l = l.s-end - l.s
