use Prim.Native.Nat.{◌*◌, ◌≤◌}
use lib.ListN.{length}
use Rattle.report.specs.Report.{Expanded}
use Rattle.report.proofs.each_digit.Given as goal

abbrev pub invariant-loop-i : goal.invariant-loop-i
invariant-loop-i l = (l.i ≤ l.n) × (l.i * l.s ≤ length l.p) × Expanded l.m.number l.h l.s l.i l.initial.p l.p
