use Prim.Native.Nat.{◌*◌, ◌<◌}
use lib.ListN.{length}
use Rattle.report.specs.Report.{Expanded}
use Rattle.report.proofs.all_digits.Given as goal

abbrev pub invariant-loop-i : goal.invariant-loop-i
invariant-loop-i l = (l.i * l.k * l.s < length l.p) × Expanded l.m.number l.h l.s (l.i * l.k) l.initial.p l.p
