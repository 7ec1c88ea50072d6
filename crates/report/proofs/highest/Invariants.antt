use Rattle.report.proofs.Reporting.{Scanned}
use Rattle.report.proofs.highest.Given as goal

abbrev pub invariant-loop-j : goal.invariant-loop-j
invariant-loop-j l = Scanned l.s l.p l.j
