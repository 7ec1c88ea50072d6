use Prim.Native.Nat.{◌-◌, ◌≤◌}
use Rattle.sheets.specs.Sheets.{Makes}
use Rattle.reading.specs.Reading.{most_read}
use Rattle.reading.proofs.Running.{Ran}
use Rattle.sheets.proofs.run.Given as goal

abbrev pub invariant-loop-taken : goal.invariant-loop-taken
invariant-loop-taken l = (l.taken ≤ most_read) × Ran Makes l.taken l.buf

abbrev pub decreases-loop-taken : goal.decreases-loop-taken
decreases-loop-taken l = most_read - l.taken
