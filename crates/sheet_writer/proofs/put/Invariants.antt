use mathlib.Core.Path.{◌≡◌}
use mathlib.Core.List.{◌++◌}
use Prim.Native.Nat.{◌*◌}
use lib.ListN.{drop}
use Rattle.area.specs.Area.{place}
use Rattle.record.specs.Record.{record_bytes}
use Rattle.sheet.specs.Sheet.{joined, recorded}
use Rattle.sheet_writer.proofs.put.Given as goal

abbrev pub invariant-loop-i : goal.invariant-loop-i
invariant-loop-i l = l.sheet ≡ joined l.i (λ i. recorded l.m (place l.area i)) ++ drop (l.i * record_bytes) l.initial.sheet
