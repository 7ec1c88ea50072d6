use mathlib.Core.Path.{◌≡◌}
use mathlib.Core.List.{◌++◌}
use Prim.Native.Nat.{◌*◌}
use lib.ListN.{length, drop}
use Rattle.refusal.specs.Refusal.{Answered}
use Rattle.algebra.specs.Polynomial.{terms}
use Rattle.sheet.specs.Sheet.{record_at, joined, held}
use Rattle.sheet.specs.Checks.{each, check_placed}
use Rattle.sheet_records.proofs.take_records.Given as goal

abbrev pub invariant-loop-i : goal.invariant-loop-i
invariant-loop-i l = (length l.area ≡ length l.initial.area) × (each l.i (λ i. check_placed (record_at l.sheet i) i) ≡ Answered) × (l.area ≡ joined l.i (held l.sheet) ++ drop (l.i * terms) l.initial.area)
