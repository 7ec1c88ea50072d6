use mathlib.Core.Path.{◌≡◌}
use mathlib.Core.Bool.{not, ◌&&◌}
use lib.Dec.{eqb}
use Rattle.refusal.specs.Refusal.{Answered, refuse}
use Rattle.refusal.specs.declared.Concerns.TheVariants.{Neither}
use Rattle.refusal.specs.declared.Reason.TheVariants.{Sheet}
use Rattle.record.specs.Record.{word}
use Rattle.sheet.specs.Sheet.{record_at, used}
use Rattle.sheet.specs.Checks.{each}
use Rattle.sheet_records.proofs.check_moduli.Given as goal

abbrev pub invariant-loop-i : goal.invariant-loop-i
invariant-loop-i l = each l.i (λ i. refuse (used (record_at l.sheet i) && not (eqb (word (record_at l.sheet i) 0) l.m)) Neither Sheet) ≡ Answered
