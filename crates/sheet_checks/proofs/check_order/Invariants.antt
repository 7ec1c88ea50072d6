use mathlib.Core.Path.{◌≡◌}
use mathlib.Core.Bool.{not}
use Rattle.refusal.specs.Refusal.{Answered, refuse}
use Rattle.refusal.specs.declared.Concerns.TheVariants.{Neither}
use Rattle.refusal.specs.declared.Reason.TheVariants.{Sheet}
use Rattle.area.specs.Area.{place}
use Rattle.sheet.specs.Sheet.{used}
use Rattle.sheet.specs.Checks.{each, in_order}
use Rattle.sheet_checks.proofs.check_order.Given as goal

abbrev pub invariant-loop-i : goal.invariant-loop-i
invariant-loop-i l = each l.i (λ i. refuse (not (in_order (λ i. used (place l.area i)) i)) Neither Sheet) ≡ Answered
