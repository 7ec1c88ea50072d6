use mathlib.Core.Path.{◌≡◌}
use Rattle.refusal.specs.Refusal.{Answered}
use Rattle.area.specs.Area.{place}
use Rattle.sheet.specs.Checks.{each, check_part}
use Rattle.sheet_writer.proofs.check_parts.Given as goal

abbrev pub invariant-loop-i : goal.invariant-loop-i
invariant-loop-i l = each l.i (λ i. check_part l.m (place l.area i) i) ≡ Answered
