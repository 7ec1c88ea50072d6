use mathlib.Core.Path.{sym, ap, ◌∙◌}
use mathlib.Core.Bool.{Bool, not}
use native.Mathlib.Omega.{arith}
use Rattle.refusal.specs.Refusal.{refuse}
use Rattle.refusal.specs.declared.Concerns.TheVariants.{Neither}
use Rattle.refusal.specs.declared.Reason.TheVariants.{Sheet}
use Rattle.area.specs.Area.{most_parts}
use Rattle.sheet.specs.Checks.{check_order}
use Rattle.sheet.proofs.Checking.{each_none, each_more, each_stop, each_done}
use Rattle.sheet_checks.proofs.check_order.Goals as goal

pub loop-i-init : goal.loop-i-init
loop-i-init c = each_none _

pub returns-then-not-in_order : goal.returns-then-not-in_order
unfolding most_parts check_order
returns-then-not-in_order c =
    rw c.into.ensures (each_stop _ most_parts _ (omega arith) c.loop-i.invariant (ap (λ (t : Bool). refuse (not t) Neither Sheet) (sym c.in_order.ensures ∙ c.if-not-in_order.true)))

pub loop-i-preserved : goal.loop-i-preserved
unfolding most_parts
loop-i-preserved c =
    each_more _ c.loop-i.invariant (ap (λ (t : Bool). refuse (not t) Neither Sheet) (sym c.in_order.ensures ∙ c.if-not-in_order.false))

pub returns : goal.returns
unfolding most_parts check_order
returns c = each_done _ most_parts (omega arith) (omega arith) c.loop-i.invariant
