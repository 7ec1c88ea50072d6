use mathlib.Core.Path.{◌≡◌, sym, ◌∙◌}
use native.Mathlib.Omega.{arith}
use borrow.Author.Rules.{rules}
use Rattle.std.specs.Prelude.{Err}
use Rattle.area.specs.Area.{most_parts}
use Rattle.sheet.specs.Checks.{check_parts}
use Rattle.sheet.proofs.Checking.{each_none, each_more, each_stop, each_done}
use Rattle.sheet_writer.proofs.check_parts.Goals as goal

pub loop-i-init : goal.loop-i-init
loop-i-init c = each_none _

pub returns-in_err-check_part : goal.returns-in_err-check_part
unfolding most_parts check_parts
returns-in_err-check_part c =
    let e : c.from_residual.result ≡ Err c.in_err-check_part.field-0.0 = search rules in
    rw e (each_stop _ most_parts _ (omega arith) c.loop-i.invariant (sym c.check_part.ensures ∙ c.in_err-check_part.was))

pub loop-i-preserved : goal.loop-i-preserved
unfolding most_parts
loop-i-preserved c = each_more _ c.loop-i.invariant (sym c.check_part.ensures ∙ c.in_ok-check_part.was)

pub returns : goal.returns
unfolding most_parts check_parts
returns c = each_done _ most_parts (omega arith) (omega arith) c.loop-i.invariant
