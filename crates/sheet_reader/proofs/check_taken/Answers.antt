use mathlib.Core.Path.{◌≡◌, sym, ◌∙◌}
use borrow.Author.Rules.{rules}
use Rattle.std.specs.Prelude.{Err}
use Rattle.sheet.proofs.Checking.{order_ext}
use Rattle.sheet_reader.proofs.check_taken.Goals as goal

pub returns-in_err-check_order : goal.returns-in_err-check_order
returns-in_err-check_order c =
    let e : c.from_residual.result ≡ Err c.in_err-check_order.field-0.0 = search rules in
    rw (e, ← order_ext _ _ c.requires.2.is) (simp (sym c.check_order.ensures ∙ c.in_err-check_order.was))

pub returns-in_err-check_moduli : goal.returns-in_err-check_moduli
returns-in_err-check_moduli c =
    let e : c.from_residual-in_err-check_moduli.result ≡ Err c.in_err-check_moduli.field-0.0 = search rules in
    rw (e, ← order_ext _ _ c.requires.2.is) (simp (sym c.check_order.ensures ∙ c.in_ok-check_order.was, sym c.check_moduli.ensures ∙ c.in_err-check_moduli.was))

pub returns : goal.returns
returns c =
    rw (← order_ext _ _ c.requires.2.is) (simp (sym c.check_order.ensures ∙ c.in_ok-check_order.was, sym c.check_moduli.ensures ∙ c.in_ok-check_moduli.was) c.check_product.ensures)
