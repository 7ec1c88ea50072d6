use mathlib.Core.Path.{◌≡◌, sym, ◌∙◌}
use borrow.Author.Rules.{rules}
use Rattle.std.specs.Prelude.{Err}
use Rattle.pair.proofs.Answering.{checked_stopped, checked_fit, checked_misfit}
use Rattle.pair.proofs.check_split.Goals as goal

pub returns-in_err-check_one : goal.returns-in_err-check_one
returns-in_err-check_one c =
    let e : c.from_residual.result ≡ Err c.in_err-check_one.field-0.0 = search rules in
    rw e (checked_stopped _ _ _ (sym c.check_one.ensures ∙ c.in_err-check_one.was))

pub returns-then-not-fits : goal.returns-then-not-fits
returns-then-not-fits c =
    rw c.into.ensures (checked_misfit _ _ _ (sym c.check_one.ensures ∙ c.in_ok-check_one.was) c.requires.is c.fits.ensures c.if-not-fits.true)

pub returns : goal.returns
returns c = checked_fit _ _ _ (sym c.check_one.ensures ∙ c.in_ok-check_one.was) c.requires.is c.fits.ensures c.if-not-fits.false
