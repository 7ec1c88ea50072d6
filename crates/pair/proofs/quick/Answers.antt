use mathlib.Core.Path.{◌≡◌, refl, sym, ◌∙◌}
use native.Mathlib.Omega.{arith}
use borrow.Author.Rules.{rules}
use Rattle.std.specs.Prelude.{Err}
use Rattle.refusal.specs.Refusal.{naming_none}
use Rattle.refusal.specs.declared.Reason.TheVariants.{Factor}
use Rattle.algebra.specs.Polynomial.{limit, terms}
use Rattle.inverse.proofs.Inverses.{inverse-coprime, shared_not_coprime}
use Rattle.pair.specs.Asking.{refused, shared}
use Rattle.pair.proofs.Answering.{quick_told}
use Rattle.pair.proofs.Determined.{split_modulus, split_given}
use Rattle.pair.proofs.quick.Goals as goal

pub check_split-requires : goal.check_split-requires
unfolding terms limit
check_split-requires c = record { long = omega arith; is = c.degree-n.ensures }

pub returns-in_err-check_split : goal.returns-in_err-check_split
returns-in_err-check_split c =
    let e : c.from_residual.result ≡ Err c.in_err-check_split.field-0.0 = search rules in
    rw (e, ← c.modulus-m.ensures) (refused (sym c.check_split.ensures ∙ c.in_err-check_split.was) refl)

-- the modulus passed No. 1
pub invert-requires : goal.invert-requires
unfolding terms limit
invert-requires c = split_modulus _ _ (omega arith) (sym c.check_split.ensures ∙ c.in_ok-check_split.was)

-- No. 5
pub returns-in_err-u : goal.returns-in_err-u
returns-in_err-u c =
    let e : c.from_residual-in_err-u.result ≡ Err (naming_none Factor) = search rules in
    rw (e, ← c.modulus-m.ensures) (shared (sym c.check_split.ensures ∙ c.in_ok-check_split.was) (shared_not_coprime c.in_err-u.ensures) refl)

pub at_left-d-requires : goal.at_left-d-requires
unfolding terms limit
at_left-d-requires c = (split_given (omega arith) (sym c.check_split.ensures ∙ c.in_ok-check_split.was) c.degree-n.ensures).degrees

pub new-requires : goal.new-requires
unfolding terms limit
new-requires c = split_modulus _ _ (omega arith) (sym c.check_split.ensures ∙ c.in_ok-check_split.was)

pub report-requires : goal.report-requires
unfolding terms limit
report-requires c =
    let d = c.at_left-d.ensures in
    (rw (d.0, d.1, d.2, c.new.ensures) (split_given (omega arith) (sym c.check_split.ensures ∙ c.in_ok-check_split.was) c.degree-n.ensures), c.row_for.ensures, rw (d.1, c.new.ensures) c.in_ok-u.ensures.1)

pub returns : goal.returns
returns c =
    rw (← c.modulus-m.ensures)
    (quick_told _ _ _ (sym c.check_split.ensures ∙ c.in_ok-check_split.was) c.degree-n.ensures (inverse-coprime c.in_ok-u.ensures) (rw (c.at_left-d.ensures.1, c.at_left-d.ensures.2, c.new.ensures) at c.report.ensures))
