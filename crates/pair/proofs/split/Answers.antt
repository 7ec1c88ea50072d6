use mathlib.Core.Path.{◌≡◌, refl, sym, ◌∙◌}
use native.Mathlib.Omega.{arith}
use borrow.Author.Rules.{rules}
use Rattle.std.specs.Prelude.{Err}
use Rattle.algebra.specs.Polynomial.{limit, terms}
use Rattle.pair.specs.Pairing.{refused}
use Rattle.pair.proofs.Answering.{split_told}
use Rattle.pair.proofs.Determined.{split_modulus, split_given}
use Rattle.pair.proofs.split.Goals as goal

pub check_split-requires : goal.check_split-requires
unfolding terms limit
check_split-requires c = record { long = omega arith; is = c.degree-n.ensures }

pub returns-in_err-check_split : goal.returns-in_err-check_split
returns-in_err-check_split c =
    let e : c.from_residual.result ≡ Err c.in_err-check_split.field-0.0 = search rules in
    rw (e, ← c.modulus-m.ensures) (refused (sym c.check_split.ensures ∙ c.in_err-check_split.was) refl)

pub at_left-d-requires : goal.at_left-d-requires
unfolding terms limit
at_left-d-requires c = (split_given (omega arith) (sym c.check_split.ensures ∙ c.in_ok-check_split.was) c.degree-n.ensures).degrees

-- the modulus passed No. 1
pub new-requires : goal.new-requires
unfolding terms limit
new-requires c = split_modulus _ _ (omega arith) (sym c.check_split.ensures ∙ c.in_ok-check_split.was)

pub split_by-requires : goal.split_by-requires
unfolding terms limit
split_by-requires c = let d = c.at_left-d.ensures in (rw (d.0, d.1, d.2, c.new.ensures) (split_given (omega arith) (sym c.check_split.ensures ∙ c.in_ok-check_split.was) c.degree-n.ensures), c.row_for.ensures)

pub returns : goal.returns
returns c = rw (← c.modulus-m.ensures) (split_told _ _ _ (sym c.check_split.ensures ∙ c.in_ok-check_split.was) c.degree-n.ensures (rw (c.at_left-d.ensures.1, c.at_left-d.ensures.2, c.new.ensures) at c.split_by.ensures))
