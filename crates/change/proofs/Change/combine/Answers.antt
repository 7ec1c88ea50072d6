use mathlib.Core.Path.{◌≡◌, refl, sym, ◌∙◌}
use borrow.Author.Rules.{rules}
use Rattle.std.specs.Prelude.{Err}
use Rattle.polynomial.proofs.Acceptance.{accepted-modulus}
use Rattle.change.specs.Changing.{refused, first_improper, second_improper, combined}
use Rattle.change.proofs.Change.combine.Goals as goal

pub returns-in_err-check_modulus : goal.returns-in_err-check_modulus
returns-in_err-check_modulus c =
    let e : c.from_residual.result ≡ Err c.in_err-check_modulus.field-0.0 = search rules in
    rw (e, ← c.modulus-m.ensures) (refused (sym c.check_modulus.ensures ∙ c.in_err-check_modulus.was) refl)

pub new-d-requires : goal.new-d-requires
new-d-requires c = accepted-modulus (sym c.check_modulus.ensures ∙ c.in_ok-check_modulus.was)

-- No. 8
pub returns-in_err-tested : goal.returns-in_err-tested
returns-in_err-tested c =
    let (n, is) = c.in_err-tested.ensures in
    let e : c.from_residual-in_err-tested.result ≡ Err c.in_err-tested.field-0.0 = search rules in
    rw (e, is, ← c.modulus-m.ensures) (first_improper (sym c.check_modulus.ensures ∙ c.in_ok-check_modulus.was) (rw c.new-d.ensures at n) refl)

pub returns-in_err-tested-2 : goal.returns-in_err-tested-2
returns-in_err-tested-2 c =
    let (n, is) = c.in_err-tested-2.ensures in
    let e : c.from_residual-in_err-tested-2.result ≡ Err c.in_err-tested-2.field-0.0 = search rules in
    rw (e, is, ← c.modulus-m.ensures) (second_improper (sym c.check_modulus.ensures ∙ c.in_ok-check_modulus.was) (rw c.new-d.ensures at c.in_ok-tested.ensures.0) (rw c.new-d.ensures at n) refl)

pub returns : goal.returns
returns c =
    rw (← c.modulus-m.ensures, ← c.new-d.ensures)
    (combined (rw c.new-d.ensures (sym c.check_modulus.ensures ∙ c.in_ok-check_modulus.was)) c.in_ok-tested.ensures.0 c.in_ok-tested-2.ensures.0 (rw c.combined.ensures refl))
