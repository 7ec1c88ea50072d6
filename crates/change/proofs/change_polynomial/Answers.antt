use mathlib.Core.Path.{◌≡◌, refl, sym, ◌∙◌}
use native.Mathlib.Omega.{arith}
use borrow.Author.Rules.{rules}
use Rattle.std.specs.Prelude.{Err}
use Rattle.algebra.specs.Polynomial.{limit, terms}
use Rattle.polynomial.proofs.Acceptance.{accepted-modulus, accepted-one, accepted_as}
use Rattle.change.specs.Changing.{refused, not_proper, changed}
use Rattle.change.proofs.change_polynomial.Goals as goal

pub check_one-requires : goal.check_one-requires
unfolding terms limit
check_one-requires c = search rules

pub returns-in_err-check_one : goal.returns-in_err-check_one
returns-in_err-check_one c =
    let e : c.from_residual.result ≡ Err c.in_err-check_one.field-0.0 = search rules in
    rw (e, ← c.modulus-m.ensures) (refused (sym c.check_one.ensures ∙ c.in_err-check_one.was) refl)

pub new-requires : goal.new-requires
unfolding terms limit
new-requires c = accepted-modulus (accepted-one (omega arith) (sym c.check_one.ensures ∙ c.in_ok-check_one.was)).modulus

-- No. 8
pub returns-in_err-c : goal.returns-in_err-c
returns-in_err-c c =
    let (n, is) = c.in_err-c.ensures in
    let e : c.from_residual-in_err-c.result ≡ Err c.in_err-c.field-0.0 = search rules in
    rw (e, is, ← c.modulus-m.ensures) (not_proper (sym c.check_one.ensures ∙ c.in_ok-check_one.was) (rw c.new.ensures at n) refl)

pub changed-requires : goal.changed-requires
unfolding terms limit
changed-requires c =
    let f = accepted-one (omega arith) (sym c.check_one.ensures ∙ c.in_ok-check_one.was) in
    rw (c.in_ok-c.ensures.1, c.new.ensures) (accepted_as c.degree-n.ensures f).1

pub returns : goal.returns
returns c =
    let (p, m, a, b, l) = c.in_ok-c.ensures in
    let k = rw (m, c.new.ensures, a, b, c.degree-n.ensures) at c.changed.ensures in
    rw (← c.modulus-m.ensures)
    (changed (sym c.check_one.ensures ∙ c.in_ok-check_one.was) (rw c.new.ensures at p) k.reduced k.changed refl)
