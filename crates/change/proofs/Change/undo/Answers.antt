use mathlib.Core.Path.{◌≡◌, refl, sym, ◌∙◌}
use borrow.Author.Rules.{rules}
use Rattle.std.specs.Prelude.{Err}
use Rattle.polynomial.proofs.Acceptance.{accepted-modulus}
use Rattle.change.specs.Changing.{refused, not_proper, undone}
use Rattle.change.proofs.Change.undo.Goals as goal

pub returns-in_err-check_modulus : goal.returns-in_err-check_modulus
returns-in_err-check_modulus c =
    let e : c.from_residual.result ≡ Err c.in_err-check_modulus.field-0.0 = search rules in
    rw (e, ← c.modulus-m.ensures) (refused (sym c.check_modulus.ensures ∙ c.in_err-check_modulus.was) refl)

pub new-requires : goal.new-requires
new-requires c = accepted-modulus (sym c.check_modulus.ensures ∙ c.in_ok-check_modulus.was)

-- No. 8
pub returns-in_err-tested : goal.returns-in_err-tested
returns-in_err-tested c =
    let (n, is) = c.in_err-tested.ensures in
    let e : c.from_residual-in_err-tested.result ≡ Err c.in_err-tested.field-0.0 = search rules in
    rw (e, is, ← c.modulus-m.ensures) (not_proper (sym c.check_modulus.ensures ∙ c.in_ok-check_modulus.was) (rw c.new.ensures at n) refl)

pub undone-requires : goal.undone-requires
undone-requires c =
    let (p, m, a, b, l) = c.in_ok-tested.ensures in
    (rw m l, rw (m, b) p.origin_below)

pub returns : goal.returns
returns c =
    let (p, m, a, b, l) = c.in_ok-tested.ensures in
    let d = rw (m, a, b, c.new.ensures) at c.undone.ensures in
    rw (← c.modulus-m.ensures) (undone (sym c.check_modulus.ensures ∙ c.in_ok-check_modulus.was) (rw c.new.ensures at p) d refl)
