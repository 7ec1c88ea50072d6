use mathlib.Core.Path.{◌≡◌, refl, sym, ◌∙◌}
use native.Mathlib.Omega.{arith}
use borrow.Author.Rules.{rules}
use Rattle.std.specs.Prelude.{Err}
use Rattle.algebra.specs.Polynomial.{limit, terms}
use Rattle.polynomial.proofs.Acceptance.{accepted-modulus, accepted-pair, accepted_as}
use Rattle.change.specs.Changing.{refused, not_proper, changed}
use Rattle.change.proofs.change_pair.Goals as goal

pub check_pair-requires : goal.check_pair-requires
unfolding terms limit
check_pair-requires c = search rules

pub returns-in_err-check_pair : goal.returns-in_err-check_pair
returns-in_err-check_pair c =
    let e : c.from_residual.result ≡ Err c.in_err-check_pair.field-0.0 = search rules in
    rw (e, ← c.modulus-m.ensures) (refused (sym c.check_pair.ensures ∙ c.in_err-check_pair.was) refl)

pub new-requires : goal.new-requires
unfolding terms limit
new-requires c = accepted-modulus (accepted-pair (omega arith) (omega arith) (sym c.check_pair.ensures ∙ c.in_ok-check_pair.was)).0.modulus

-- No. 8
pub returns-in_err-c : goal.returns-in_err-c
returns-in_err-c c =
    let (n, is) = c.in_err-c.ensures in
    let e : c.from_residual-in_err-c.result ≡ Err c.in_err-c.field-0.0 = search rules in
    rw (e, is, ← c.modulus-m.ensures) (not_proper (sym c.check_pair.ensures ∙ c.in_ok-check_pair.was) (rw c.new.ensures at n) refl)

pub changed_pair-requires : goal.changed_pair-requires
unfolding terms limit
changed_pair-requires c =
    let (g, h, l) = accepted-pair (omega arith) (omega arith) (sym c.check_pair.ensures ∙ c.in_ok-check_pair.was) in
    rw (c.in_ok-c.ensures.1, c.new.ensures) ((accepted_as c.degree-r.ensures g).1, (accepted_as c.degree-s.ensures h).1)

pub returns : goal.returns
returns c =
    let (p, m, a, b, l) = c.in_ok-c.ensures in
    let k = rw (m, c.new.ensures, a, b, c.degree-r.ensures, c.degree-s.ensures) at c.changed_pair.ensures in
    rw (← c.modulus-m.ensures)
    (changed (sym c.check_pair.ensures ∙ c.in_ok-check_pair.was) (rw c.new.ensures at p) k.reduced_left k.reduced_right k.pair refl)
