use mathlib.Core.Path.{◌≡◌, refl, sym, ◌∙◌}
use native.Mathlib.Omega.{arith}
use borrow.Author.Rules.{rules}
use Rattle.std.specs.Prelude.{Err}
use Rattle.refusal.specs.Refusal.{naming_none}
use Rattle.refusal.specs.declared.Reason.TheVariants.{Factor}
use Rattle.algebra.specs.Polynomial.{terms, limit}
use Rattle.polynomial.proofs.Acceptance.{accepted-modulus, accepted-one, accepted_as}
use Rattle.inverse.proofs.Inverses.{inverse-coprime, shared_not_coprime}
use Rattle.chains.specs.Choosing.{refused, shared}
use Rattle.chains.proofs.Answering.{count-told}
use Rattle.chains.proofs.count_chains.Goals as goal

pub check_one-requires : goal.check_one-requires
unfolding terms limit
check_one-requires c = record { long = omega arith; is = c.degree-n.ensures }

-- Nos. 1 to 4
pub returns-in_err-check_one : goal.returns-in_err-check_one
returns-in_err-check_one c =
    let e : c.from_residual.result ≡ Err c.in_err-check_one.field-0.0 = search rules in
    rw (e, ← c.modulus-m.ensures) (refused (sym c.check_one.ensures ∙ c.in_err-check_one.was) refl)

-- the modulus passed No. 1
pub invert-requires : goal.invert-requires
unfolding terms limit
invert-requires c = accepted-modulus (accepted-one (omega arith) (sym c.check_one.ensures ∙ c.in_ok-check_one.was)).modulus

-- No. 5
pub returns-in_err-invert : goal.returns-in_err-invert
returns-in_err-invert c =
    let e : c.from_residual-in_err-invert.result ≡ Err (naming_none Factor) = search rules in
    rw (e, ← c.modulus-m.ensures) (shared (sym c.check_one.ensures ∙ c.in_ok-check_one.was) (rw c.degree-n.ensures at (shared_not_coprime c.in_err-invert.ensures)) refl)

pub new-requires : goal.new-requires
unfolding terms limit
new-requires c = accepted-modulus (accepted-one (omega arith) (sym c.check_one.ensures ∙ c.in_ok-check_one.was)).modulus

pub count-requires : goal.count-requires
unfolding terms limit
count-requires c =
    let (w, held, two) = accepted_as c.degree-n.ensures (accepted-one (omega arith) (sym c.check_one.ensures ∙ c.in_ok-check_one.was)) in
    rw c.new.ensures (record { modulus = w; whole = held; two = two; coprime = inverse-coprime c.in_ok-invert.ensures })

-- the number
pub returns : goal.returns
returns c =
    rw (← c.modulus-m.ensures)
    (count-told (sym c.check_one.ensures ∙ c.in_ok-check_one.was) c.degree-n.ensures (inverse-coprime c.in_ok-invert.ensures) (rw c.new.ensures at c.count.ensures))
