use mathlib.Core.Path.{◌≡◌, sym, ◌∙◌}
use native.Mathlib.Omega.{arith}
use borrow.Author.Rules.{rules}
use Rattle.std.specs.Prelude.{Err}
use Rattle.algebra.specs.Polynomial.{limit, terms}
use Rattle.composition.proofs.Horner.{held-ends}
use Rattle.pair.proofs.Answering.{composed-refused, composed-told}
use Rattle.polynomial.proofs.Acceptance.{accepted-modulus, accepted-pair, accepted_as}
use Rattle.pair.proofs.compose.Goals as goal

pub check_pair-requires : goal.check_pair-requires
unfolding terms limit
check_pair-requires c = (record { long = omega arith; is = c.degree-r.ensures }, record { long = omega arith; is = c.degree-s.ensures })

pub returns-in_err-check_pair : goal.returns-in_err-check_pair
returns-in_err-check_pair c =
    let e : c.from_residual.result ≡ Err c.in_err-check_pair.field-0.0 = search rules in
    rw (e, ← c.modulus-m.ensures) (composed-refused _ _ _ (sym c.check_pair.ensures ∙ c.in_err-check_pair.was))

-- the modulus passed No. 1
pub new-requires : goal.new-requires
unfolding terms limit
new-requires c = accepted-modulus (accepted-pair (omega arith) (omega arith) (sym c.check_pair.ensures ∙ c.in_ok-check_pair.was)).0.modulus

pub compose-requires : goal.compose-requires
unfolding terms limit
compose-requires c =
    let (ag, ah, l) = accepted-pair (omega arith) (omega arith) (sym c.check_pair.ensures ∙ c.in_ok-check_pair.was) in
    let (w, hg, g2) = accepted_as c.degree-r.ensures ag in
    let (v, hh, h2) = accepted_as c.degree-s.ensures ah in
    record { left = held-ends hg; right = held-ends hh; within = rw (c.degree-r.ensures, c.degree-s.ensures) l }

pub returns : goal.returns
returns c =
    rw (← c.modulus-m.ensures)
    (composed-told _ _ _ (sym c.check_pair.ensures ∙ c.in_ok-check_pair.was) (rw c.new.ensures at c.compose.ensures))
