use mathlib.Core.Path.{◌≡◌, refl, sym, ◌∙◌}
use native.Mathlib.Omega.{arith}
use borrow.Author.Rules.{rules}
use Rattle.std.specs.Prelude.{Err}
use Rattle.algebra.specs.Polynomial.{limit, terms}
use Rattle.polynomial.proofs.Acceptance.{accepted-modulus, accepted-two, accepted_as}
use Rattle.pair.specs.Pairing.{refused}
use Rattle.pair.proofs.Fitting.{fits-degrees}
use Rattle.pair.proofs.Answering.{left_stopped, left_misfit, left-told}
use Rattle.pair.proofs.left_part.Goals as goal

pub check_two-requires : goal.check_two-requires
unfolding terms limit
check_two-requires c = (record { long = omega arith; is = c.degree-n.ensures }, record { long = omega arith; is = c.degree-s.ensures })

pub returns-in_err-check_two : goal.returns-in_err-check_two
returns-in_err-check_two c =
    let e : c.from_residual.result ≡ Err c.in_err-check_two.field-0.0 = search rules in
    rw (e, ← c.modulus-m.ensures) (refused (left_stopped _ _ _ (sym c.check_two.ensures ∙ c.in_err-check_two.was)) refl)

-- No. 6
pub returns-then-not-fits : goal.returns-then-not-fits
returns-then-not-fits c =
    rw (c.into.ensures, ← c.modulus-m.ensures)
    (refused (left_misfit _ _ _ (sym c.check_two.ensures ∙ c.in_ok-check_two.was) c.degree-n.ensures c.degree-s.ensures c.fits.ensures c.if-not-fits.true) refl)

-- the modulus passed No. 1
pub new-requires : goal.new-requires
unfolding terms limit
new-requires c = accepted-modulus (accepted-two (omega arith) (omega arith) (sym c.check_two.ensures ∙ c.in_ok-check_two.was)).0.modulus

pub at_right-requires : goal.at_right-requires
unfolding terms limit
at_right-requires c =
    let (w, hf, f2) = accepted_as c.degree-n.ensures (accepted-two (omega arith) (omega arith) (sym c.check_two.ensures ∙ c.in_ok-check_two.was)).0 in
    (fits-degrees _ _ (sym c.fits.ensures ∙ c.if-not-fits.false) hf.within).0

pub left_part-requires : goal.left_part-requires
unfolding terms limit
left_part-requires c =
    let (af, ah) = accepted-two (omega arith) (omega arith) (sym c.check_two.ensures ∙ c.in_ok-check_two.was) in
    let (w, hf, f2) = accepted_as c.degree-n.ensures af in
    let (v, hh, h2) = accepted_as c.degree-s.ensures ah in
    let (n, r, s) = c.at_right.ensures in
    record { modulus = c.new.result.modulus; degrees = c.at_right.result.fit; whole = rw (n, c.new.ensures) hf; right = rw (s, c.new.ensures) hh }

pub returns : goal.returns
returns c =
    rw (← c.modulus-m.ensures)
    (left-told _ _ _ (sym c.check_two.ensures ∙ c.in_ok-check_two.was) c.degree-n.ensures c.degree-s.ensures c.fits.ensures c.if-not-fits.false (rw (c.at_right.ensures.1, c.new.ensures) at c.left_part.ensures))
