use mathlib.Core.Path.{◌≡◌, refl, sym, ◌∙◌}
use native.Mathlib.Omega.{arith}
use borrow.Author.Rules.{rules}
use Rattle.std.specs.Prelude.{Err}
use Rattle.refusal.specs.Refusal.{naming_none}
use Rattle.refusal.specs.declared.Reason.TheVariants.{Factor}
use Rattle.algebra.specs.Polynomial.{terms, limit}
use Rattle.polynomial.proofs.Acceptance.{accepted-modulus, accepted-one, accepted-above, accepted_as}
use Rattle.inverse.proofs.Inverses.{inverse-coprime, shared_not_coprime}
use Rattle.area.specs.Area.{most_parts, area_words}
use Rattle.chains.specs.Choosing.{short, refused, shared}
use Rattle.chains.proofs.Answering.{nth_beyond, nth-told}
use Rattle.chains.proofs.nth_chain.Goals as goal

-- No. 11
pub returns-then-area-lt-WORDS : goal.returns-then-area-lt-WORDS
unfolding terms limit most_parts area_words
returns-then-area-lt-WORDS c = rw c.into.ensures (short c.if-area-lt-WORDS.true refl refl)

pub clear-requires : goal.clear-requires
unfolding terms limit most_parts area_words
clear-requires c = search rules

pub check_one-requires : goal.check_one-requires
unfolding terms limit
check_one-requires c = record { long = omega arith; is = c.degree-n.ensures }

-- Nos. 1 to 4
pub returns-in_err-check_one : goal.returns-in_err-check_one
unfolding terms limit most_parts area_words
returns-in_err-check_one c =
    let e : c.from_residual.result ≡ Err c.in_err-check_one.field-0.0 = search rules in
    rw (e, ← c.modulus-m.ensures) (refused c.if-area-lt-WORDS.false (sym c.check_one.ensures ∙ c.in_err-check_one.was) c.clear.ensures refl)

-- the modulus passed No. 1
pub invert-requires : goal.invert-requires
unfolding terms limit
invert-requires c = accepted-modulus (accepted-one (omega arith) (sym c.check_one.ensures ∙ c.in_ok-check_one.was)).modulus

-- No. 5
pub returns-in_err-invert : goal.returns-in_err-invert
unfolding terms limit most_parts area_words
returns-in_err-invert c =
    let e : c.from_residual-in_err-invert.result ≡ Err (naming_none Factor) = search rules in
    rw (e, ← c.modulus-m.ensures)
    (shared c.if-area-lt-WORDS.false (sym c.check_one.ensures ∙ c.in_ok-check_one.was) (rw c.degree-n.ensures at (shared_not_coprime c.in_err-invert.ensures)) c.clear.ensures refl)

pub new-requires : goal.new-requires
unfolding terms limit
new-requires c = accepted-modulus (accepted-one (omega arith) (sym c.check_one.ensures ∙ c.in_ok-check_one.was)).modulus

pub walk-requires : goal.walk-requires
unfolding terms limit most_parts area_words
walk-requires c =
    let (w, held, two) = accepted_as c.degree-n.ensures (accepted-one (omega arith) (sym c.check_one.ensures ∙ c.in_ok-check_one.was)) in
    (rw c.new.ensures (record { modulus = w; whole = held; two = two; coprime = inverse-coprime c.in_ok-invert.ensures }), omega arith)

-- No. 18
pub returns-in_default : goal.returns-in_default
unfolding terms limit most_parts area_words
returns-in_default c =
    rw (c.into-in_default.ensures, ← c.modulus-m.ensures)
    (nth_beyond (sym c.check_one.ensures ∙ c.in_ok-check_one.was) c.degree-n.ensures (inverse-coprime c.in_ok-invert.ensures) c.if-area-lt-WORDS.false c.clear.ensures (rw c.new.ensures at c.in_default.ensures))

-- the j-th chain
pub returns : goal.returns
unfolding terms limit most_parts area_words
returns c =
    let passed = sym c.check_one.ensures ∙ c.in_ok-check_one.was in
    rw (← c.modulus-m.ensures)
    (nth-told passed c.degree-n.ensures (inverse-coprime c.in_ok-invert.ensures) c.if-area-lt-WORDS.false c.clear.ensures (accepted-above (accepted-one (omega arith) passed)) (rw c.new.ensures at c.in-Ok.ensures))
