use mathlib.Core.Path.{◌≡◌, refl, sym, ◌∙◌}
use native.Mathlib.Omega.{arith}
use borrow.Author.Rules.{rules}
use Rattle.std.specs.Prelude.{Err}
use Rattle.algebra.specs.Polynomial.{terms, limit}
use Rattle.polynomial.proofs.Acceptance.{accepted-modulus, accepted-one}
use Rattle.area.specs.Area.{most_parts, area_words}
use Rattle.chain.specs.Chaining.{short, refused}
use Rattle.chain.proofs.Answering.{told-found, chain_given}
use Rattle.chain.proofs.chain.Goals as goal

-- No. 11
pub returns-then-area-lt-WORDS : goal.returns-then-area-lt-WORDS
unfolding terms limit most_parts area_words
returns-then-area-lt-WORDS c = rw c.into.ensures (short c.if-area-lt-WORDS.true refl refl)

pub clear-requires : goal.clear-requires
unfolding terms limit most_parts area_words
clear-requires c = search rules

pub check_one-requires : goal.check_one-requires
unfolding terms limit
check_one-requires c = record { long = omega arith; is = c.degree-n.ensures }

-- Nos. 1 to 4
pub returns-in_err-check_one : goal.returns-in_err-check_one
unfolding terms limit most_parts area_words
returns-in_err-check_one c =
    let e : c.from_residual.result ≡ Err c.in_err-check_one.field-0.0 = search rules in
    rw (e, ← c.modulus-m.ensures) (refused c.if-area-lt-WORDS.false (sym c.check_one.ensures ∙ c.in_err-check_one.was) c.clear.ensures refl)

-- the modulus passed No. 1
pub new-requires : goal.new-requires
unfolding terms limit
new-requires c = accepted-modulus (accepted-one (omega arith) (sym c.check_one.ensures ∙ c.in_ok-check_one.was)).modulus

pub accepted-requires : goal.accepted-requires
unfolding terms limit most_parts area_words
accepted-requires c = chain_given (omega arith) (sym c.check_one.ensures ∙ c.in_ok-check_one.was) c.new.ensures c.degree-n.ensures (omega arith)

-- No. 5, or the chain
pub returns : goal.returns
unfolding terms limit most_parts area_words
returns c =
    rw (← c.modulus-m.ensures)
    (told-found c.if-area-lt-WORDS.false (sym c.check_one.ensures ∙ c.in_ok-check_one.was) c.degree-n.ensures c.clear.ensures (rw c.new.ensures at c.accepted.ensures))
