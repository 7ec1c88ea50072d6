use mathlib.Core.Path.{◌≡◌, refl, sym, ◌∙◌}
use native.Mathlib.Omega.{arith}
use borrow.Author.Rules.{rules}
use Rattle.std.specs.Prelude.{Err, Some, None}
use Rattle.refusal.specs.Refusal.{naming_none}
use Rattle.refusal.specs.declared.Reason.TheVariants.{Limit}
use Rattle.phrase.specs.Reading.{reason_of}
use Rattle.polynomial.proofs.Acceptance.{accepted-modulus}
use Rattle.text.specs.Answers.{modulus}
use Rattle.text_reader.proofs.Judging as law
use Rattle.text_reader.proofs.read.Goals as goal

pub returns-in_err-check_modulus : goal.returns-in_err-check_modulus
returns-in_err-check_modulus c =
    let e : c.from_residual.result ≡ Err c.in_err-check_modulus.field-0.0 = search rules in
    rw (e, ← c.modulus-m.ensures) (modulus (sym c.check_modulus.ensures ∙ c.in_err-check_modulus.was) refl)

pub new-requires : goal.new-requires
new-requires c = accepted-modulus (sym c.check_modulus.ensures ∙ c.in_ok-check_modulus.was)

pub returns-in_err-next : goal.returns-in_err-next
returns-in_err-next c =
    let e : c.from_residual-in_err-next.result ≡ Err (naming_none (reason_of c.in_err-next.field-0.0)) = search rules in
    rw (e, ← c.modulus-m.ensures)
    (law.judge_fault (sym c.check_modulus.ensures ∙ c.in_ok-check_modulus.was) (record { some = grind arith; few = omega arith })
    c.in_err-next.field-0.0 c.in_err-next.ensures refl)

pub returns-then-next-text : goal.returns-then-next-text
returns-then-next-text c =
    rw (c.into-then-next-text.ensures, ← c.modulus-m.ensures)
    (law.judge_rest (sym c.check_modulus.ensures ∙ c.in_ok-check_modulus.was) (record { some = grind arith; few = omega arith })
    (rw c.new.ensures at c.in_ok-next.ensures) c.if-next-text.true refl)

pub returns-in_err-v : goal.returns-in_err-v
returns-in_err-v c =
    let none : c.sum.new.built ≡ None = grind arith in
    let e : c.from_residual-in_err-v.result ≡ Err (naming_none Limit) = search rules in
    rw (e, ← c.modulus-m.ensures)
    (law.judge_high (sym c.check_modulus.ensures ∙ c.in_ok-check_modulus.was) (record { some = grind arith; few = omega arith })
    (rw (none, c.new.ensures) at c.in_ok-next.ensures) (omega arith) refl)

pub returns-in_err-check_polynomial : goal.returns-in_err-check_polynomial
returns-in_err-check_polynomial c =
    let some : c.sum.new.built ≡ Some c.in_ok-v.v = grind arith in
    let e : c.from_residual-in_err-check_polynomial.result ≡ Err c.in_err-check_polynomial.field-0.0 = search rules in
    rw (e, ← c.modulus-m.ensures)
    (law.judge_read (sym c.check_modulus.ensures ∙ c.in_ok-check_modulus.was) (record { some = grind arith; few = omega arith })
    (rw (some, c.new.ensures) at c.in_ok-next.ensures) (omega arith) (sym c.check_polynomial.ensures ∙ c.in_err-check_polynomial.was) refl)

pub returns : goal.returns
returns c =
    let some : c.sum.new.built ≡ Some c.in_ok-v.v = grind arith in
    rw (← c.modulus-m.ensures)
    (law.judge_read (sym c.check_modulus.ensures ∙ c.in_ok-check_modulus.was) (record { some = grind arith; few = omega arith })
    (rw (some, c.new.ensures) at c.in_ok-next.ensures) (omega arith) (sym c.check_polynomial.ensures ∙ c.in_ok-check_polynomial.was) refl)
