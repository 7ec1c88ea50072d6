use mathlib.Core.Path.{◌≡◌, sym, ◌∙◌}
use borrow.Author.Rules.{rules}
use Rattle.std.specs.Prelude.{Err}
use Rattle.polynomial.proofs.Acceptance.{accepted-modulus}
use Rattle.sheet.proofs.Answering.{records_stopped, taken-used, taken_rising, rest_stopped, taken-composes, sheet_taken}
use Rattle.sheet_reader.proofs.take.Goals as goal

-- 1 to 4 of a record
pub returns-in_err-take_records : goal.returns-in_err-take_records
returns-in_err-take_records c =
    let e : c.from_residual.result ≡ Err c.in_err-take_records.field-0.0 = search rules in
    rw e (records_stopped _ _ (rw c.in_err-take_records.was at c.take_records.ensures))

pub check_taken-requires : goal.check_taken-requires
check_taken-requires c =
    let t = rw c.in_ok-take_records.was at c.take_records.ensures in
    (c.requires.0, search rules, taken-used _ _ t, taken_rising _ _ t)

-- 12 or 10
pub returns-in_err-check_taken : goal.returns-in_err-check_taken
returns-in_err-check_taken c =
    let t = rw c.in_ok-take_records.was at c.take_records.ensures in
    let e : c.from_residual-in_err-check_taken.result ≡ Err c.in_err-check_taken.field-0.0 = search rules in
    rw e (rest_stopped _ _ t (sym c.check_taken.ensures ∙ c.in_err-check_taken.was))

pub new-requires : goal.new-requires
new-requires c =
    let t = rw c.in_ok-take_records.was at c.take_records.ensures in
    let (passes, k) = taken-composes _ _ t (sym c.check_taken.ensures ∙ c.in_ok-check_taken.was) in
    rw (c.modulus.ensures, c.word-modulus.ensures) (accepted-modulus passes)

pub compose-polynomial-requires : goal.compose-polynomial-requires
compose-polynomial-requires c =
    let t = rw c.in_ok-take_records.was at c.take_records.ensures in
    let (passes, k) = taken-composes _ _ t (sym c.check_taken.ensures ∙ c.in_ok-check_taken.was) in
    (search rules, rw (c.new.ensures, c.modulus.ensures, c.word-modulus.ensures) k)

pub returns : goal.returns
returns c =
    let t = rw c.in_ok-take_records.was at c.take_records.ensures in
    sheet_taken _ _ t (sym c.check_taken.ensures ∙ c.in_ok-check_taken.was) c.word-modulus.ensures c.modulus.ensures (rw c.new.ensures at c.compose-polynomial.ensures)
