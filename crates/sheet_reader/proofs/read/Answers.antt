use mathlib.Core.Path.{◌≡◌, sym, ◌∙◌}
use native.Mathlib.Omega.{arith}
use borrow.Author.Rules.{rules}
use Rattle.std.specs.Prelude.{Err}
use Rattle.algebra.specs.Polynomial.{limit, terms}
use Rattle.area.specs.Area.{most_parts, area_words}
use Rattle.sheet.proofs.Answering.{room, read_short, read_refused}
use Rattle.sheet_reader.proofs.read.Goals as goal

-- No. 11
pub returns-in_err-check_room : goal.returns-in_err-check_room
returns-in_err-check_room c =
    let e : c.from_residual.result ≡ Err c.in_err-check_room.field-0.0 = search rules in
    rw e (read_short _ _ (sym c.check_room.ensures ∙ c.in_err-check_room.was))

pub take-taken-requires : goal.take-taken-requires
take-taken-requires c = room _ _ (sym c.check_room.ensures ∙ c.in_ok-check_room.was)

pub clear-requires : goal.clear-requires
unfolding area_words most_parts terms limit
clear-requires c = let (x, y) = room _ _ (sym c.check_room.ensures ∙ c.in_ok-check_room.was) in omega (arith, y)

-- any other refusal
pub returns-then-is_err : goal.returns-then-is_err
returns-then-is_err c =
    read_refused _ _ (sym c.check_room.ensures ∙ c.in_ok-check_room.was) c.take-taken.ensures (sym c.is_err.ensures.value ∙ c.if-is_err.true) c.clear.ensures
