use mathlib.Core.Path.{◌≡◌, sym, ◌∙◌}
use borrow.Author.Rules.{rules}
use Rattle.std.specs.Prelude.{Err}
use Rattle.sheet.proofs.Answering.{room, write_short, write_refused, write_made}
use Rattle.sheet_writer.proofs.write.Goals as goal

-- No. 11
pub returns-in_err-check_room : goal.returns-in_err-check_room
returns-in_err-check_room c =
    let e : c.from_residual.result ≡ Err c.in_err-check_room.field-0.0 = search rules in
    rw e (write_short _ _ _ (sym c.check_room.ensures ∙ c.in_err-check_room.was))

pub check_area-requires : goal.check_area-requires
check_area-requires c = (room _ _ (sym c.check_room.ensures ∙ c.in_ok-check_room.was)).1

-- any other refusal
pub returns-in_err-check_area : goal.returns-in_err-check_area
returns-in_err-check_area c =
    let e : c.from_residual-in_err-check_area.result ≡ Err c.in_err-check_area.field-0.0 = search rules in
    rw e (write_refused _ _ _ (sym c.check_room.ensures ∙ c.in_ok-check_room.was) (sym c.check_area.ensures ∙ c.in_err-check_area.was))

pub put-requires : goal.put-requires
put-requires c = let (x, y) = room _ _ (sym c.check_room.ensures ∙ c.in_ok-check_room.was) in (y, x)

pub returns : goal.returns
returns c =
    write_made _ _ _ (sym c.check_room.ensures ∙ c.in_ok-check_room.was) (sym c.check_area.ensures ∙ c.in_ok-check_area.was) c.put.ensures
