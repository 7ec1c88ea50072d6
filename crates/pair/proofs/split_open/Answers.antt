use mathlib.Core.Path.{◌≡◌}
use native.Mathlib.Omega.{arith}
use borrow.Author.Rules.{rules}
use Rattle.std.specs.Prelude.{Err}
use Rattle.right.proofs.Columns.{right_twice}
use Rattle.pair.proofs.Forcing.{asked_left, forced-refused, forced-found}
use Rattle.pair.proofs.split_open.Goals as goal

pub upside-right-requires : goal.upside-right-requires
upside-right-requires c = let p = c.requires in (p.room.long, p.degrees.two_right, omega (arith, right_twice p.degrees, p.degrees.within))

pub left_part-requires : goal.left_part-requires
left_part-requires c = let p = c.requires in asked_left p.modulus p.degrees p.whole (p.part c.upside-right.ensures)

pub returns-in_err-left : goal.returns-in_err-left
returns-in_err-left c =
    let p = c.requires in
    let e : c.from_residual.result ≡ Err c.in_err-left.field-0.0 = search rules in
    rw e (forced-refused p.modulus.above_one p.degrees p.coprime (p.part c.upside-right.ensures) _ c.in_err-left.ensures)

pub returns : goal.returns
returns c =
    let p = c.requires in
    forced-found p.modulus.above_one p.degrees p.coprime (p.part c.upside-right.ensures) c.in_ok-left.ensures
