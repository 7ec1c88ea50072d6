use mathlib.Core.Path.{refl}
use native.Mathlib.Omega.{arith}
use Rattle.left.specs.Left.{none, found}
use Rattle.left.proofs.Found.{asked_division, asked_long, digits-terms, digits-past, digits-none, digits-found}
use Rattle.left.proofs.left_part.Goals as goal

pub expand-requires : goal.expand-requires
expand-requires c =
    let p = c.requires in
    (asked_division p, asked_long p, omega (arith, p.degrees.two_left))

-- No. 7: a digit is no constant
pub returns-then-not-expand : goal.returns-then-not-expand
returns-then-not-expand c = none (digits-none c.requires c.expand.ensures c.if-not-expand.true) (rw c.into.ensures refl)

pub constants-requires : goal.constants-requires
constants-requires c =
    let p = c.requires in
    (digits-terms p c.expand.ensures, omega (arith, p.degrees.two_right), omega (arith, p.degrees.product, p.degrees.within), digits-past p c.expand.ensures)

pub returns : goal.returns
returns c = found (digits-found c.requires c.expand.ensures c.if-not-expand.false c.constants.ensures) refl
