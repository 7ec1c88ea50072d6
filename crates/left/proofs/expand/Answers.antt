use mathlib.Core.Path.{refl}
use native.Mathlib.Nat as N
use native.Mathlib.Omega.{arith}
use Rattle.algebra.specs.Polynomial.{terms}
use Rattle.division.proofs.Pieces.{lent, returned}
use Rattle.left.proofs.Expanding.{digits_long, lowest_no, reached-first, reached_last, reached_asked}
use Rattle.left.proofs.expand.Goals as goal

pub digit-requires : goal.digit-requires
digit-requires c =
    let p = c.requires in
    (p.0, N.le_of_lt (digits_long p.2 p.1))

pub returns-then-not-digit : goal.returns-then-not-digit
returns-then-not-digit c = lowest_no c.digit.ensures c.if-not-digit.true

pub raise-requires : goal.raise-requires
unfolding terms
raise-requires c =
    let p = c.requires in
    let k = c.at_once-k.ensures in
    (p.0.right, refl, k.0, omega (arith, p.0.inside, p.1, N.mul-le-mul_right c.args.s k.1))

pub blocks-requires : goal.blocks-requires
blocks-requires c =
    let p = c.requires in
    let l = reached-first (digits_long p.2 p.1) c.digit.ensures c.if-not-digit.false in
    rw (lent _ _) (reached_asked p.0.above_zero l p.0, c.raise.ensures, c.at_once-k.ensures.0)

pub returns : goal.returns
returns c =
    let p = c.requires in
    let l = reached-first (digits_long p.2 p.1) c.digit.ensures c.if-not-digit.false in
    rw (returned _ _ _) (reached_last p.0.above_zero l (rw (lent _ _) at c.blocks-2.ensures))
