use mathlib.Core.Path.{◌≡◌, refl}
use Prim.Native.Nat.{◌*◌}
use native.Mathlib.Nat.{mul-le-mul_right}
use native.Mathlib.Omega.{arith}
use lib.ListN.{length, take}
use lib.Seq.{length-take-le}
use Rattle.division.proofs.Asked.{remainder_asked, raised_asked}
use Rattle.report.proofs.Reporting.{expanded_block}
use Rattle.report.proofs.digits_at_once.Goals as goal

pub divide-requires : goal.divide-requires
divide-requires c =
    let p = c.requires in
    (raised_asked p.0 p.1 p.2, p.3)

pub each_digit-requires : goal.each_digit-requires
each_digit-requires c =
    let p = c.requires in
    let v = c.divide.ensures in
    let w = c.args.k * c.args.s in
    let long : length (take w c.divide.new.p) ≡ w = length-take-le w c.divide.new.p (omega (arith, v.long, p.3)) in
    (remainder_asked _ p.0 v (raised_asked p.0 p.1 p.2).above_zero p.3, rw long (mul-le-mul_right c.args.s (omega arith)))

pub returns : goal.returns
returns c =
    let p = c.requires in
    expanded_block p.0 p.1 p.2 refl p.3 c.divide.ensures c.each_digit.ensures
