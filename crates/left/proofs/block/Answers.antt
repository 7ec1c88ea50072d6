use mathlib.Core.Path.{refl}
use Prim.Native.Nat.{◌+◌, ◌*◌, ◌-◌}
use native.Mathlib.Nat.{mul-le-mul_right}
use native.Mathlib.Omega.{arith}
use Rattle.division.proofs.Asked.{remainder_asked, raised_asked}
use Rattle.left.proofs.Expanding.{lowest_digits, top_flat, lowest_top}
use Rattle.left.proofs.block.Goals as goal

pub divide-requires : goal.divide-requires
divide-requires c =
    let p = c.requires in
    (raised_asked p.0 p.1 p.2, p.3)

pub returns-then-not-is_constant : goal.returns-then-not-is_constant
returns-then-not-is_constant c =
    let p = c.requires in
    lowest_top _ p.0 p.1 refl p.3 c.divide.ensures _ (omega (arith, mul-le-mul_right {m = 1} c.args.s p.2)) c.is_constant.ensures c.if-not-is_constant.true

pub digits-requires : goal.digits-requires
digits-requires c =
    let p = c.requires in
    let a = c.args in
    remainder_asked (a.k * a.s - a.s + 1) p.0 c.divide.ensures (omega arith) (omega (arith, p.0.above_zero, p.3, mul-le-mul_right {m = 1} c.args.s p.2))

pub returns : goal.returns
returns c =
    let p = c.requires in
    let s = mul-le-mul_right {m = 1} c.args.s p.2 in
    let d = c.divide.ensures in
    lowest_digits _ p.0 p.1 refl p.3 d (omega (arith, p.0.above_zero, s)) (omega (arith, s))
    (top_flat _ p.0 p.1 refl p.3 d _ (omega (arith, s)) c.is_constant.ensures c.if-not-is_constant.false) c.digits.ensures
