use mathlib.Core.Path.{refl, sym, ap, ◌∙◌}
use Prim.Native.Nat.{ℕ, ◌%◌}
use native.Mathlib.Nat.{mul_comm, mod-eq_of_lt}
use native.Mathlib.Omega.{arith}
use Rattle.algebra.specs.Polynomial.{limit, terms}
use Rattle.right.specs.Rows.{words}
use Rattle.right.proofs.Columns.{right_twice, room-none}
use Rattle.pair.specs.Asking.{differs}
use Rattle.pair.proofs.Forcing.{asked_root, asked_left, root_apart, report_told}
use Rattle.pair.proofs.report.Goals as goal

pub root-requires : goal.root-requires
unfolding words terms limit
root-requires c =
    let p = c.requires in
    let a = c.args in
    let unit = ap (λ (x : ℕ). x % a.m.number) (mul_comm a.u a.d.left) ∙ p.2 ∙ sym (mod-eq_of_lt p.0.modulus.above_one) in
    (asked_root p.0 unit, p.1, room-none (omega (arith, p.0.modulus.above_one)))

pub overflow_sub-result : goal.overflow_sub-result
overflow_sub-result c = omega (arith, right_twice c.args.d.fit)

pub overflow_sub-result-then-not-root : goal.overflow_sub-result-then-not-root
overflow_sub-result-then-not-root c = let d = c.args.d.fit in omega (arith, right_twice d, d.two_right)

-- the root says no
pub returns-then-not-root : goal.returns-then-not-root
returns-then-not-root c = differs (root_apart c.requires.0 c.root.ensures c.if-not-root.true refl) refl

pub upside-h-requires : goal.upside-h-requires
upside-h-requires c =
    let p = c.requires.0 in
    (c.root.ensures.room.long, p.degrees.two_right, omega (arith, right_twice p.degrees, p.degrees.within))

pub report-power-requires : goal.report-power-requires
report-power-requires c =
    let p = c.requires.0 in
    asked_left p.modulus p.degrees p.whole (c.root.ensures.part c.upside-h.ensures)

-- the digits tell
pub returns-then-power-eq0 : goal.returns-then-power-eq0
returns-then-power-eq0 c = (report_told (omega (arith, c.requires.0.modulus.above_one)) (c.root.ensures.part c.upside-h.ensures) c.report-power.ensures).0 c.if-power-eq0.true

pub returns-else-power-eq0 : goal.returns-else-power-eq0
returns-else-power-eq0 c = (report_told (omega (arith, c.requires.0.modulus.above_one)) (c.root.ensures.part c.upside-h.ensures) c.report-power.ensures).1 c.if-power-eq0.false
