use native.Mathlib.Omega.{arith}
use Rattle.numeral.proofs.Counting as law
use Rattle.numeral.proofs.number.Goals as goal

pub loop-d-init : goal.loop-d-init
loop-d-init c = let d = c.in_ok-value.ensures in law.first-digit _ d.0 d.1 d.2 d.3

pub returns-then-next-at-ge-DIGITS : goal.returns-then-next-at-ge-DIGITS
returns-then-next-at-ge-DIGITS c = let d = c.in-Some.ensures in law.too_long c.loop-d.invariant d.0 d.1 d.2 (omega arith)

pub overflow_mul-value : goal.overflow_mul-value
overflow_mul-value c = omega (arith, law.counting_small c.loop-d.invariant c.if-next-at-ge-DIGITS.false)

pub overflow_add-value : goal.overflow_add-value
overflow_add-value c = omega (arith, c.in-Some.ensures, law.counting_small c.loop-d.invariant c.if-next-at-ge-DIGITS.false)

pub loop-d-preserved : goal.loop-d-preserved
loop-d-preserved c = let d = c.in-Some.ensures in law.next_digit c.loop-d.invariant d.0 d.1 d.2 c.if-next-at-ge-DIGITS.false (omega (arith, d.3))
