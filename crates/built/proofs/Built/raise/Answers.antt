use mathlib.Core.Path.{◌∙◌}
use native.Mathlib.Omega.{arith}
use Rattle.algebra.specs.Polynomial.{limit}
use Rattle.built.specs.Built.{base, free}
use Rattle.built.proofs.Building.{inside}
use Rattle.built.proofs.Joining.{shifts_powers}
use Rattle.built.proofs.Built.raise.Goals as goal

pub returns-in_default : goal.returns-in_default
returns-in_default c = rw c.in_default.is base

pub offset_bounds-x-x : goal.offset_bounds-x-x
unfolding limit
offset_bounds-x-x c = omega (arith, inside c.in-Some.x)

pub bounds-x-x : goal.bounds-x-x
unfolding limit
bounds-x-x c = omega (arith, inside c.in-Some.x)

pub overflow_mul-x : goal.overflow_mul-x
unfolding limit
overflow_mul-x c = record { fits = omega (arith, (c.shifts.ensures c.if-shifts.true).within) }

pub returns-then-shifts : goal.returns-then-shifts
returns-then-shifts c =
    rw c.in-Some.is (free (shifts_powers (omega arith) c.in-Some.x.measured (c.shifts.ensures c.if-shifts.true) (c.from.ensures ∙ c.power-c.ensures) c.single.ensures))

pub returns : goal.returns
returns c = rw c.in-Some.is (free c.repeated.ensures)
