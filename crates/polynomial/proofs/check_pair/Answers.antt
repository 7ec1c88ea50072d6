use mathlib.Core.Path.{refl}
use native.Mathlib.Omega.{arith}
use Rattle.algebra.specs.Polynomial.{limit, terms}
use Rattle.polynomial.specs.Checks.{check_pair}
use Rattle.polynomial.proofs.Acceptance.{degrees-multiply, above-limit, within-limit}
use Rattle.polynomial.proofs.check_pair.Goals as goal

-- both degrees are below the number of coefficients
pub overflow_mul-r : goal.overflow_mul-r
unfolding terms limit
overflow_mul-r c = omega (arith, degrees-multiply _ _ c.requires.0.long c.requires.0.is c.requires.1.long c.requires.1.is)

pub returns-then-r-s-gt-LIMIT : goal.returns-then-r-s-gt-LIMIT
unfolding check_pair limit
returns-then-r-s-gt-LIMIT c =
    rw (← c.check_two.ensures, c.in_ok-check_two.was, c.into.ensures) (above-limit _ _ c.requires.0.is c.requires.1.is c.if-r-s-gt-LIMIT.true refl)

pub returns : goal.returns
unfolding check_pair limit
returns c =
    rw (← c.check_two.ensures, c.in_ok-check_two.was) (within-limit _ _ c.requires.0.is c.requires.1.is c.if-r-s-gt-LIMIT.false)
