use native.Mathlib.Omega.{arith}
use Rattle.digits.specs.Digits.{most_digits}
use Rattle.algebra.specs.Polynomial.{limit}
use Rattle.text.specs.Writing.{most_term}
use Rattle.text_writer.proofs.Putting as law
use Rattle.text_writer.proofs.put_term.Goals as goal

pub digits-a-requires : goal.digits-a-requires
unfolding most_term most_digits
digits-a-requires c = omega arith

pub put_x-b-requires : goal.put_x-b-requires
unfolding most_term most_digits
put_x-b-requires c = omega arith

pub overflow_cast-i : goal.overflow_cast-i
unfolding limit
overflow_cast-i c = omega (arith, c.requires.1)

pub digits-requires : goal.digits-requires
unfolding most_term most_digits
digits-requires c = omega arith

pub returns : goal.returns
returns c = law.put-term _ _ c.digits-a.ensures c.put_x-b.ensures c.digits.ensures
