use native.Mathlib.Omega.{arith}
use Rattle.algebra.specs.Polynomial.{limit}
use Rattle.built.proofs.Building as law
use Rattle.built.proofs.Built.spills.Goals as goal

pub overflow_add-k : goal.overflow_add-k
unfolding limit
overflow_add-k c = omega (arith, law.inside c.args.self.now, law.inside c.args.y.now)

pub overflow_step-k : goal.overflow_step-k
unfolding limit
overflow_step-k c = omega (arith, law.inside c.args.self.now, law.inside c.args.y.now)

pub loop-k-init : goal.loop-k-init
loop-k-init c = (omega arith, law.searched_none _ _ _ _ (omega (arith, c.args.self.now.measured.is, c.args.y.now.measured.is)))

pub returns-then-coefficient-ne0-clause-yes : goal.returns-then-coefficient-ne0-clause-yes
unfolding limit
returns-then-coefficient-ne0-clause-yes c = λ e. law.not_low (omega arith) c.coefficient.ensures c.if-coefficient-ne0.true

pub returns-clause-no : goal.returns-clause-no
unfolding limit
returns-clause-no c = λ e. law.searched_low (omega arith) c.loop-k.invariant.1
