use native.Mathlib.Nat.{mod-lt, le_trans, div-le_self}
use native.Mathlib.Omega.{arith}
use borrow.Author.Rules.{rules}
use Rattle.inverse.proofs.Euclid.{begins, next, inverted, ends}
use Rattle.algebra.proofs.Sizes.{product-fits}
use Rattle.inverse.proofs.invert.Goals as goal

pub loop-y-init : goal.loop-y-init
loop-y-init c = begins _ (omega arith)

pub overflow_mul-t : goal.overflow_mul-t
overflow_mul-t c = record { fits = product-fits (omega arith) (le_trans (div-le_self _ _) (omega arith)) }

pub less-u-requires : goal.less-u-requires
less-u-requires c = (search rules, omega arith, mod-lt _ (omega arith))

pub loop-y-smaller : goal.loop-y-smaller
loop-y-smaller c = mod-lt _ (omega arith)

pub loop-y-preserved : goal.loop-y-preserved
loop-y-preserved c = next _ _ c.loop-y.invariant (omega arith) (omega arith) c.less-u.ensures.1

pub returns-then-x-eq1 : goal.returns-then-x-eq1
returns-then-x-eq1 c = (omega arith, inverted (omega arith) (omega arith) c.loop-y.invariant)

pub returns-else-x-eq1 : goal.returns-else-x-eq1
returns-else-x-eq1 c = (omega arith, ends (omega arith) c.loop-y.invariant)
