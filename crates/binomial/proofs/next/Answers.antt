use mathlib.Core.Path.{◌≡◌, refl}
use Prim.Native.Nat.{◌-◌}
use native.Mathlib.Omega.{arith}
use Rattle.binomial.proofs.Pascal.{stepped_more, stepped_all, sum_fits}
use Rattle.binomial.proofs.next.Goals as goal

-- no sum is above a word
pub overflow_add-b : goal.overflow_add-b
overflow_add-b c = let l = c.loop-i in record { fits = sum_fits (l.i - 1) c.requires.1 (omega arith) l.invariant.1 }

pub loop-i-preserved : goal.loop-i-preserved
loop-i-preserved c = let l = c.loop-i in (omega arith, stepped_more (l.i - 1) (omega arith) (omega arith) refl l.invariant.1)

pub returns : goal.returns
returns c = let e : c.loop-i.i - 1 ≡ 0 = omega arith in stepped_all (rw e at c.loop-i.invariant.1)
