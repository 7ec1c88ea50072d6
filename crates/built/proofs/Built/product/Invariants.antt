use Prim.Native.Nat.{◌%◌}
use Rattle.algebra.specs.Polynomial.{coef, times}
use Rattle.built.proofs.Building as law
use Rattle.built.proofs.Built.product.Given as goal

abbrev pub invariant-loop-k : goal.invariant-loop-k
invariant-loop-k l = law.Front (λ j. coef (times l.self.coefficients l.y.coefficients) j % l.m.number) l.c l.k
