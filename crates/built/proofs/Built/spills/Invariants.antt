use Prim.Native.Nat.{◌-◌, ◌<◌}
use Rattle.algebra.specs.Polynomial.{times}
use Rattle.built.proofs.Building as law
use Rattle.built.proofs.Built.spills.Given as goal

abbrev pub invariant-loop-k : goal.invariant-loop-k
invariant-loop-k l = (0 < l.k) × law.Searched l.m.number (times l.self.coefficients l.y.coefficients) (l.k - 1)
