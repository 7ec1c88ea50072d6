use Prim.Native.Nat.{◌%◌, ◌≤◌}
use Rattle.polynomial.specs.declared.TheConstants.{LIMIT}
use Rattle.algebra.specs.Polynomial.{coef, plus, scaled}
use Rattle.built.proofs.Building as law
use Rattle.built.proofs.Built.mixed.Given as goal

abbrev pub invariant-loop-i : goal.invariant-loop-i
invariant-loop-i l = (l.top ≤ LIMIT) × law.Front (λ j. coef (plus l.self.coefficients (scaled l.k l.y.coefficients)) j % l.m.number) l.c l.i
