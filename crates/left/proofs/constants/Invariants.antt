use mathlib.Core.Path.{◌≡◌}
use Prim.Native.Nat.{ℕ, ◌*◌, ◌≤◌}
use Rattle.algebra.specs.Polynomial.{coef, terms}
use Rattle.polynomial.proofs.Filling.{Filled}
use Rattle.left.proofs.constants.Given as goal

-- the places below i have their constants, and the others are zero still
abbrev pub invariant-loop-i : goal.invariant-loop-i
invariant-loop-i l = Filled terms (λ j. coef l.a (j * l.s)) l.g l.i × ((j : ℕ) → l.i ≤ j → coef l.g j ≡ 0)
