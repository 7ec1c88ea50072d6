use mathlib.Core.List.{[], ◌∷◌}
use Prim.Native.Nat.{◌%◌}
use Rattle.algebra.specs.Polynomial.{coef, plus, times, terms}
use Rattle.polynomial.proofs.Filling.{Down}
use Rattle.composition.proofs.line_step.Given as goal

-- the places above j are the step's, and the others still as they were
abbrev pub invariant-loop-j : goal.invariant-loop-j
invariant-loop-j l = Down terms (λ j. coef (plus (l.c ∷ []) (times l.h l.initial.p)) j % l.m.number) l.j l.initial.p l.p
