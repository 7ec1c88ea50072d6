use Prim.Native.Nat.{◌+◌}
use Rattle.algebra.specs.Polynomial.{terms}
use Rattle.polynomial.proofs.Filling.{Filled}
use Rattle.record.specs.Record.{word}
use Rattle.record.proofs.coefficients.Given as goal

abbrev pub invariant-loop-i : goal.invariant-loop-i
invariant-loop-i l = Filled terms (λ k. word l.bytes (k + 1)) l.f l.i
