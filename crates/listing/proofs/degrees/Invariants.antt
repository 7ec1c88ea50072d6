use Prim.Native.Nat.{ℕ, ◌*◌}
use mathlib.Core.List.{List}
use Rattle.algebra.specs.Number.{table}
use Rattle.algebra.specs.Polynomial.{degree}
use Rattle.digits.specs.Digits.{Put}
use Rattle.area.specs.Area.{place}
use Rattle.listing.specs.Text.{most_field, spaced}
use Rattle.listing.proofs.degrees.Given as goal

-- the degree of each place
abbrev pub of : List ℕ → ℕ → ℕ
of area i = degree (place area i)

abbrev pub invariant-loop-i : goal.invariant-loop-i
invariant-loop-i l = Put l.initial.out l.at (spaced (table l.i (of l.area))) (most_field * l.i) l.out l.k
