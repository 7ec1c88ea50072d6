use Prim.Native.Nat.{◌+◌}
use native.Mathlib.Omega.{arith}
use lib.Seq.{length-take-le}
use Rattle.algebra.specs.Polynomial.{limit, terms}
use Rattle.built.proofs.Building.{ending_degree}
use Rattle.built.proofs.Built.ending.Goals as goal

pub overflow_add-c : goal.overflow_add-c
unfolding limit
overflow_add-c c = omega (arith, c.requires.inside)

pub slice_bounds-c-end : goal.slice_bounds-c-end
unfolding terms limit
slice_bounds-c-end c = omega (arith, c.requires.inside, c.requires.long)

pub slice_bounds-degree-end : goal.slice_bounds-degree-end
unfolding terms limit
slice_bounds-degree-end c = omega (arith, length-take-le (c.args.top + 1) c.args.c (omega (arith, c.requires.inside, c.requires.long)))

pub invariant_of-result : goal.invariant_of-result
invariant_of-result c = record { measured = record { long = c.requires.long; is = ending_degree c.requires c.degree-degree.ensures } }
