use mathlib.Core.Path.{◌∙◌}
use native.Mathlib.Omega.{arith}
use Rattle.algebra.specs.Polynomial.{limit, terms}
use Rattle.built.proofs.Singles.{single-ends, single-is}
use Rattle.built.proofs.Built.single.Goals as goal

pub offset_bounds-x-k : goal.offset_bounds-x-k
unfolding limit
offset_bounds-x-k c = omega arith

pub bounds-x-k : goal.bounds-x-k
unfolding limit
bounds-x-k c = omega arith

pub ending-requires : goal.ending-requires
unfolding terms limit
ending-requires c = single-ends _ _ c.requires

pub returns : goal.returns
unfolding terms limit
returns c = c.ending.ensures ∙ rw c.remainder.ensures (single-is _ _ _ c.requires)
