use mathlib.Core.Path.{refl}
use native.Mathlib.Omega.{arith}
use Rattle.algebra.specs.Polynomial.{terms, limit}
use Rattle.digits.specs.Digits.{most_digits}
use Rattle.built.proofs.Building.{measured_ends}
use Rattle.text.specs.Writing.{most_term}
use Rattle.text_writer.proofs.Putting as law
use Rattle.text_writer.proofs.put_lowers.Goals as goal

pub offset_bounds-f-k : goal.offset_bounds-f-k
unfolding limit
offset_bounds-f-k c = omega (arith, c.loop-k.invariant.few, (measured_ends c.requires.0).inside)

pub bounds-f-k : goal.bounds-f-k
unfolding terms limit
bounds-f-k c = omega (arith, c.requires.0.long, c.loop-k.invariant.few, (measured_ends c.requires.0).inside)

pub put_lower-end-requires : goal.put_lower-end-requires
unfolding most_term most_digits limit
put_lower-end-requires c = let i = c.loop-k.invariant in (omega (arith, i.few, i.put.within), omega (arith, i.few, (measured_ends c.requires.0).inside))

pub loop-k-preserved : goal.loop-k-preserved
loop-k-preserved c = law.lowering_more c.loop-k.invariant (omega arith) refl c.put_lower-end.ensures

pub returns : goal.returns
returns c = law.lowering_all c.loop-k.invariant (omega arith)
