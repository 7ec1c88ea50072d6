use mathlib.Core.Path.{refl}
use native.Mathlib.Omega.{arith}
use Rattle.algebra.specs.Polynomial.{terms, limit}
use Rattle.digits.specs.Digits.{most_digits}
use Rattle.built.proofs.Building.{measured_ends}
use Rattle.text.specs.Writing.{most_term, most_text}
use Rattle.text_writer.proofs.Putting as law
use Rattle.text_writer.proofs.put_text.Goals as goal

pub offset_bounds-f-n : goal.offset_bounds-f-n
unfolding limit
offset_bounds-f-n c = omega (arith, (measured_ends c.requires.0).inside)

pub bounds-f-n : goal.bounds-f-n
unfolding terms limit
bounds-f-n c = omega (arith, (measured_ends c.requires.0).inside, c.requires.0.long)

pub put_term-at-requires : goal.put_term-at-requires
unfolding most_text most_term most_digits terms
put_term-at-requires c = let p = c.requires in (omega (arith, p.1), (measured_ends p.0).inside)

pub put_lowers-requires : goal.put_lowers-requires
unfolding most_text most_term most_digits terms limit
put_lowers-requires c = let p = c.requires in (p.0, omega (arith, (measured_ends p.0).inside, c.put_term-at.ensures.within, c.put_term-at.auto.out, p.1))

pub returns : goal.returns
returns c = law.put_written c.args.f.now c.requires.0 refl c.put_term-at.ensures c.put_lowers.ensures
