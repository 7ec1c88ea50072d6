use mathlib.Core.Path.{refl, sym}
use native.Mathlib.Omega.{arith}
use Rattle.algebra.specs.Polynomial.{limit}
use Rattle.binomial.specs.Triangle.{rows}
use Rattle.right.proofs.Columns.{left_twice, rows_none}
use Rattle.right.proofs.Forcing.{rows_root}
use Rattle.right.proofs.root.Goals as goal

pub binomials-b-requires : goal.binomials-b-requires
unfolding limit rows
binomials-b-requires c = let p = c.requires in let q = left_twice c.args.d.fit in let e = c.min.ensures in (omega arith, omega arith, p.0.inverse, rw e p.1)

pub loop-k-init : goal.loop-k-init
loop-k-init c = (omega arith, omega arith, refl, rows_none c.requires.2)

pub slice_bounds-next-end : goal.slice_bounds-next-end
unfolding rows
slice_bounds-next-end c = sym c.binomials-b.ensures.long

pub next-requires : goal.next-requires
next-requires c = let p = c.requires in record { asked = (p.0.reduced, c.binomials-b.ensures.long); rows = (c.loop-k.invariant.3, omega arith, omega arith) }

pub loop-k-preserved : goal.loop-k-preserved
loop-k-preserved c = (omega arith, omega arith, refl, c.next.ensures)

pub returns : goal.returns
returns c = let p = c.requires in rows_root (omega arith) p.0.degrees c.min.ensures (omega arith) c.binomials-b.ensures p.0.inverse c.loop-k.invariant.3
