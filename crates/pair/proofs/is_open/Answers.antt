use native.Mathlib.Omega.{arith}
use Rattle.algebra.specs.Polynomial.{limit, terms}
use Rattle.binomial.proofs.Pascal.{row_to}
use Rattle.pair.proofs.Forcing.{fits_below, below_rows, inverse_left, asked_root}
use Rattle.pair.proofs.is_open.Goals as goal

pub overflow_cast-d : goal.overflow_cast-d
unfolding limit terms
overflow_cast-d c = record { fits = omega (arith, (fits_below c.args.d.fit).1) }

pub row-requires : goal.row-requires
row-requires c = (below_rows c.args.d.fit).0

pub root-requires : goal.root-requires
root-requires c =
    let p = c.requires in
    let a = c.args in (
      asked_root p.0 (inverse_left a.d.left a.d.right a.v p.0.modulus.above_one a.d.fit.product p.1 c.multiply-u.ensures),
      row_to (omega arith) c.row.ensures,
      p.2,
    )
