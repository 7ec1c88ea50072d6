use native.Mathlib.Omega.{arith}
use Rattle.algebra.specs.Polynomial.{limit, terms}
use Rattle.moving.proofs.Scaling.{changed-is}
use Rattle.moving.proofs.Move.changed.Goals as goal

pub multiple-requires : goal.multiple-requires
unfolding terms limit
multiple-requires c = omega arith

pub returns : goal.returns
returns c = let a = c in changed-is (omega arith) _ _ _ _ a.args.self.inverts.unit c.power.ensures a.requires c.moved-p.ensures c.multiple.ensures
