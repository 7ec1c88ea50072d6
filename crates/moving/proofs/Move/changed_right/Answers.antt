use mathlib.Core.Path.{◌∙◌}
use native.Mathlib.Omega.{arith}
use lib.ListN.{length-set}
use Rattle.algebra.specs.Polynomial.{limit, terms}
use Rattle.moving.proofs.Scaling.{changed-right-is}
use Rattle.moving.proofs.Move.changed_right.Goals as goal

pub multiple-part-requires : goal.multiple-part-requires
unfolding terms limit
multiple-part-requires c = length-set c.moved-p.result 0 0 ∙ omega arith

pub returns : goal.returns
returns c = let a = c in changed-right-is (omega arith) _ _ _ _ a.args.self.inverts.unit c.power.ensures a.requires c.moved-p.ensures c.multiple-part.ensures
