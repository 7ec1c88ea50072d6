use native.Mathlib.Omega.{arith}
use Rattle.algebra.proofs.Congruent.{reduced}
use Rattle.moving.proofs.Scaling.{powers_cancel, changed-pair-is}
use Rattle.moving.proofs.Move.changed_pair.Goals as goal

pub invariant_of-outer : goal.invariant_of-outer
invariant_of-outer c =
    let i = c.args.self.inverts in
    record { inverts = record { modulus = i.modulus; unit = powers_cancel _ _ _ _ _ _ i.unit (reduced c.power-2.ensures).same (reduced c.power.ensures).same } }

pub returns : goal.returns
returns c = changed-pair-is (omega arith) c.changed_right-right.ensures c.power.ensures c.changed-left.ensures
