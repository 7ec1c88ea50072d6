use Rattle.std.proofs.Common.{◌∙◌, arith}
use Rattle.residue.proofs.Powers.{begun, even, odd, reached}
use Rattle.residue.proofs.power.Goals as goal
use Rattle.residue.proofs.power.Goals.{then-left-eq1, else-left-eq1}

pub loop-left-init : goal.loop-left-init
loop-left-init c = begun _ _ _ (omega arith)

pub loop-left-preserved : goal.loop-left-preserved
loop-left-preserved c =
    elim c.if-left-eq1.branch [
      | then-left-eq1 w ↦ odd (omega arith) (omega arith) (w.result-is ∙ w.multiply-result.ensures) c.multiply-square.ensures c.loop-left.invariant
      | else-left-eq1 w ↦ rw w.result-is (even (omega arith) c.multiply-square.ensures c.loop-left.invariant)
    ]

pub returns : goal.returns
returns c = reached (omega arith) c.loop-left.invariant
