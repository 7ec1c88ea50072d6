use Rattle.record.specs.Record.{word}
use native.Mathlib.Omega.{arith}
use Rattle.record.proofs.word.Goals as goal

pub returns : goal.returns
unfolding word
returns c = omega (arith, c.from_le_bytes.ensures)
