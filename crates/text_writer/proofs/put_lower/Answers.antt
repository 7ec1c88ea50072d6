use native.Mathlib.Omega.{arith}
use lib.ListN.{length-set}
use Rattle.text_writer.proofs.Putting as law
use Rattle.text_writer.proofs.put_lower.Goals as goal

pub returns-then-c-eq0 : goal.returns-then-c-eq0
returns-then-c-eq0 c = law.put_zero _ _ _ c.if-c-eq0.true

pub put_term-requires : goal.put_term-requires
put_term-requires c = (simp length-set (omega arith), omega arith)

pub returns : goal.returns
returns c = law.put-lower _ _ c.if-c-eq0.false c.put_term.ensures
