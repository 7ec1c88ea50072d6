use native.Mathlib.Omega.{arith}
use Rattle.text_writer.proofs.Putting as law
use Rattle.text_writer.proofs.put_x.Goals as goal

pub returns : goal.returns
returns c = law.put_x _ _ c.requires (omega arith) c.copy_from_slice.ensures.after
