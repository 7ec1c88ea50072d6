use native.Mathlib.Omega.{arith}
use Rattle.phrase.proofs.Readers as law
use Rattle.phrase.proofs.negated.Goals as goal

pub returns : goal.returns
returns c = λ s at d k l b x. law.sum-minus _ s at d l b (omega arith) x c.single.ensures c.added.ensures
