use mathlib.Core.Path.{refl}
use Rattle.algebra.specs.Polynomial.{limit, terms}
use Rattle.record.proofs.RecordDefault.default.Goals as goal

pub returns : goal.returns
unfolding terms limit
returns c = refl
