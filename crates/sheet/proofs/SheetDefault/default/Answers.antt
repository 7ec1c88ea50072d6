use mathlib.Core.Path.{refl}
use Rattle.algebra.specs.Polynomial.{limit, terms}
use Rattle.sheet.proofs.SheetDefault.default.Goals as goal

pub returns : goal.returns
unfolding terms limit
returns c = refl
