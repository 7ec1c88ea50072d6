use mathlib.Core.Path.{refl}
use Rattle.std.specs.Prelude.{Err}
use Rattle.algebra.specs.Polynomial.{limit, terms}
use Rattle.polynomial.specs.Answers.{zero_pair}
use Rattle.desk.proofs.Telling.{parts_told}
use Rattle.desk.proofs.desk_split.Goals as goal

pub returns-in-Err : goal.returns-in-Err
unfolding terms limit
returns-in-Err c = parts_told {p = zero_pair} (Err c.in-Err.refusal) c.in-Err.ensures refl c.told-in-Err.ensures
