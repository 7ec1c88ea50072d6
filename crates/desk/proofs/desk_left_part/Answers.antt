use mathlib.Core.Path.{refl}
use Rattle.std.specs.Prelude.{Err}
use Rattle.algebra.specs.Polynomial.{limit, terms}
use Rattle.desk.proofs.Telling.{answer_told}
use Rattle.desk.proofs.desk_left_part.Goals as goal

pub returns-in-Err : goal.returns-in-Err
unfolding terms limit
returns-in-Err c = answer_told (Err c.in-Err.refusal) c.in-Err.ensures refl c.told-in-Err.ensures
