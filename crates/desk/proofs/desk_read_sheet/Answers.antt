use mathlib.Core.Path.{refl}
use Rattle.std.specs.Prelude.{Err}
use Rattle.algebra.specs.Polynomial.{limit, terms}
use Rattle.desk.proofs.Telling.{read_told}
use Rattle.desk.proofs.desk_read_sheet.Goals as goal

pub returns-in-Err : goal.returns-in-Err
unfolding terms limit
returns-in-Err c = read_told (Err c.in-Err.refusal) c.in-Err.ensures refl c.told-in-Err.ensures
