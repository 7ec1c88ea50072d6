use mathlib.Core.Path.{refl}
use native.Mathlib.Omega.{arith}
use Rattle.record.proofs.Answers.{check_answered, one-checked}
use Rattle.listing.proofs.Telling.{told-refused, told-accepted}
use Rattle.listing.proofs.line.Goals as goal

pub accepted_line-requires : goal.accepted_line-requires
accepted_line-requires c =
    let (ok, m, f, n) = check_answered c.args.bytes.now c.in-Ok.ensures refl refl in
    record { passed = rw (m, f) (one-checked _ ok); measured = rw f n; room = omega arith }

pub returns-in-Ok : goal.returns-in-Ok
returns-in-Ok c = told-accepted _ c.in-Ok.ensures c.accepted_line.ensures

pub returns-in-Err : goal.returns-in-Err
returns-in-Err c = told-refused _ _ c.in-Err.ensures c.number.ensures c.refused_line.ensures
