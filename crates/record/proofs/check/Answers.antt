use mathlib.Core.Path.{◌≡◌}
use native.Mathlib.Omega.{arith}
use borrow.Author.Rules.{rules}
use Rattle.std.specs.Prelude.{Err}
use Rattle.algebra.specs.Polynomial.{terms, limit}
use Rattle.record.specs.Record.{record_bytes}
use Rattle.record.proofs.Answers.{short-checked, refused-checked, answered-checked}
use Rattle.record.proofs.check.Goals as goal

pub returns-then-bytes-lt-BYTES : goal.returns-then-bytes-lt-BYTES
unfolding terms limit record_bytes
returns-then-bytes-lt-BYTES c = rw c.into.ensures (short-checked _ (omega arith))

pub coefficients-polynomial-requires : goal.coefficients-polynomial-requires
unfolding terms limit record_bytes
coefficients-polynomial-requires c = omega arith

pub check_one-requires : goal.check_one-requires
unfolding terms limit
check_one-requires c = record { long = search rules; is = c.degree-degree.ensures }

pub returns-in_err-check_one : goal.returns-in_err-check_one
unfolding terms limit record_bytes
returns-in_err-check_one c =
    let e : c.from_residual.result ≡ Err c.in_err-check_one.field-0.0 = search rules in
    rw e (refused-checked _ (omega arith) c.word-modulus.ensures c.modulus.ensures c.coefficients-polynomial.ensures c.check_one.ensures c.in_err-check_one.was)

pub returns : goal.returns
unfolding terms limit record_bytes
returns c =
    answered-checked _ (omega arith) c.word-modulus.ensures c.modulus.ensures c.coefficients-polynomial.ensures c.check_one.ensures
    c.degree-degree.ensures c.in_ok-check_one.was
