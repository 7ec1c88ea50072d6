use native.Mathlib.Omega.{arith}
use Rattle.algebra.specs.Polynomial.{terms, limit}
use Rattle.record.specs.Record.{record_bytes}
use Rattle.reading.specs.Running.{failed}
use Rattle.reading.proofs.Running.{turned}
use Rattle.reading.proofs.turn.Goals as goal

pub returns-in_err-more : goal.returns-in_err-more
returns-in_err-more g c = failed c.from_residual.ensures.0

pub returns-in_err-step : goal.returns-in_err-step
returns-in_err-step g c = failed c.from_residual-in_err-step.ensures.0

pub returns : goal.returns
unfolding record_bytes terms limit
returns g c =
    let came = c.in_ok-more.ensures in
    turned g.M.Maker.makes came (omega (arith, came.brings.1)) c.step.ensures
