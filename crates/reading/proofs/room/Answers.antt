use native.Mathlib.Omega.{arith}
use Rattle.algebra.specs.Polynomial.{terms, limit}
use Rattle.record.specs.Record.{record_bytes}
use Rattle.reading.specs.Reading.{most_listed, most_read}
use Rattle.reading.proofs.room.Goals as goal

pub overflow_sub-left : goal.overflow_sub-left
unfolding most_read most_listed record_bytes terms limit
overflow_sub-left c = omega arith

pub overflow_sub-free : goal.overflow_sub-free
unfolding record_bytes terms limit
overflow_sub-free c = omega arith

pub returns : goal.returns
unfolding most_read most_listed record_bytes terms limit
returns c = record { some = omega (arith, c.min.ensures); behind = omega (arith, c.min.ensures); listed = omega (arith, c.min.ensures) }
