use native.Mathlib.Omega.{arith}
use borrow.Author.Rules.{rules}
use Rattle.algebra.specs.Polynomial.{terms, limit}
use Rattle.record.specs.Record.{record_bytes}
use Rattle.reading.specs.Reading.{most_listed, most_read, number_after}
use Rattle.reading.proofs.number.Goals as goal

pub overflow_cast-result : goal.overflow_cast-result
unfolding number_after most_read most_listed record_bytes terms limit
overflow_cast-result c = omega arith

pub overflow_add-result : goal.overflow_add-result
unfolding number_after most_read most_listed record_bytes terms limit
overflow_add-result c = omega arith

pub returns : goal.returns
unfolding number_after most_read most_listed record_bytes terms limit
returns c = search rules
