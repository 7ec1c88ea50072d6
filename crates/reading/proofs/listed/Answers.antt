use native.Mathlib.Omega.{arith}
use borrow.Author.Rules.{rules}
use borrow.Author.Tests.{eq-eqb, ne_eqb}
use Rattle.algebra.specs.Polynomial.{terms, limit}
use Rattle.record.specs.Record.{record_bytes}
use Rattle.reading.specs.Reading.{most_listed, most_read, upto}
use Rattle.reading.proofs.listed.Goals as goal

pub returns-then-more-eq0 : goal.returns-then-more-eq0
unfolding upto
returns-then-more-eq0 c = (search rules, simp (eq-eqb _ _ c.if-more-eq0.true))

pub returns : goal.returns
unfolding upto record_bytes terms limit
returns c = (search rules, simp (ne_eqb _ _ c.if-more-eq0.false))

pub overflow_add-n : goal.overflow_add-n
unfolding most_read most_listed record_bytes terms limit
overflow_add-n c = omega arith
