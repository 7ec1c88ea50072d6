use native.Mathlib.Omega.{arith}
use borrow.Author.Rules.{rules}
use Rattle.algebra.specs.Polynomial.{terms, limit}
use Rattle.record.specs.Record.{record_bytes}
use Rattle.sheets.specs.Sheets.{most_sheets, sheets_buffer, Makes}
use Rattle.reading.specs.Reading.{most_listed, most_read}
use Rattle.reading.proofs.Running.{ran_none, ran_on, run-ended, run-failed, run-full}
use Rattle.sheets.proofs.run.Goals as goal

pub loop-taken-init : goal.loop-taken-init
loop-taken-init c = (search rules, ran_none Makes _)

pub turn-requires : goal.turn-requires
unfolding sheets_buffer most_sheets most_read most_listed record_bytes terms limit
turn-requires c = omega arith

pub returns-in_err-more : goal.returns-in_err-more
returns-in_err-more c = run-failed Makes c.from_residual.ensures.0 c.loop-taken.invariant.1

pub returns-then-more-eq0 : goal.returns-then-more-eq0
returns-then-more-eq0 c = run-ended Makes c.turn.ensures c.in_ok-more.was c.if-more-eq0.true c.loop-taken.invariant.1

pub overflow_add-taken : goal.overflow_add-taken
unfolding most_read most_listed record_bytes terms limit
overflow_add-taken c = let (room, ran) = ran_on Makes c.turn.ensures c.in_ok-more.was (omega arith) c.loop-taken.invariant.1 in omega arith

pub loop-taken-preserved : goal.loop-taken-preserved
loop-taken-preserved c = ran_on Makes c.turn.ensures c.in_ok-more.was (omega arith) c.loop-taken.invariant.1

pub returns : goal.returns
unfolding most_read most_listed record_bytes terms limit
returns c = run-full Makes (omega arith) c.loop-taken.invariant.1
