use native.Mathlib.Omega.{arith}
use borrow.Author.Rules.{rules}
use Rattle.algebra.specs.Polynomial.{terms, limit}
use Rattle.record.specs.Record.{record_bytes}
use Rattle.listing.specs.Listing.{most_records, Lines}
use Rattle.list.specs.Buffer.{buffer_bytes}
use Rattle.reading.specs.Reading.{most_listed, most_read}
use Rattle.reading.proofs.Running.{ran_none, ran_on, run-ended, run-failed, run-full}
use Rattle.list.proofs.run.Goals as goal

pub loop-taken-init : goal.loop-taken-init
loop-taken-init c = (search rules, ran_none Lines _)

pub turn-requires : goal.turn-requires
unfolding buffer_bytes most_records most_read most_listed record_bytes terms limit
turn-requires c = omega arith

pub returns-in_err-more : goal.returns-in_err-more
returns-in_err-more c = run-failed Lines c.from_residual.ensures.0 c.loop-taken.invariant.1

pub returns-then-more-eq0 : goal.returns-then-more-eq0
returns-then-more-eq0 c = run-ended Lines c.turn.ensures c.in_ok-more.was c.if-more-eq0.true c.loop-taken.invariant.1

pub overflow_add-taken : goal.overflow_add-taken
unfolding most_read most_listed record_bytes terms limit
overflow_add-taken c = let (room, ran) = ran_on Lines c.turn.ensures c.in_ok-more.was (omega arith) c.loop-taken.invariant.1 in omega arith

pub loop-taken-preserved : goal.loop-taken-preserved
loop-taken-preserved c = ran_on Lines c.turn.ensures c.in_ok-more.was (omega arith) c.loop-taken.invariant.1

pub returns : goal.returns
unfolding most_read most_listed record_bytes terms limit
returns c = run-full Lines (omega arith) c.loop-taken.invariant.1
