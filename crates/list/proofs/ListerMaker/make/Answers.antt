use native.Mathlib.Omega.{arith}
use Rattle.algebra.specs.Polynomial.{terms, limit}
use Rattle.record.specs.Record.{record_bytes}
use Rattle.listing.specs.Listing.{most_records}
use Rattle.reading.specs.Reading.{most_listed, most_read, number_after}
use Rattle.list.specs.Buffer.{buffer_bytes}
use Rattle.list.proofs.Pieces.{lines-put}
use Rattle.list.proofs.ListerMaker.make.Goals as goal

pub lines-requires : goal.lines-requires
unfolding number_after most_read most_listed buffer_bytes most_records record_bytes terms limit
lines-requires c = omega arith

pub returns : goal.returns
returns c =
    (omega (arith, c.lines.ensures.put.end, c.lines.ensures.put.within), lines-put c.requires.2 (rw c.number.ensures at c.lines.ensures))
