use native.Mathlib.Omega.{arith}
use Rattle.area.specs.Area.{place, most_parts}
use Rattle.record.specs.Record.{record_bytes}
use Rattle.sheet.specs.Sheet.{sheet_bytes, recorded, sheet_of}
use Rattle.sheet.specs.Steps.{put_record}
use Rattle.sheet.proofs.Joining.{joined-begun, joined_done, put_next}
use Rattle.sheet.proofs.Words.{recorded-long}
use Rattle.sheet_writer.proofs.put.Goals as goal

pub loop-i-init : goal.loop-i-init
loop-i-init c = joined-begun _ record_bytes _

pub loop-i-preserved : goal.loop-i-preserved
unfolding most_parts put_record
loop-i-preserved c =
    let l = c.loop-i in
    let a = c.args in
    put_next (λ i. recorded a.m (place a.area.now i)) record_bytes (λ i. recorded-long a.m (place a.area.now i)) _ _ l.i l.invariant c.put_place.ensures

pub returns : goal.returns
unfolding sheet_of sheet_bytes most_parts
returns c = joined_done _ record_bytes _ most_parts (omega arith) (omega arith) c.loop-i.invariant
