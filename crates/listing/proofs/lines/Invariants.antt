use mathlib.Core.Path.{◌≡◌}
use Rattle.record.specs.Record.{record_bytes}
use Rattle.listing.proofs.Cutting.{Progress}
use Rattle.listing.proofs.lines.Given as goal

abbrev pub invariant-loop-i : goal.invariant-loop-i
invariant-loop-i l =
    (l.i-iterator.iter.size ≡ record_bytes) × Progress l.s l.number l.initial.out l.i-iterator.iter.rest.now l.i-iterator.count l.w l.out
