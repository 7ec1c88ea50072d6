use mathlib.Core.Path.{◌≡◌}
use Prim.Native.Nat.{◌*◌, ◌≤◌}
use lib.ListN.{length, drop}
use Rattle.record.specs.Record.{record_bytes}
use Rattle.sheets.specs.Sheets.{records}
use Rattle.sheets.proofs.Writing.{Begun}
use Rattle.sheets.proofs.sheets.Given as goal

abbrev pub invariant-loop-i : goal.invariant-loop-i
invariant-loop-i l =
    let items = l.i-iterator in
    (items.iter.size ≡ record_bytes) × (items.iter.rest.now ≡ drop (items.count * record_bytes) l.s) × (items.count ≤ records (length l.s)) × Begun l.s l.initial.out l.out items.count
