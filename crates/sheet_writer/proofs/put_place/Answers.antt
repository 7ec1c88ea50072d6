use mathlib.Core.Path.{◌≡◌, ap, ◌∙◌}
use Prim.Native.Nat.{ℕ, ◌+◌, ◌*◌, ◌-◌}
use native.Mathlib.Omega.{arith}
use lib.ListN.{length, replicate}
use Rattle.area.specs.Area.{place, most_parts, area_words}
use Rattle.algebra.specs.Polynomial.{limit, terms}
use Rattle.record.specs.Record.{record_bytes}
use Rattle.sheet.specs.Sheet.{sheet_bytes, record_of}
use Rattle.sheet.specs.Steps.{put_record}
use Rattle.sheet.proofs.Joining.{piece_long, cut_long}
use Rattle.sheet.proofs.Words.{recorded-none, recorded-some}
use Rattle.sheet.proofs.Handing.{place-long, empty_unused, handed-used, handed-place}
use Rattle.sheet_writer.proofs.put_place.Goals as goal

pub returns-then-p-eq0 : goal.returns-then-p-eq0
unfolding put_record sheet_bytes record_bytes area_words most_parts terms limit
returns-then-p-eq0 c =
    let a = c.args in
    let p = c.requires in
    let e : a.i * record_bytes + record_bytes - a.i * record_bytes ≡ record_bytes = omega arith in
    rw (c.blank.ensures, e)
    (ap (put_record a.sheet.now a.i) (ap (λ (n : ℕ). replicate n 0) (piece_long record_bytes most_parts a.i a.sheet.now p.2 p.0)
    ∙ recorded-none a.m (place a.area.now a.i) (empty_unused _ _ p.0 p.1 c.part-p.ensures c.if-p-eq0.true)))

pub put_part-requires : goal.put_part-requires
unfolding sheet_bytes record_bytes area_words most_parts terms limit
put_part-requires c =
    let a = c.args in
    let p = c.requires in
    (cut_long record_bytes most_parts a.i a.sheet.now p.2 p.0, ap length (handed-place _ _ p.0 p.1 c.part-p.ensures c.if-p-eq0.false) ∙ place-long _ _ p.0 p.1)

pub returns : goal.returns
unfolding put_record sheet_bytes record_bytes area_words most_parts terms limit
returns c =
    let a = c.args in
    let p = c.requires in
    let e : a.i * record_bytes + record_bytes - a.i * record_bytes ≡ record_bytes = omega arith in
    rw (c.put_part.ensures, e)
    (ap (put_record a.sheet.now a.i) (ap (record_of a.m) (handed-place _ _ p.0 p.1 c.part-p.ensures c.if-p-eq0.false)
    ∙ recorded-some a.m (place a.area.now a.i) (handed-used _ _ p.0 p.1 c.part-p.ensures c.if-p-eq0.false)))
