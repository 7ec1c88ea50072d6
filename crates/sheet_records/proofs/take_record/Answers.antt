use mathlib.Core.Path.{ap, ◌∙◌}
use mathlib.Core.List.{List}
use Prim.Native.Nat.{ℕ}
use Rattle.area.specs.Area.{put_at, most_parts, area_words}
use Rattle.record.specs.Record.{word, coefficients, record_bytes}
use Rattle.algebra.specs.Polynomial.{limit, terms}
use Rattle.sheet.specs.Sheet.{sheet_bytes}
use Rattle.sheet.proofs.Joining.{cut, piece_long}
use Rattle.sheet.proofs.Taking.{placed_unused, placed_used}
use Rattle.sheet_records.proofs.take_record.Goals as goal

pub returns-then-is_blank : goal.returns-then-is_blank
unfolding sheet_bytes record_bytes area_words most_parts terms limit
returns-then-is_blank c =
    let a = c.args in
    let p = c.requires in
    let w = c.word-m.ensures ∙ ap (λ (r : List ℕ). word r 0) (cut record_bytes a.i a.sheet.now) in
    let f = c.coefficients-f.ensures ∙ ap coefficients (cut record_bytes a.i a.sheet.now) in (
      placed_unused _ _ (piece_long record_bytes most_parts a.i a.sheet.now p.1 p.0) w f c.is_blank.ensures c.if-is_blank.true,
      c.put.ensures ∙ ap (put_at a.area.now a.i) f,
    )

pub returns : goal.returns
unfolding sheet_bytes record_bytes area_words most_parts terms limit
returns c =
    let a = c.args in
    let p = c.requires in
    let w = c.word-m.ensures ∙ ap (λ (r : List ℕ). word r 0) (cut record_bytes a.i a.sheet.now) in
    let f = c.coefficients-f.ensures ∙ ap coefficients (cut record_bytes a.i a.sheet.now) in (
      placed_used _ _ (piece_long record_bytes most_parts a.i a.sheet.now p.1 p.0) w f c.is_blank.ensures c.if-is_blank.false c.check_words.ensures,
      c.put.ensures ∙ ap (put_at a.area.now a.i) f,
    )
