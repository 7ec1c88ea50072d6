use mathlib.Core.Path.{◌≡◌}
use native.Mathlib.Omega.{arith}
use borrow.Author.Rules.{rules}
use Rattle.algebra.specs.Number.{table}
use Rattle.algebra.specs.Polynomial.{terms, limit}
use Rattle.digits.specs.Digits.{most_digits}
use Rattle.area.specs.Area.{most_parts, area_words}
use Rattle.listing.specs.Text.{most_field}
use Rattle.listing.proofs.Text.{put-none, put-table}
use Rattle.listing.proofs.Places.{place-degree}
use Rattle.listing.proofs.degrees.Invariants.{of}
use Rattle.listing.proofs.degrees.Goals as goal

pub loop-i-init : goal.loop-i-init
unfolding table
loop-i-init c = put-none _ _ _

pub overflow_cast-d : goal.overflow_cast-d
unfolding terms limit
overflow_cast-d c =
    omega (arith, (place-degree c.args.area.now c.loop-i.i (omega arith) (omega arith) c.start-from.ensures c.degree-d.ensures).1)

pub loop-i-preserved : goal.loop-i-preserved
unfolding terms limit most_field most_digits
loop-i-preserved c =
    let l = c.loop-i in
    let a = c.args in
    let e = (place-degree a.area.now l.i (omega arith) (omega arith) c.start-from.ensures c.degree-d.ensures).0 in
    put-table l.i (of a.area.now) l.invariant e c.spaced-k.ensures

pub returns : goal.returns
returns c =
    let l = c.loop-i in
    let e : l.i ≡ c.args.parts = omega arith in
    rw (← e) l.invariant

pub overflow_add-end : goal.overflow_add-end
unfolding most_field most_digits terms limit most_parts area_words
overflow_add-end c = search rules

pub offset_bounds-area-from : goal.offset_bounds-area-from
unfolding most_field most_digits terms limit most_parts area_words
offset_bounds-area-from c = search rules

pub slice_bounds-degree-end : goal.slice_bounds-degree-end
unfolding most_field most_digits terms limit most_parts area_words
slice_bounds-degree-end c = search rules
