use mathlib.Core.Path.{refl, ◌∙◌}
use Prim.Native.Nat.{◌≤◌}
use native.Mathlib.Omega.{arith}
use borrow.Author.Rules.{rules}
use lib.ListN.{length, length-take, length-drop}
use Rattle.algebra.specs.Polynomial.{terms, limit}
use Rattle.digits.specs.Digits.{most_digits}
use Rattle.area.specs.Area.{most_parts}
use Rattle.record.specs.Record.{record_bytes}
use Rattle.listing.specs.Text.{most_field, before_degrees, most_line}
use Rattle.listing.specs.Listing.{most_records, most_lines}
use Rattle.listing.proofs.Cutting.{begun, ended, turned}
use Rattle.listing.proofs.lines.Goals as goal

pub loop-i-init : goal.loop-i-init
unfolding record_bytes terms limit
loop-i-init c =
    let items = c.enumerate-i-items.ensures in
    simp (c.into_iter-i-iterator.ensures.into_iter_gives, items.source, items.count, c.chunks.ensures.rest, c.chunks.ensures.size) (refl, begun _ _ _)

pub overflow_cast-i : goal.overflow_cast-i
unfolding most_records record_bytes terms limit
overflow_cast-i c =
    let (from, at, on, fits) = c.in-Some.ensures.steps in
    omega (arith, c.loop-i.invariant.1.passed)

pub overflow_add-number : goal.overflow_add-number
unfolding most_records record_bytes terms limit
overflow_add-number c =
    let (from, at, on, fits) = c.in-Some.ensures.steps in
    omega (arith, c.loop-i.invariant.1.left from.1.2)

pub slice_bounds-line-count : goal.slice_bounds-line-count
unfolding most_lines most_line before_degrees most_field most_digits most_parts most_records record_bytes terms limit
slice_bounds-line-count c =
    let (from, at, on, fits) = c.in-Some.ensures.steps in
    omega (arith, c.loop-i.invariant.1.left from.1.2, c.loop-i.invariant.1.put.within, c.loop-i.auto.out)

pub slice_bounds-line-start : goal.slice_bounds-line-start
unfolding most_lines most_line before_degrees most_field most_digits most_parts most_records record_bytes terms limit
slice_bounds-line-start c =
    let (from, at, on, fits) = c.in-Some.ensures.steps in
    let within : c.loop-i.w ≤ length c.loop-i.out = omega (arith, c.loop-i.invariant.1.left from.1.2, c.loop-i.invariant.1.put.within, c.loop-i.auto.out) in
    search rules

pub line-w-requires : goal.line-w-requires
unfolding most_lines most_line before_degrees most_field most_digits most_parts most_records record_bytes terms limit
line-w-requires c =
    let (from, at, on, fits) = c.in-Some.ensures.steps in
    simp (length-take, length-drop) (omega (arith, c.loop-i.invariant.1.left from.1.2, c.loop-i.invariant.1.put.within, c.loop-i.auto.out))

pub overflow_add-w : goal.overflow_add-w
unfolding most_lines most_line before_degrees most_field most_digits most_parts most_records record_bytes terms limit
overflow_add-w c =
    let (from, at, on, fits) = c.in-Some.ensures.steps in
    omega (arith, c.loop-i.invariant.1.left from.1.2, c.loop-i.invariant.1.put.within, c.line-w.ensures.put.within)

pub loop-i-preserved : goal.loop-i-preserved
loop-i-preserved c =
    let (from, at, on, fits) = c.in-Some.ensures.steps in
    let (size, g) = c.loop-i.invariant in
    (from.0 ∙ size, rw on (turned _ _ _ g from.1.2 _ _ from.1.0 (rw size at from.1.1) (rw at at c.line-w.ensures)))

pub returns : goal.returns
returns c =
    let (from, on) = c.in-None.ensures.steps in
    ended _ _ _ c.loop-i.invariant.1 from.1.0 (omega arith)
