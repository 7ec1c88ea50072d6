use mathlib.Core.Path.{◌≡◌, refl, sym, ap, subst, ◌∙◌}
use mathlib.Core.List.{List, ◌++◌}
use Prim.Native.Nat.{ℕ, ◌+◌, ◌*◌, ◌-◌, ◌<◌}
use native.Mathlib.Omega.{arith}
use borrow.Author.Rules.{rules}
use lib.ListN.{length, take, drop, length-take, length-drop}
use Rattle.area.specs.Area.{most_parts}
use Rattle.algebra.specs.Polynomial.{limit, terms}
use Rattle.record.specs.Record.{record_bytes}
use Rattle.sheet.specs.Sheet.{sheet_bytes}
use Rattle.sheets.specs.Sheets.{most_sheets, sheets_buffer, records, SheetOf}
use Rattle.sheets.proofs.Writing.{inside, this-record, left-after, begun-none, begun_more, begun_all}
use Rattle.sheets.proofs.sheets.Goals as goal

pub loop-i-init : goal.loop-i-init
unfolding record_bytes terms limit
loop-i-init c =
    let items = c.enumerate-i-items.ensures in
    simp (c.into_iter-i-iterator.ensures.into_iter_gives, items.source, items.count, c.chunks.ensures.rest, c.chunks.ensures.size) (refl, refl, omega arith, begun-none _ _)

pub overflow_mul-at : goal.overflow_mul-at
unfolding records sheets_buffer most_sheets sheet_bytes record_bytes most_parts terms limit
overflow_mul-at c =
    let (from, at, on, fits) = c.in-Some.ensures.steps in
    let (size, left, few, begun) = c.loop-i.invariant in
    omega (arith, inside c.args.s.now _ _ _ left size from.1.0 from.1.1 from.1.2, c.loop-i.auto.out)

pub overflow_add-at : goal.overflow_add-at
unfolding records sheets_buffer most_sheets sheet_bytes record_bytes most_parts terms limit
overflow_add-at c =
    let (from, at, on, fits) = c.in-Some.ensures.steps in
    let (size, left, few, begun) = c.loop-i.invariant in
    omega (arith, inside c.args.s.now _ _ _ left size from.1.0 from.1.1 from.1.2, c.loop-i.auto.out)

pub slice_bounds-sheet_of-end : goal.slice_bounds-sheet_of-end
unfolding records sheets_buffer most_sheets sheet_bytes record_bytes most_parts terms limit
slice_bounds-sheet_of-end c =
    let (from, at, on, fits) = c.in-Some.ensures.steps in
    let (size, left, few, begun) = c.loop-i.invariant in
    omega (arith, inside c.args.s.now _ _ _ left size from.1.0 from.1.1 from.1.2, c.loop-i.auto.out)

pub sheet_of-requires : goal.sheet_of-requires
unfolding records sheets_buffer most_sheets sheet_bytes record_bytes most_parts terms limit
sheet_of-requires c =
    let (from, at, on, fits) = c.in-Some.ensures.steps in
    let (size, left, few, begun) = c.loop-i.invariant in
    simp (length-take, length-drop) (omega (arith, inside c.args.s.now _ _ _ left size from.1.0 from.1.1 from.1.2, c.loop-i.auto.out))

pub loop-i-preserved : goal.loop-i-preserved
unfolding records sheets_buffer most_sheets sheet_bytes record_bytes most_parts terms limit
loop-i-preserved c =
    let (from, at, on, fits) = c.in-Some.ensures.steps in
    let (size, left, few, begun) = rw (← at) at c.loop-i.invariant in
    let s = c.args.s.now in
    let i = c.in-Some.i in
    let more : i < records (length s) = inside s _ _ i left size from.1.0 from.1.1 from.1.2 in
    let e : i * sheet_bytes + sheet_bytes - i * sheet_bytes ≡ sheet_bytes = omega arith in
    let new = subst (λ (r : List ℕ). SheetOf r c.sheet_of.new.out) (this-record s _ _ i left size from.1.0 from.1.1) c.sheet_of.ensures in
    let next : c.next.new.self.count ≡ i + 1 = on ∙ ap (λ (n : ℕ). n + 1) (sym at) in
    rw next
    (from.0 ∙ size, left-after s _ _ i left size from.1.0 from.1.1, omega arith, begun_more s c.args.out.now i (omega (arith, more, c.loop-i.auto.out)) (search rules) begun new (ap (λ (n : ℕ). take (i * sheet_bytes) c.loop-i.out ++ (c.sheet_of.new.out ++ drop n (drop (i * sheet_bytes) c.loop-i.out))) e))

pub overflow_mul-result : goal.overflow_mul-result
unfolding records sheets_buffer most_sheets sheet_bytes record_bytes most_parts terms limit
overflow_mul-result c = omega (arith, c.div_ceil.ensures)

pub returns : goal.returns
unfolding records sheets_buffer most_sheets sheet_bytes record_bytes most_parts terms limit
returns c =
    let (from, on) = c.in-None.ensures.steps in
    let (size, left, few, begun) = c.loop-i.invariant in
    let all : c.loop-i.i-iterator.count ≡ records (length c.args.s.now) = omega (arith, few, from.1.0, ap length left, length-drop (c.loop-i.i-iterator.count * record_bytes) c.args.s.now) in
    begun_all _ _ all (omega (arith, all, c.div_ceil.ensures)) (omega (arith, c.div_ceil.ensures, c.loop-i.auto.out)) begun
