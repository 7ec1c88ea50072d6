use Rattle.area.specs.Area.{most_parts, area_words}
use Rattle.algebra.specs.Polynomial.{limit, terms}
use native.Mathlib.Omega.{arith}
use Rattle.area.proofs.Handing.{past, short, zero, full}
use Rattle.area.proofs.part.Goals as goal

pub returns-then-i-ge-PARTS : goal.returns-then-i-ge-PARTS
unfolding area_words most_parts terms limit
returns-then-i-ge-PARTS c = past _ _ c.if-i-ge-PARTS.true

pub returns-then-area-lt-WORDS : goal.returns-then-area-lt-WORDS
unfolding area_words most_parts terms limit
returns-then-area-lt-WORDS c = short _ _ c.if-i-ge-PARTS.false c.if-area-lt-WORDS.true

pub returns-then-is_zero : goal.returns-then-is_zero
unfolding area_words most_parts terms limit
returns-then-is_zero c =
    let k = c in
    zero _ _ (omega arith) (omega arith) k.start-from.ensures k.is_zero.result k.is_zero.ensures c.if-is_zero.true

pub returns : goal.returns
unfolding area_words most_parts terms limit
returns c =
    let k = c in
    full _ _ (omega arith) (omega arith) k.start-from.ensures k.is_zero.result k.is_zero.ensures c.if-is_zero.false
