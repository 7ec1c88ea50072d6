use mathlib.Core.Path.{refl, sym}
use native.Mathlib.Omega.{arith}
use borrow.Author.Rules.{rules}
use Rattle.algebra.specs.Polynomial.{terms, limit}
use Rattle.algebra.proofs.Reduction.{degree-monic}
use Rattle.area.specs.Area.{most_parts, area_words}
use Rattle.algebra.proofs.Chains.{sum-within}
use Rattle.round.proofs.Asking.{left_asked, inverse_next}
use Rattle.chain.proofs.Placing.{chained-whole, chained_more, chained-within, next_place, left_less}
use Rattle.chain.proofs.+parts.Goals as goal

-- f does not split
pub returns-in_default : goal.returns-in_default
returns-in_default t c =
    let w = c.requires.0 in
    rw c.put.ensures (chained-whole _ w.whole.monic w.whole.reduced (rw c.in_default.is at c.first_split-round.ensures) (c.cost.ensures _ (degree-monic w.modulus.above_one w.whole.reduced w.whole.monic)))

-- and fits a word
pub overflow_cast-s : goal.overflow_cast-s
unfolding limit
overflow_cast-s t c =
    let p = c.requires in
    let z = rw c.in-Some.is at c.first_split-round.ensures in
    record { fits = omega (arith, p.0.whole.within, sum-within z.two_left z.two_right z.product) }

-- a right degree is not 0
pub nonzero_div-n : goal.nonzero_div-n
nonzero_div-n t c =
    let z = rw c.in-Some.is at c.first_split-round.ensures in
    omega (arith, z.two_right)

pub parts-left-requires : goal.parts-left-requires
parts-left-requires t c =
    let p = c.requires in
    let z = rw c.in-Some.is at c.first_split-round.ensures in
    let l = left_less z in
    (omega arith, (left_asked p.0 z.two_left z.two_right z.product z.pair, p.1, inverse_next _ _ _ p.0.modulus.above_one z.product p.2 c.multiply-u.ensures))

pub slice_bounds-put-end-2 : goal.slice_bounds-put-end-2
unfolding terms limit
slice_bounds-put-end-2 t c =
    let z = rw c.in-Some.is at c.first_split-round.ensures in
    sym z.pair.reduced_right.long

-- there is a next place
pub put-requires-2 : goal.put-requires-2
put-requires-2 t c =
    let p = c.requires in
    let z = rw c.in-Some.is at c.first_split-round.ensures in
    (omega (arith, next_place z c.parts-left.ensures p.0.two p.0.whole.within), omega arith, z.pair.reduced_right.long)

pub overflow_add-result : goal.overflow_add-result
unfolding most_parts
overflow_add-result t c =
    let p = c.requires in
    let z = rw c.in-Some.is at c.first_split-round.ensures in
    omega (arith, next_place z c.parts-left.ensures p.0.two p.0.whole.within)

-- tries and price are at most n
pub overflow_add-result-2 : goal.overflow_add-result-2
unfolding limit
overflow_add-result-2 t c =
    let p = c.requires in
    let z = rw c.in-Some.is at c.first_split-round.ensures in
    omega (arith, p.0.whole.within, (chained-within p.0.modulus.above_one (chained_more z c.parts-left.ensures refl)).0)

pub cost-requires-2 : goal.cost-requires-2
cost-requires-2 t c =
    let z = rw c.in-Some.is at c.first_split-round.ensures in
    omega (arith, z.two_right)

pub overflow_add-result-3 : goal.overflow_add-result-3
unfolding limit
overflow_add-result-3 t c =
    let p = c.requires in
    let z = rw c.in-Some.is at c.first_split-round.ensures in
    let d = c.cost-2.ensures _ (degree-monic p.0.modulus.above_one z.pair.reduced_right z.pair.pair.right) in
    omega (arith, p.0.whole.within, (chained-within p.0.modulus.above_one (chained_more z c.parts-left.ensures d)).1)

-- the parts of the left part, and the right part
pub returns : goal.returns
returns t c =
    let p = c.requires in
    let z = rw c.in-Some.is at c.first_split-round.ensures in
    let d = c.cost-2.ensures _ (degree-monic p.0.modulus.above_one z.pair.reduced_right z.pair.pair.right) in
    rw c.put-2.ensures (chained_more z c.parts-left.ensures d)

pub put-requires : goal.put-requires
unfolding terms limit most_parts area_words
put-requires t c = search rules
