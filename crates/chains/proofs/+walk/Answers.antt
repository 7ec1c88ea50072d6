use mathlib.Core.Path.{refl, ap, ◌∙◌}
use native.Mathlib.Omega.{arith}
use lib.ListN.{length}
use Rattle.algebra.specs.Polynomial.{terms, limit}
use Rattle.algebra.proofs.Chains.{sum-within}
use Rattle.algebra.proofs.Complete.{degree_is, right-degree}
use Rattle.area.specs.Area.{most_parts, area_words}
use Rattle.round.proofs.Asking.{chainable, left_asked}
use Rattle.round.proofs.Rounds.{half_degrees}
use Rattle.chains.proofs.Counting.{undivided}
use Rattle.chains.proofs.Walking.{gone_none, gone_pass, gone_take, room_next, more-price, reached-more, all-passed, one-passed, reached-one}
use Rattle.chains.proofs.+walk.Goals as goal

pub loop-s-init : goal.loop-s-init
loop-s-init t c = (refl, gone_none (chainable c.requires.0) _)

pub rightmost-requires : goal.rightmost-requires
rightmost-requires t c =
    let p = c.requires in
    (p.0, half_degrees (omega arith) c.if-n-s-ne0.false (omega arith) p.0.whole.within)

pub walk-requires : goal.walk-requires
unfolding area_words most_parts terms limit
walk-requires t c =
    let p = c.requires in
    let z = c.in-Some.ensures in
    let l = sum-within z.two_left z.two_right z.product in
    (omega (arith, l, z.two_right), (left_asked p.0 z.two_left z.two_right z.product z.pair, rw c.loop-s.invariant.0 p.1))

-- there is a next place
pub put-requires : goal.put-requires
unfolding area_words most_parts terms limit
put-requires t c =
    let i = c.loop-s.invariant in
    let p = c.requires in
    let k = chainable p.0 in
    let z = c.in-Some.ensures in
    let q = c.in-Ok.ensures in
    (omega (arith, room_next k i.1 z q), omega (arith, ap length i.0, p.1), z.pair.reduced_right.long)

pub overflow_add-result : goal.overflow_add-result
unfolding most_parts
overflow_add-result t c =
    let i = c.loop-s.invariant in
    let p = c.requires in
    let k = chainable p.0 in
    let z = c.in-Some.ensures in
    let q = c.in-Ok.ensures in
    omega (arith, room_next k i.1 z q)

-- the price is at most n
pub overflow_add-result-in-Ok : goal.overflow_add-result-in-Ok
unfolding limit
overflow_add-result-in-Ok t c =
    let i = c.loop-s.invariant in
    let p = c.requires in
    let k = chainable p.0 in
    let z = c.in-Some.ensures in
    let q = c.in-Ok.ensures in
    let d = c.cost.ensures _ (right-degree k.modulus z.pair) in
    omega (arith, p.0.whole.within, more-price k i.1 z q d)

-- the parts of the left part, and the right part
pub returns-in-Ok : goal.returns-in-Ok
returns-in-Ok t c =
    let i = c.loop-s.invariant in
    let p = c.requires in
    let k = chainable p.0 in
    let z = c.in-Some.ensures in
    let q = c.in-Ok.ensures in
    let d = c.cost.ensures _ (right-degree k.modulus z.pair) in
    reached-more k i.1 z q i.0 d c.put.ensures

pub overflow_sub-rest : goal.overflow_sub-rest
overflow_sub-rest t c =
    let q = c.in-Err.ensures in
    omega (arith, q.most)

-- s does not divide n
pub loop-s-preserved-then-n-s-ne0 : goal.loop-s-preserved-then-n-s-ne0
loop-s-preserved-then-n-s-ne0 t c =
    let k = chainable c.requires.0 in
    let i = c.loop-s.invariant in
    (i.0, gone_pass k i.1 (undivided k (omega arith) c.if-n-s-ne0.true))

-- there are none at s
pub loop-s-preserved-in_default : goal.loop-s-preserved-in_default
loop-s-preserved-in_default t c =
    let i = c.loop-s.invariant in
    (i.0, gone_pass (chainable c.requires.0) i.1 c.in_default.ensures)

-- those at s were passed
pub loop-s-preserved : goal.loop-s-preserved
loop-s-preserved t c =
    let i = c.loop-s.invariant in
    let q = c.in-Err.ensures in
    (q.area ∙ i.0, gone_take (chainable c.requires.0) i.1 c.in-Some.ensures q.has q.most)

pub overflow_sub-result : goal.overflow_sub-result
overflow_sub-result t c = let i = c.loop-s.invariant in omega arith

pub returns-then-rest-j : goal.returns-then-rest-j
returns-then-rest-j t c =
    let k = chainable c.requires.0 in
    let i = c.loop-s.invariant in
    all-passed k (omega arith) i.1 i.0 c.if-rest-j.true

pub returns-then-j-gt0 : goal.returns-then-j-gt0
returns-then-j-gt0 t c =
    let k = chainable c.requires.0 in
    let i = c.loop-s.invariant in
    one-passed k (omega arith) i.1 i.0 c.if-rest-j.false (omega (arith, c.if-j-gt0.true))

pub put-requires-2 : goal.put-requires-2
unfolding area_words most_parts terms limit
put-requires-2 t c =
    let k = chainable c.requires.0 in
    let i = c.loop-s.invariant in
    (omega arith, rw i.0 c.requires.1, k.whole.reduced.long)

-- f alone
pub returns : goal.returns
returns t c =
    let k = chainable c.requires.0 in
    let i = c.loop-s.invariant in
    reached-one k (omega arith) i.1 i.0 c.if-rest-j.false (omega (arith, c.if-j-gt0.false)) (c.cost-2.ensures _ (degree_is k)) c.put-2.ensures
