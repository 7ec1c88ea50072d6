use native.Mathlib.Omega.{arith}
use Rattle.algebra.specs.Polynomial.{limit}
use Rattle.algebra.proofs.Chains.{sum-within}
use Rattle.round.proofs.Asking.{chainable, left_asked}
use Rattle.round.proofs.Rounds.{half_degrees}
use Rattle.chains.proofs.Counting.{undivided, below_none, below_pass, below-take, below-few, counted}
use Rattle.chains.proofs.+count.Goals.{in-Some, in_default}
use Rattle.chains.proofs.+count.Goals as goal

pub loop-s-init : goal.loop-s-init
loop-s-init t c = below_none (chainable c.requires)

pub rightmost-requires : goal.rightmost-requires
rightmost-requires t c =
    let p = c.requires in
    (p, half_degrees (omega arith) c.if-n-s-ne0.false (omega arith) p.whole.within)

pub count-c-requires : goal.count-c-requires
count-c-requires t c =
    let p = c.requires in
    let z = c.in-Some.ensures in
    let l = sum-within z.two_left z.two_right z.product in
    (omega (arith, l, z.two_right), (left_asked p z.two_left z.two_right z.product z.pair))

-- at most n*n
pub overflow_add-c : goal.overflow_add-c
unfolding limit
overflow_add-c t c =
    let k = chainable c.requires in
    let i = c.loop-s.invariant in
    let z = c.in-Some.ensures in
    record { fits = omega (arith, below-few k (omega arith) (omega arith) (below-take k i z c.count-c.ensures)) }

-- s does not divide n
pub loop-s-preserved-then-n-s-ne0 : goal.loop-s-preserved-then-n-s-ne0
loop-s-preserved-then-n-s-ne0 t c =
    let k = chainable c.requires in
    below_pass k c.loop-s.invariant (undivided k (omega arith) c.if-n-s-ne0.true)

pub loop-s-preserved : goal.loop-s-preserved
loop-s-preserved t c =
    let k = chainable c.requires in
    elim c.match-rightmost.branch [
      | in-Some w ↦ rw w.c-is (below-take k c.loop-s.invariant (rw w.in-Some.is at c.rightmost.ensures) w.count-c.ensures)
      | in_default w ↦ rw w.c-is (below_pass k c.loop-s.invariant (rw w.in_default.is at c.rightmost.ensures))
    ]

-- f alone, or those that were found
pub returns : goal.returns
returns t c = rw c.max.ensures (counted (chainable c.requires) (omega arith) c.loop-s.invariant)
