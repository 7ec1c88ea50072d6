use mathlib.Core.Path.{sym}
use native.Mathlib.Omega.{arith}
use Rattle.algebra.specs.Polynomial.{terms, limit}
use Rattle.right.specs.Rows.{words}
use Rattle.right.proofs.Columns.{room-none}
use Rattle.round.proofs.Rounds.{passed_none, passed-few, passed_over, passed_missed, passed_hit, passed-all, asked_at, coprime-at, open_at, none-at, hit, miss}
use Rattle.round.proofs.first_split.Goals as goal

pub loop-s-init : goal.loop-s-init
unfolding words terms limit
loop-s-init c = (passed_none _ _ _, omega (arith, c.requires.0.two), room-none (omega (arith, c.requires.0.modulus.above_one)))

-- s does not divide n
pub loop-s-preserved-then-n-s-ne0 : goal.loop-s-preserved-then-n-s-ne0
loop-s-preserved-then-n-s-ne0 c = (passed_over c.loop-s.invariant.0 c.if-n-s-ne0.true, omega arith, c.loop-s.invariant.2)

-- there are fewer tries than right degrees
pub overflow_add-tries : goal.overflow_add-tries
overflow_add-tries c = omega (arith, passed-few c.loop-s.invariant.0)

pub slice_bounds-is_open-end : goal.slice_bounds-is_open-end
unfolding words terms limit
slice_bounds-is_open-end c = sym c.loop-s.invariant.2.long

pub slice_bounds-is_open-end-in-loop-s : goal.slice_bounds-is_open-end-in-loop-s
unfolding terms limit
slice_bounds-is_open-end-in-loop-s c = sym c.requires.0.whole.reduced.long

pub at_right-d-requires : goal.at_right-d-requires
at_right-d-requires c = (asked_at c.requires.0 c.loop-s.invariant.0.two c.if-n-s-ne0.false (omega arith)).degrees

pub is_open-requires : goal.is_open-requires
is_open-requires c =
    let a = c.requires.0 in
    let e = c.at_right-d.ensures.0 in
    (record { modulus = a.modulus; degrees = c.at_right-d.result.fit; whole = rw e a.whole }, rw e c.requires.1, c.loop-s.invariant.2)

-- the quick question says no
pub loop-s-preserved-then-not-is_open : goal.loop-s-preserved-then-not-is_open
loop-s-preserved-then-not-is_open c =
    let (n, r, s) = c.at_right-d.ensures in
    (passed_missed c.loop-s.invariant.0 c.if-n-s-ne0.false (none-at c.requires.0 c.loop-s.invariant.0.two c.if-n-s-ne0.false (omega arith) (rw (r, s) at c.is_open.ensures) c.if-not-is_open.true), omega arith, c.is_open.ensures.room)

pub slice_bounds-split_open-end : goal.slice_bounds-split_open-end
unfolding words terms limit
slice_bounds-split_open-end c = sym c.is_open.ensures.room.long

pub split_open-requires : goal.split_open-requires
split_open-requires c = let (n, r, s) = c.at_right-d.ensures in rw (n, r, s) (open_at c.requires.0 c.loop-s.invariant.0.two c.if-n-s-ne0.false (omega arith) (rw (r, s) at c.is_open.ensures))

pub returns-in-Ok : goal.returns-in-Ok
returns-in-Ok c =
    let (n, r, s) = c.at_right-d.ensures in
    passed_hit c.loop-s.invariant.0 c.if-n-s-ne0.false (rw (n, r, s) at c.at_right-d.result.fit) (hit (rw (r, s) at c.in-Ok.ensures))

-- it left a pair open, and there is none
pub loop-s-preserved : goal.loop-s-preserved
loop-s-preserved c =
    let (n, r, s) = c.at_right-d.ensures in
    (passed_missed c.loop-s.invariant.0 c.if-n-s-ne0.false (miss _ (coprime-at c.requires.0 c.loop-s.invariant.0.two c.if-n-s-ne0.false (omega arith)) (rw (r, s) at c.in_default.ensures)), omega arith, c.is_open.ensures.room)

pub returns : goal.returns
returns c = passed-all c.loop-s.invariant.0 (omega arith) (omega arith)
