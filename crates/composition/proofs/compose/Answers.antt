use mathlib.Core.Path.{sym}
use native.Mathlib.Omega.{arith}
use Rattle.algebra.specs.Polynomial.{limit, terms}
use Rattle.composition.proofs.Horner.{partly_none, partly_next, partly_room, partly_all}
use Rattle.composition.proofs.compose.Goals as goal

pub loop-i-init : goal.loop-i-init
unfolding terms limit
loop-i-init c = partly_none (omega arith) _ c.requires.left (omega arith)

pub slice_bounds-step-end : goal.slice_bounds-step-end
unfolding terms limit
slice_bounds-step-end c = sym c.loop-i.invariant.reduced.long

pub step-requires : goal.step-requires
step-requires c =
    let a = c.requires in
    partly_room a.right a.within (omega arith) c.loop-i.invariant

pub overflow_add-d : goal.overflow_add-d
unfolding limit
overflow_add-d c =
    let a = c.requires in
    omega (arith, (partly_room a.right a.within (omega arith) c.loop-i.invariant).within)

pub loop-i-preserved : goal.loop-i-preserved
unfolding terms limit
loop-i-preserved c =
    let a = c.requires in
    partly_next (omega arith) (partly_room a.right a.within (omega arith) c.loop-i.invariant) (omega arith) (omega arith) c.step.ensures c.loop-i.invariant

pub returns : goal.returns
returns c = partly_all (omega arith) (omega arith) c.loop-i.invariant
