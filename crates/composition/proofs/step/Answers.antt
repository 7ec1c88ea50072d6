use mathlib.Core.Path.{◌≡◌, sym, ◌∙◌}
use Prim.Native.Nat.{◌+◌, ◌-◌}
use native.Mathlib.Omega.{arith}
use Rattle.algebra.specs.Polynomial.{limit, terms, reduced}
use Rattle.polynomial.proofs.Filling.{down-none, down-more, down-all}
use Rattle.composition.proofs.Horner.{step-first, step_next, step_past}
use Rattle.composition.proofs.step.Goals as goal

pub line_step-requires : goal.line_step-requires
line_step-requires c = rw c.if-s-eq1.true at c.requires

pub returns-then-s-eq1 : goal.returns-then-s-eq1
returns-then-s-eq1 c = c.line_step.ensures

pub loop-j-init : goal.loop-j-init
unfolding terms limit
loop-j-init c = let r = c.requires in down-none r.long (λ j l. r.past j (omega arith) ∙ sym (step_past _ _ r j l))

pub inner_product-requires : goal.inner_product-requires
unfolding terms limit
inner_product-requires c = record { order = omega arith; first = omega arith; down = omega arith; second = omega arith; few = omega arith }

pub loop-j-preserved : goal.loop-j-preserved
unfolding terms limit
loop-j-preserved c =
    let l = c.loop-j in
    let e : l.j ≡ l.j - 1 + 1 = omega arith in
    let i = rw e at l.invariant in
    down-more (omega arith) (omega arith) (step_next _ _ c.requires (l.j - 1 + 1) l.p (omega arith) (omega arith) i.still c.inner_product.ensures) i

pub returns : goal.returns
unfolding reduced terms limit
returns c =
    let l = c.loop-j in
    let e : l.j ≡ 0 = omega arith in
    let i = rw e at l.invariant in
    down-all (omega arith) (step-first _ _ c.requires (i.still 0 (omega arith)) c.two_products.ensures) i
