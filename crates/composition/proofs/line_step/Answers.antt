use mathlib.Core.Path.{◌≡◌, refl, sym, ◌∙◌}
use Prim.Native.Nat.{◌+◌, ◌-◌}
use native.Mathlib.Omega.{arith}
use Rattle.algebra.specs.Polynomial.{limit, terms, reduced}
use Rattle.polynomial.proofs.Filling.{down-none, down-more, down-all}
use Rattle.composition.proofs.Horner.{step-first, step_line, step_past}
use Rattle.composition.proofs.line_step.Goals as goal

pub loop-j-init : goal.loop-j-init
unfolding terms limit
loop-j-init c = let r = c.requires in down-none r.long (λ j l. r.past j (omega arith) ∙ sym (step_past _ _ r j l))

pub loop-j-preserved : goal.loop-j-preserved
unfolding terms limit
loop-j-preserved c =
    let l = c.loop-j in
    let e : l.j ≡ l.j - 1 + 1 = omega arith in
    let o : l.j - 1 + 1 - 1 ≡ l.j - 1 = omega arith in
    let i = rw e at l.invariant in
    down-more (omega arith) (omega arith) (step_line _ _ c.requires (l.j - 1 + 1) l.p refl (omega arith) i.still (rw o c.two_products.ensures)) i

pub returns : goal.returns
unfolding reduced terms limit
returns c =
    let l = c.loop-j in
    let e : l.j ≡ 0 = omega arith in
    let i = rw e at l.invariant in
    down-all (omega arith) (step-first _ _ c.requires (i.still 0 (omega arith)) c.two_products-2.ensures) i
