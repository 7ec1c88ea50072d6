use mathlib.Core.Path.{◌∙◌}
use native.Mathlib.Omega.{arith}
use Rattle.algebra.specs.Polynomial.{terms, limit}
use Rattle.built.proofs.Building as law
use Rattle.built.proofs.Joining.{sum-ends}
use Rattle.built.proofs.Built.mixed.Goals as goal

pub overflow_add-i-end : goal.overflow_add-i-end
unfolding limit
overflow_add-i-end c = omega (arith, c.max-top.ensures, law.inside c.args.self.now, law.inside c.args.y.now)

pub loop-i-init : goal.loop-i-init
unfolding terms limit
loop-i-init c = (omega (arith, c.max-top.ensures, law.inside c.args.self.now, law.inside c.args.y.now), law.front_none)

pub loop-i-preserved : goal.loop-i-preserved
unfolding terms limit
loop-i-preserved c = (c.loop-i.invariant.0, law.front_more (omega arith) (law.mixed_at _ _ _ _ _ _ c.two_products.ensures) c.loop-i.invariant.1)

pub ending-requires : goal.ending-requires
ending-requires c =
    let x = c.args.self.now.measured in
    let y = c.args.y.now.measured in
    let l = law.larger_left x y c.max-top.ensures in
    let r = law.larger_right x y c.max-top.ensures in
    sum-ends _ _ (omega arith) l r (law.mixed_all _ _ _ _ l r (omega arith) c.loop-i.invariant.1)

pub returns : goal.returns
returns c =
    let x = c.args.self.now.measured in
    let y = c.args.y.now.measured in
    c.ending.ensures ∙ law.mixed_all _ _ _ _ (law.larger_left x y c.max-top.ensures) (law.larger_right x y c.max-top.ensures) (omega arith) c.loop-i.invariant.1
