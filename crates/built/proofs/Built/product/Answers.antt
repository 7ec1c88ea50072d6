use mathlib.Core.Path.{◌∙◌}
use native.Mathlib.Omega.{arith}
use Rattle.algebra.specs.Polynomial.{terms, limit}
use Rattle.built.proofs.Building as law
use Rattle.built.proofs.Joining.{product-ends}
use Rattle.built.proofs.Built.product.Goals as goal

pub overflow_add-self : goal.overflow_add-self
unfolding limit
overflow_add-self c = omega (arith, law.inside c.args.self.now, law.inside c.args.y.now)

pub loop-k-init : goal.loop-k-init
unfolding terms limit
loop-k-init c = law.front_none

pub ending-requires : goal.ending-requires
unfolding limit
ending-requires c =
    let x = c.args.self.now.measured in
    let y = c.args.y.now.measured in
    product-ends _ (omega arith) x y c.min-top.ensures (law.product-all _ _ _ x y c.min-top.ensures (omega arith) c.loop-k.invariant)

pub returns : goal.returns
unfolding limit
returns c = c.ending.ensures ∙ law.product-all _ _ _ c.args.self.now.measured c.args.y.now.measured c.min-top.ensures (omega arith) c.loop-k.invariant
