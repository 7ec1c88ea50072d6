use mathlib.Core.Path.{◌≡◌, ap, ◌∙◌}
use Prim.Native.Nat.{ℕ, ◌+◌, ◌-◌, ◌%◌, min}
use native.Mathlib.Omega.{arith}
use Rattle.algebra.specs.Polynomial.{limit, degree}
use Rattle.built.proofs.Building as law
use Rattle.built.proofs.Built.coefficient.Goals as goal

pub overflow_add-hi : goal.overflow_add-hi
unfolding limit
overflow_add-hi c = omega (arith, c.min-hi.ensures, law.inside c.args.self.now)

pub inner_product-requires : goal.inner_product-requires
inner_product-requires c =
    let x = c.args.self.now in
    let y = c.args.y.now in
    law.product_places x.coefficients y.coefficients c.args.k c.saturating_sub-lo.result (c.min-hi.result + 1) x.measured.long y.measured.long
    (omega (arith, x.measured.is, y.measured.is)) (omega (arith, y.measured.is)) (omega (arith, x.measured.is))

pub returns : goal.returns
returns c =
    let x = c.args.self.now in
    let y = c.args.y.now in
    let k = c.args.k in
    let lo : c.saturating_sub-lo.result ≡ k - degree y.coefficients = omega (arith, y.measured.is) in
    let hi : c.min-hi.result + 1 ≡ min k (degree x.coefficients) + 1 = omega (arith, x.measured.is) in
    let w = law.product_places x.coefficients y.coefficients k c.saturating_sub-lo.result (c.min-hi.result + 1) x.measured.long y.measured.long (omega (arith, x.measured.is, y.measured.is)) lo hi in
    c.inner_product.ensures ∙ ap (λ (n : ℕ). n % c.args.m.number) (law.product_at x.coefficients y.coefficients k c.saturating_sub-lo.result (c.min-hi.result + 1) w.order (omega (arith, w.down)) lo hi)
