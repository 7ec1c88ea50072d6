use mathlib.Core.Path.{sym, ap, ◌∙◌}
use Prim.Native.Nat.{ℕ, ◌+◌, ◌*◌}
use native.Mathlib.Omega.{arith}
use Rattle.area.specs.Area.{most_parts}
use Rattle.algebra.specs.Polynomial.{limit}
use Rattle.sheet.proofs.Composing.{product-none, above-product, within-product}
use Rattle.sheet_checks.proofs.check_product.Goals as goal

pub loop-i-init : goal.loop-i-init
unfolding limit
loop-i-init c = (product-none _, omega arith)

pub returns-then-n-gt-LIMIT : goal.returns-then-n-gt-LIMIT
unfolding most_parts limit
returns-then-n-gt-LIMIT c =
    let l = c.loop-i in
    let f = c.factor-n in
    rw c.into.ensures (above-product _ c.requires.1 (l.i + 1) (omega arith) (ap (λ (x : ℕ). f.result * x) l.invariant.0 ∙ sym f.ensures.0) c.if-n-gt-LIMIT.true)

pub returns : goal.returns
unfolding most_parts
returns c = within-product _ (omega arith) (omega arith) c.loop-i.invariant.0 c.loop-i.invariant.1
