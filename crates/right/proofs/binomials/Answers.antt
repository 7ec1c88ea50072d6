use mathlib.Core.Path.{◌≡◌, refl, ap, ◌∙◌}
use Prim.Native.Nat.{ℕ, ◌-◌, ◌%◌}
use native.Mathlib.Nat.{mod-lt}
use native.Mathlib.Omega.{arith}
use Rattle.binomial.specs.Triangle.{rows}
use Rattle.right.proofs.Columns.{scaled-none, scaled-more}
use Rattle.right.proofs.binomials.Goals as goal

pub loop-i-init : goal.loop-i-init
unfolding rows
loop-i-init c = (omega arith, omega arith, omega arith, scaled-none)

pub subtract-requires : goal.subtract-requires
subtract-requires c = (c.args.m.modulus, omega arith, rw c.multiply.ensures (mod-lt _ (omega arith)))

pub loop-i-preserved : goal.loop-i-preserved
loop-i-preserved c =
    let l = c.loop-i in
    let p = c.requires in
    let m = c.args.m.number in
    (omega arith, omega arith, refl, scaled-more (omega arith) p.2 (omega arith) (omega arith) (c.remainder-x.ensures ∙ ap (λ (x : ℕ). x % m) (p.3.is l.i (omega arith))) c.multiply.ensures c.subtract.ensures l.invariant.3)

pub returns : goal.returns
returns c = let e : c.loop-i.i - 1 ≡ c.args.top = omega arith in rw e at c.loop-i.invariant.3
