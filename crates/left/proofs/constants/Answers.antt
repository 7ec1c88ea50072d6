use mathlib.Core.Path.{◌≡◌, refl, sym, ◌∙◌}
use Prim.Native.Nat.{ℕ, ◌*◌, ◌<◌}
use native.Mathlib.Omega.{arith}
use native.Mathlib.Decide.{dec_lt}
use lib.Seq.{get_or-set_other}
use Rattle.algebra.specs.Polynomial.{coef, terms, limit}
use Rattle.polynomial.proofs.Filling.{zeros, filled_none, filled_more, filled-all}
use Rattle.left.proofs.Found.{constant-place}
use Rattle.left.proofs.constants.Goals as goal

pub loop-i-init : goal.loop-i-init
unfolding terms limit
loop-i-init c = (filled_none refl, λ j l. zeros terms j)

pub loop-i-preserved : goal.loop-i-preserved
unfolding terms
loop-i-preserved c =
    let l = c.loop-i in
    let place = constant-place {i = l.i} c.requires.1 c.requires.2 (omega arith) in
    (filled_more (omega arith) refl l.invariant.0, λ j above. get_or-set_other l.g l.i j _ 0 (omega arith) ∙ l.invariant.1 j (omega arith))

pub returns : goal.returns
returns c = filled-all {i = terms} (omega arith) (record { long = c.loop-i.invariant.0.long; is = λ j l. place j (dec_lt j c.loop-i.i) })
  where
    place : (j : ℕ) → Dec (j < c.loop-i.i) → coef c.loop-i.g j ≡ coef c.args.a.now (j * c.args.s)
    place j (yes l) = c.loop-i.invariant.0.is j l
    place j (no l) = c.loop-i.invariant.1 j (omega arith) ∙ sym (c.requires.3 j (omega arith))
