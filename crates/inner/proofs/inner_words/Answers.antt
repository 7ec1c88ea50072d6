use mathlib.Core.Path.{◌≡◌, refl, sym, ap, ◌∙◌}
use Prim.Native.Nat.{ℕ, ◌+◌, ◌-◌, ◌%◌, ◌^◌}
use native.Mathlib.Omega.{arith}
use Rattle.inner.proofs.Inner.{inner_start, inner_next}
use Rattle.inner.proofs.inner_words.Goals as goal

pub returns-then-lo-hi : goal.returns-then-lo-hi
returns-then-lo-hi c =
    let e : c.args.hi ≡ c.args.lo = omega arith in
    rw e (sym (ap (λ (x : ℕ). x % 2 ^ 32) (inner_start _ _ _ _)))

-- the last term
pub returns : goal.returns
returns c =
    let a = c.args in
    let e : a.hi - 1 + 1 ≡ a.hi = omega arith in
    rw e at ((c.more.ensures (a.hi - 1 - a.lo) _ (omega arith) c.inner_sum-w.ensures).is ∙ ap (λ (x : ℕ). x % 2 ^ 32) (sym (inner_next a.a.now a.b.now a.k a.lo (a.hi - 1) (omega arith) refl)))
