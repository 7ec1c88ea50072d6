use mathlib.Core.Path.{◌≡◌, ap, ◌∙◌}
use mathlib.Core.List.{◌++◌}
use Prim.Native.Nat.{ℕ, ◌+◌, ◌-◌}
use native.Mathlib.Omega.{arith}
use lib.ListN.{take, drop}
use Rattle.reading.specs.Reading.{to_front}
use Rattle.reading.proofs.keep.Goals as goal

pub returns : goal.returns
unfolding to_front
returns c =
    let a = c.args in
    let moved : a.from + a.n - a.from ≡ a.n = omega arith in
    let rest : 0 + a.n ≡ a.n = omega arith in
    c.copy_within.ensures.after ∙ ap (λ (k : ℕ). take k (drop a.from a.buf.now) ++ drop (0 + k) a.buf.now) moved
    ∙ ap (λ (k : ℕ). take a.n (drop a.from a.buf.now) ++ drop k a.buf.now) rest
