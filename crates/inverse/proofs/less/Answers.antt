use mathlib.Core.Path.{◌∙◌, ap}
use Prim.Native.Nat.{ℕ, ◌%◌}
use native.Mathlib.Nat.{add-mod_right}
use native.Mathlib.Omega.{arith}
use Rattle.inverse.proofs.less.Goals as goal

pub returns-then-s-t : goal.returns-then-s-t
returns-then-s-t c = (omega arith, ap (λ (n : ℕ). n % c.args.m) (omega arith))

pub returns-else-s-t : goal.returns-else-s-t
returns-else-s-t c = (omega arith, ap (λ (n : ℕ). n % c.args.m) (omega arith) ∙ add-mod_right c.args.t c.args.m)
