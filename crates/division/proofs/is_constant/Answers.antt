use mathlib.Core.Path.{◌≡◌}
use mathlib.Core.Bool.{true, false}
use Prim.Native.Nat.{ℕ, ◌<◌}
use Rattle.std.proofs.Common.{arith}
use Rattle.std.proofs.lemmas.Grind.{common_steps}
use Rattle.algebra.specs.Polynomial.{coef}
use Rattle.division.proofs.is_constant.Goals as goal

pub returns : goal.returns
returns c =
    let yes : c.all.result ≡ true → (i : ℕ) → 0 < i → coef c.args.p.now i ≡ 0 = grind (arith, common_steps) in
    let no : c.all.result ≡ false → (i : ℕ) × (0 < i) × ¬ (coef c.args.p.now i ≡ 0) = grind (arith, common_steps) in
    record { yes = yes; no = no }
