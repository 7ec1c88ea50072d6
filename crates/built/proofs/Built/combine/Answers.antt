use mathlib.Core.Path.{refl}
use Rattle.built.specs.Built.{left, right, both, low}
use Rattle.built.proofs.Building.{larger_left, larger_right}
use Rattle.built.proofs.Joining.{sum_low}
use Rattle.built.proofs.Built.combine.Goals as goal

pub returns-in_default : goal.returns-in_default
returns-in_default c = rw c.in_default.is left

pub returns-in_default-b : goal.returns-in_default-b
returns-in_default-b c = rw c.in_default-b.is right

pub returns : goal.returns
returns c =
    let x = c.in-Some.x.measured in
    let y = c.in-Some-b.y.measured in
    rw (c.in-Some.is, c.in-Some-b.is) (both (low (sum_low _ _ (larger_left x y refl) (larger_right x y refl)) c.mixed.ensures))
