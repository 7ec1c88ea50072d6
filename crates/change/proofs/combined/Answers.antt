use mathlib.Core.Path.{◌≡◌}
use Prim.Native.Nat.{◌+◌, ◌*◌}
use native.Mathlib.Omega.{arith}
use Rattle.change.proofs.combined.Goals as goal

pub returns : goal.returns
returns c =
    let a = c.args in
    let once : a.first.unit * a.second.origin + a.first.origin * 1 ≡ a.first.unit * a.second.origin + a.first.origin = omega arith in
    rw (c.multiply.ensures, c.two_products.ensures, once)
