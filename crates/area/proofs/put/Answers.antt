use mathlib.Core.Path.{◌≡◌}
use Prim.Native.Nat.{◌-◌, ◌+◌}
use native.Mathlib.Omega.{arith}
use Rattle.algebra.specs.Polynomial.{limit, terms}
use Rattle.area.specs.Area.{most_parts, area_words, put_at}
use Rattle.area.proofs.put.Goals as goal

pub returns : goal.returns
unfolding put_at area_words most_parts terms limit
returns c =
    let s = c.start-from in
    let e : s.result + terms - s.result ≡ terms = omega arith in
    rw (e, s.ensures, c.copy_from_slice.ensures.after)
