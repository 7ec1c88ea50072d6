use mathlib.Core.Path.{◌≡◌}
use Prim.Native.Nat.{◌≤◌}
use Rattle.algebra.specs.Chain.{degrees, product}
use Rattle.area.specs.Area.{place}
use Rattle.algebra.specs.Polynomial.{limit}
use Rattle.sheet.specs.Sheet.{parts_in}
use Rattle.sheet_checks.proofs.check_product.Given as goal

abbrev pub invariant-loop-i : goal.invariant-loop-i
invariant-loop-i l = (l.n ≡ product (degrees (parts_in (place l.area) l.i))) × (l.n ≤ limit)
