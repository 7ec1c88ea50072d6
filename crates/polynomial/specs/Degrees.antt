-- The degrees of a pair.
--
--   Degrees n r s     a left degree r and a right degree s that fit n: both at least 2, and r·s = n within the limit
use Rattle.std.specs.Prelude.{◌≡◌, ℕ, ◌*◌, ◌≤◌}
use Rattle.algebra.specs.Polynomial.{limit}

-- r divides n, and r and s = n/r are both at least 2
pub record Degrees (n r s : ℕ) : Type 0 where
  pub product : r * s ≡ n
  pub within : n ≤ limit
  pub two_left : 2 ≤ r
  pub two_right : 2 ≤ s
