-- What the search for an inverse answers. Only leaves need this.
--
--   InverseIs a m r          r is the inverse of a modulo m, or the factor above 1 that a and m share
use Rattle.std.specs.Prelude.{◌≡◌, ℕ, ◌*◌, ◌%◌, ◌<◌, Result, Ok, Err}
use Rattle.algebra.specs.Number.{GreatestFactor}
use Rattle.inverse.specs.declared.SharedFactor.{SharedFactor}

-- the inverse below m, or the greatest common factor where it is above 1
abbrev pub InverseIs : ℕ → ℕ → Result ℕ SharedFactor → Type 0
InverseIs a m (Ok x) = (x < m) × (a * x % m ≡ 1)
InverseIs a m (Err d) = (1 < d.0) × GreatestFactor a m d.0
