-- The reciprocal that stands beside a modulus.
--
--   Reciprocal m v     v is the largest word of 64 bits divided by m
use Rattle.std.specs.Prelude.{◌≡◌, ℕ, ◌-◌, ◌/◌, ◌^◌}

-- the largest word of 64 bits divided by m; a data type, since `omega` would read its large number wherever it is in reach
pub data Reciprocal (m v : ℕ) : Type 0 where
  reciprocal : v ≡ (2 ^ 64 - 1) / m → Reciprocal m v
