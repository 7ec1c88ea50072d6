-- A sum of products as it is kept. Only leaves need this.
--
--   Widened n high low s     the words hold s, a sum of n products
--   Rounded w s              the word holds s, round at 2^32
use Rattle.std.specs.Prelude.{◌≡◌, ℕ, ◌+◌, ◌*◌, ◌%◌, ◌^◌, ◌≤◌}

-- high·2^64 + low; a data type: `omega` would read a record's large numbers wherever one is in reach, and break off
pub data Widened (n high low s : ℕ) : Type 0 where
  widened : high * 2 ^ 64 + low ≡ s → high ≤ n → Widened n high low s

-- what is left of s in a word
pub record Rounded (w s : ℕ) : Type 0 where
  pub is : w ≡ s % 2 ^ 32
