-- The decimal digits of a number, and what it means to put a text into a buffer.
--
--   digit d                   its byte in ASCII
--   most_digits               the most bytes of a number
--   digits k n                the last k decimal digits of n in ASCII
--   decimal n                 all of them
--   Put xs at t most ys r     t was put into xs at index at, nothing else has changed, and r is the index after it
use Rattle.std.specs.Prelude.{◌≡◌, cond, List, [], ◌∷◌, ◌++◌, ℕ, zero, suc, ◌+◌, ◌/◌, ◌%◌, ◌≤◌, ltb, length}
use Rattle.std.proofs.lemmas.List.Edits.{sets}

-- the byte of a digit
abbrev pub digit : ℕ → ℕ
digit d = 48 + d

-- a number below 2^32 has no more digits
unfoldable pub most_digits : ℕ
most_digits = 10

-- the last k decimal digits of n, without leading zeros
unfoldable pub digits : ℕ → ℕ → List ℕ
digits zero n = []
digits (suc k) n = cond (ltb n 10) (digit n ∷ []) (digits k (n / 10) ++ (digit (n % 10) ∷ []))

-- the decimal digits of a number that has no more than `most_digits`
unfoldable pub decimal : ℕ → List ℕ
decimal n = digits most_digits n

-- text in a buffer, at most `most` bytes of it
pub record Put (xs : List ℕ) (at : ℕ) (text : List ℕ) (most : ℕ) (ys : List ℕ) (r : ℕ) : Type 0 where
  pub stored : ys ≡ sets xs at text
  pub end : r ≡ at + length text
  pub within : r ≤ at + most
