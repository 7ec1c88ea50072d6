-- Pascal's triangle as a list, row after row, computed by Pascal's rule alone.
--
--   rows           how many rows the desk's table has
--   sums xs        each number of xs with its right neighbour added
--   row j          C(j, 0), .., C(j, j)
--   triangle n     the rows 0 to n - 1, one after the other
--   HasRow r top b  b begins with C(r, 0), .., C(r, top)
use Rattle.std.specs.Prelude.{◌≡◌, List, [], ◌∷◌, ◌++◌, ℕ, zero, suc, ◌+◌, ◌≤◌, ◌<◌, length, get_or}
use Rattle.algebra.specs.Number.{choose}

-- how many rows the table has
unfoldable pub rows : ℕ
rows = 64

-- each number with its right neighbour added, and the last as it is
unfoldable pub sums : List ℕ → List ℕ
sums [] = []
sums (x ∷ xs) = (x + get_or xs 0 0) ∷ sums xs

-- a 1, and the sums of the row before
unfoldable pub row : ℕ → List ℕ
row zero = 1 ∷ []
row (suc j) = 1 ∷ sums (row j)

-- the first n rows
unfoldable pub triangle : ℕ → List ℕ
triangle zero = []
triangle (suc n) = triangle n ++ row n

-- row r as far as place top; where top is above r, with zeros
pub record HasRow (r top : ℕ) (b : List ℕ) : Type 0 where
  pub long : top < length b
  pub is : (i : ℕ) → i ≤ top → get_or b i 0 ≡ choose r i
