-- The text of a line.
--
--   space, newline   their bytes in ASCII
--   most_field       the most bytes of a number with the space before it
--   before_degrees   how many numbers stand before the degrees
--   most_line        the most bytes of a line
--   spaced l         each number of l after a space
--   fields x l       the numbers x and l with single spaces between them, and a newline
use Rattle.std.specs.Prelude.{List, [], ◌∷◌, ◌++◌, ℕ, ◌+◌, ◌*◌}
use Rattle.digits.specs.Digits.{most_digits, decimal}
use Rattle.area.specs.Area.{most_parts}

abbrev pub space : ℕ
space = 32

abbrev pub newline : ℕ
newline = 10

-- a number and the space before it
unfoldable pub most_field : ℕ
most_field = most_digits + 1

-- how many numbers stand before the degrees: record number, refusal number, degree, parts, tries, price
unfoldable pub before_degrees : ℕ
before_degrees = 6

-- these, the degrees and a newline
unfoldable pub most_line : ℕ
most_line = most_field * (before_degrees + most_parts) + 1

-- a space before each number
unfoldable pub spaced : List ℕ → List ℕ
spaced [] = []
spaced (x ∷ l) = space ∷ (decimal x ++ spaced l)

-- a line
unfoldable pub fields : ℕ → List ℕ → List ℕ
fields x l = decimal x ++ (spaced l ++ (newline ∷ []))
