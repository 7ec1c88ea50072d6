-- A chain sheet: a record for each part, left to right, in the first places; a place that is not used is zero bytes.
--
--   sheet_bytes               how many bytes a sheet has: `most_parts` records
--   record_at b i             the bytes of place i of the sheet b
--   used xs                   whether a place is used: some byte of it, or some word, is not zero
--   joined n g                g(0) to g(n - 1), one after the other
--   bytes w, record_of w p    the bytes of a word; the record of the modulus word w and the polynomial p
--   recorded w p              what stands in the place of the part p: its record, or zero bytes if p is not used
--   sheet_of w xs             the sheet of the modulus word w and the area xs
--   held b i, area_of b       the polynomial in place i of the sheet b; the words of the area that b gives
--   parts_in g n              the used ones of g(0) to g(n - 1), listed from the right, as a chain's parts are
--   Parted m g                every used one of g(0), g(1), .. is a part
use Rattle.std.specs.Prelude.{◌≡◌, Bool, true, not, cond, List, [], ◌∷◌, ◌++◌, ℕ, zero, suc, ◌+◌, ◌*◌, ◌/◌, ◌%◌, ◌<◌, take, drop, replicate}
use Rattle.algebra.specs.Polynomial.{coef, terms}
use Rattle.algebra.specs.Chain.{Part}
use Rattle.area.specs.Area.{most_parts, place, all_zero}
use Rattle.record.specs.Record.{record_bytes, coefficients}

-- a record for each part
unfoldable pub sheet_bytes : ℕ
sheet_bytes = most_parts * record_bytes

-- the bytes of place i
abbrev pub record_at : List ℕ → ℕ → List ℕ
record_at b i = take record_bytes (drop (i * record_bytes) b)

-- not everything is zero
abbrev pub used : List ℕ → Bool
used xs = not (all_zero xs)

-- g(0) to g(n - 1), one after the other
unfoldable pub joined : ℕ → (ℕ → List ℕ) → List ℕ
joined zero g = []
joined (suc n) g = joined n g ++ g n

-- the four bytes of a word, low byte first
unfoldable pub bytes : ℕ → List ℕ
bytes w = w % 256 ∷ w / 256 % 256 ∷ w / 256 / 256 % 256 ∷ w / 256 / 256 / 256 % 256 ∷ []

-- the modulus word, then the coefficients
unfoldable pub record_of : ℕ → List ℕ → List ℕ
record_of w p = joined (terms + 1) (λ j. bytes (coef (w ∷ p) j))

-- the record of a used part, and else zero bytes
unfoldable pub recorded : ℕ → List ℕ → List ℕ
recorded w p = cond (used p) (record_of w p) (replicate record_bytes 0)

-- what stands in each place, left to right
unfoldable pub sheet_of : ℕ → List ℕ → List ℕ
sheet_of w xs = joined most_parts (λ i. recorded w (place xs i))

-- the polynomial in place i; zeros if the place is not used
abbrev pub held : List ℕ → ℕ → List ℕ
held b i = coefficients (record_at b i)

-- the polynomial in each place, left to right
unfoldable pub area_of : List ℕ → List ℕ
area_of b = joined most_parts (held b)

-- the used ones, the rightmost first
unfoldable pub parts_in : (ℕ → List ℕ) → ℕ → List (List ℕ)
parts_in g zero = []
parts_in g (suc n) = cond (used (g n)) (g n ∷ parts_in g n) (parts_in g n)

-- reduced, and monic of a degree of 2 or more
pub record Parted (m : ℕ) (g : ℕ → List ℕ) : Type 0 where
  pub is : (i : ℕ) → i < most_parts → used (g i) ≡ true → Part m (g i)
