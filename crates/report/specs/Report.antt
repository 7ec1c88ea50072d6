-- All digits of a polynomial in powers of h, and the highest of them that is no constant (request No. 7). Only leaves need this.
--
--   from_digits h s n q      the polynomial whose lowest n digits are q's first places, s at a time, and whose quotient stands above
--   Expanded m h s n p q     q has the lowest n digits of p, and above them the quotient
--   Constants s q            every digit is a constant
--   HighestAt s q k          k is the highest place with a number that is no digit's constant, and 0 if there is none
--   LeftReport m f r s h k   k is the highest power at which g(h) and f differ for the forced left part g, and 0 if none does
use Rattle.std.specs.Prelude.{◌≡◌, List, ℕ, zero, suc, ◌+◌, ◌*◌, ◌<◌, length, take, drop}
use Rattle.algebra.specs.Polynomial.{coef, plus, times, after, Same, Monic}
use Rattle.algebra.specs.Pair.{ForcedLeft, Differs}

-- c_0 + h·(c_1 + h·(.. + h·quotient)), for the digits c_0, c_1, ..
unfoldable pub from_digits : List ℕ → ℕ → ℕ → List ℕ → List ℕ
from_digits h s zero q = q
from_digits h s (suc n) q = plus (take s q) (times h (from_digits h s n (drop s q)))

-- n digits and the quotient make p
pub record Expanded (m : ℕ) (h : List ℕ) (s n : ℕ) (p q : List ℕ) : Type 0 where
  pub long : length q ≡ length p
  pub below : (i : ℕ) → coef q i < m
  pub whole : Same m p (from_digits h s n q)

-- nothing stands at place j of any digit but at place 0
abbrev pub Constants : ℕ → List ℕ → Type 0
Constants s q = (i j : ℕ) → 0 < j → j < s → coef q (i * s + j) ≡ 0

-- place j of digit i, and above it nothing but constants
pub data HighestAt (s : ℕ) (q : List ℕ) (k : ℕ) : Type 0 where
  nowhere : Constants s q → k ≡ 0 → HighestAt s q k
  place : (i j : ℕ) → 0 < j → j < s → k ≡ i * s + j → ¬ (coef q (i * s + j) ≡ 0) → ((l : ℕ) → j < l → l < s → coef q (i * s + l) ≡ 0)
      → ((d l : ℕ) → i < d → 0 < l → l < s → coef q (d * s + l) ≡ 0) → HighestAt s q k

-- f = g(h), or where they differ first from the top
pub data LeftReport (m : ℕ) (f : List ℕ) (r s : ℕ) (h : List ℕ) (k : ℕ) : Type 0 where
  composes : {g : List ℕ} → Monic m r g → Same m f (after g h) → k ≡ 0 → LeftReport m f r s h k
  differs : {g : List ℕ} → ForcedLeft m r s f h g → Differs m f (after g h) k → LeftReport m f r s h k
