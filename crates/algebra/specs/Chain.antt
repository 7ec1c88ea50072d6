-- The chain of f by 01's rule. Parts are listed FROM THE RIGHT: the part next to x first.
--
--   divides d n, tested n s  1 if d divides n, and 0 if not; how many right degrees from 2 up to s divide n
--   Chain m n f parts t      the chain of f, monic of degree n, with its tries t
--   composed parts           what the parts compose to
--   part parts i, Part m p   the i-th part from the right; what every part is
--   degrees, product, price  the degrees of the parts, what they multiply to, and what the parts cost
--   Carried m a b ps ps'     the change (a, b) carried along the parts from the right
use Rattle.std.specs.Prelude.{◌≡◌, List, [], ◌∷◌, ℕ, zero, suc, ◌+◌, ◌*◌, ◌-◌, ◌^◌, ◌%◌, ◌/◌, ◌≤◌, ◌<◌, get_or}
use Rattle.algebra.specs.Polynomial.{after, value, degree, Monic, Reduced}
use Rattle.algebra.specs.Pair.{NormalPair, SplitsRight}
use Rattle.algebra.specs.Change.{Changed, ChangedRight}

-- 1 if d divides n, and 0 if not
unfoldable pub divides : ℕ → ℕ → ℕ
divides d n = elim (n % d) [ zero ↦ 1 | suc e ↦ 0 ]

-- how many right degrees from 2 up to s divide n: one try for each
unfoldable pub tested : ℕ → ℕ → ℕ
tested n zero = 0
tested n (suc zero) = 0
tested n (suc (suc d)) = tested n (suc d) + divides (suc (suc d)) n

-- whole: f splits at no right degree, and all up to n/2 were tested; it is the leftmost part.
-- step: s is the first right degree at which f splits, h is the rightmost part, and g has the chain of the others.
pub data Chain (m : ℕ) : ℕ → List ℕ → List (List ℕ) → ℕ → Type 0 where
  whole : {n : ℕ} {f : List ℕ} → Monic m n f → Reduced m f
      → ((s : ℕ) → SplitsRight m n f s → ⊥)
      → Chain m n f (f ∷ []) (tested n (n / 2))
  step : {n r s t : ℕ} {f g h : List ℕ} {parts : List (List ℕ)} → 2 ≤ r → 2 ≤ s → r * s ≡ n
      → ((d : ℕ) → d < s → SplitsRight m n f d → ⊥)
      → NormalPair m f r s g h → Chain m r g parts t
      → Chain m n f (h ∷ parts) (tested n s + t)

-- the leftmost part after the next, and so on, down to the part next to x
unfoldable pub composed : List (List ℕ) → List ℕ
composed [] = 0 ∷ 1 ∷ []
composed (h ∷ parts) = after (composed parts) h

abbrev pub part : List (List ℕ) → ℕ → List ℕ
part parts i = get_or parts i []

-- reduced, and monic of a degree of 2 or more
pub record Part (m : ℕ) (p : List ℕ) : Type 0 where
  pub reduced : Reduced m p
  pub monic : Monic m (degree p) p
  pub two : 2 ≤ degree p

-- the degrees of the parts
unfoldable pub degrees : List (List ℕ) → List ℕ
degrees [] = []
degrees (p ∷ parts) = degree p ∷ degrees parts

-- the numbers of a list multiplied
unfoldable pub product : List ℕ → ℕ
product [] = 1
product (d ∷ l) = d * product l

-- a monic polynomial of degree n costs n - 1 multiplications: its leading coefficient is 1, so the first is never built
unfoldable pub cost : List ℕ → ℕ
cost p = degree p - 1

-- the price of a chain is the sum over its parts
unfoldable pub price : List (List ℕ) → ℕ
price [] = 0
price (p ∷ parts) = cost p + price parts

-- each part but the leftmost is changed as h is and hands (a^s, h(b)) to its left neighbour; the leftmost as a polynomial
pub data Carried (m : ℕ) : ℕ → ℕ → List (List ℕ) → List (List ℕ) → Type 0 where
  leftmost : {n a b : ℕ} {f f' : List ℕ} → Monic m n f → Reduced m f' → Changed m n a b f f'
      → Carried m a b (f ∷ []) (f' ∷ [])
  hand_on : {s a b : ℕ} {h h' : List ℕ} {parts parts' : List (List ℕ)} → Monic m s h → Reduced m h' → ChangedRight m s a b h h'
      → Carried m (a ^ s) (value h b) parts parts'
      → Carried m a b (h ∷ parts) (h' ∷ parts')
