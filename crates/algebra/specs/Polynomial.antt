-- A polynomial is the list of its coefficients, whole numbers: place i is the coefficient of x^i, and 0 past the end.
-- Nothing is reduced in a sum, a product or a composition; "modulo m" is only a way of comparing them.
--
--   coef p i                       the coefficient of x^i
--   plus, scaled, times, power     sums and products
--   after g h, value p b           g(h(x)), and p(b)
--   Same m p q, Monic m n p        equal modulo m; monic of degree n modulo m
--   limit, terms                   the highest degree at the desk, and how many coefficients that makes
--   Reduced m p                    p as the desk holds it: `terms` coefficients, each below m
--   reduced m p                    what p is so: its first `terms` coefficients modulo m
--   Held m n p                     reduced, and monic of degree n within the limit
--   degree p                       the largest i whose coefficient is not zero
use Rattle.std.specs.Prelude.{◌≡◌, List, [], ◌∷◌, ℕ, zero, suc, ◌+◌, ◌*◌, ◌%◌, ◌≤◌, ◌<◌, get_or, length}
use Rattle.algebra.specs.Number.{table}

abbrev pub coef : List ℕ → ℕ → ℕ
coef p i = get_or p i 0

-- p + q
unfoldable pub plus : List ℕ → List ℕ → List ℕ
plus [] q = q
plus (a ∷ p) [] = a ∷ p
plus (a ∷ p) (b ∷ q) = (a + b) ∷ plus p q

-- a·q, for a number a
unfoldable pub scaled : ℕ → List ℕ → List ℕ
scaled a [] = []
scaled a (b ∷ q) = (a * b) ∷ scaled a q

-- p·q, by (a + x·p)·q = a·q + x·(p·q)
unfoldable pub times : List ℕ → List ℕ → List ℕ
times [] q = []
times (a ∷ p) q = plus (scaled a q) (0 ∷ times p q)

-- p^n
unfoldable pub power : List ℕ → ℕ → List ℕ
power p zero = 1 ∷ []
power p (suc n) = times p (power p n)

-- g(h(x)), by (a + x·g)(h) = a + h·g(h)
unfoldable pub after : List ℕ → List ℕ → List ℕ
after [] h = []
after (a ∷ g) h = plus (a ∷ []) (times h (after g h))

-- p(b)
unfoldable pub value : List ℕ → ℕ → ℕ
value [] b = 0
value (a ∷ p) b = a + b * value p b

-- every coefficient agrees modulo m
pub record Same (m : ℕ) (p q : List ℕ) : Type 0 where
  pub at : (i : ℕ) → coef p i % m ≡ coef q i % m

-- modulo m, the coefficient of x^n is 1 and all above it are 0
pub record Monic (m n : ℕ) (p : List ℕ) : Type 0 where
  pub top : coef p n % m ≡ 1 % m
  pub above : (i : ℕ) → n < i → coef p i % m ≡ 0 % m

-- the highest degree that the desk takes
unfoldable pub limit : ℕ
limit = 126

-- how many coefficients a polynomial of the desk has
unfoldable pub terms : ℕ
terms = limit + 1

-- exactly so many numbers, each below m
pub record Reduced (m : ℕ) (p : List ℕ) : Type 0 where
  pub long : length p ≡ terms
  pub below : (i : ℕ) → i < terms → coef p i < m

-- each coefficient modulo m
unfoldable pub reduced : ℕ → List ℕ → List ℕ
reduced m p = table terms (λ i. coef p i % m)

-- a monic polynomial of degree n as a leaf is given it
pub record Held (m n : ℕ) (p : List ℕ) : Type 0 where
  pub reduced : Reduced m p
  pub monic : Monic m n p
  pub within : n ≤ limit

-- the largest i below k whose coefficient is not zero, and 0 if there is none
unfoldable pub highest : ℕ → List ℕ → ℕ
highest zero p = 0
highest (suc k) p = elim (coef p k) [ zero ↦ highest k p | suc c ↦ k ]

-- the largest i whose coefficient is not zero, and 0 if there is none
unfoldable pub degree : List ℕ → ℕ
degree p = highest (length p) p
