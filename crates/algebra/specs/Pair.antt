-- Pairs: f(x) = g(h(x)) modulo m with g and h monic. g is the left part, h the right part.
--
--   Pair m f r s g h         g of degree r and h of degree s compose to f
--   Normal m h, NormalPair   h(0) = 0; a pair as the desk hands it out: normal, and both parts reduced
--   NoPair m f r s           no g and h whatever, normal or not, reduced or not
--   SplitsRight m n f s      f, of degree n, splits with a right part of degree s
--   Unsplit m p              p splits at no r
--   terms_from j h           h without its terms below x^j
--   ForcedRight m r s f h    h has the coefficients that 01's Right part rule forces
--   ForcedLeft m r s f h g   g is the monic left part for which g(h) and f agree at every power x^(is)
--   ForcedPair m r s f g h   the only pair that f can have, whether it composes to f or not
--   Differs m p q k          x^k is the highest power at which p and q differ
--   Report m r s f k         x^k is the highest power at which the forced pair, composed, and f differ
use Rattle.std.specs.Prelude.{◌≡◌, List, [], ◌∷◌, ℕ, zero, suc, ◌+◌, ◌*◌, ◌-◌, ◌%◌, ◌≤◌, ◌<◌}
use Rattle.algebra.specs.Polynomial.{coef, power, after, degree, Same, Monic, Reduced}

-- g and h are monic, of degrees r and s, and f = g(h)
pub record Pair (m : ℕ) (f : List ℕ) (r s : ℕ) (g h : List ℕ) : Type 0 where
  pub left : Monic m r g
  pub right : Monic m s h
  pub whole : Same m f (after g h)

-- the constant term is 0
pub record Normal (m : ℕ) (h : List ℕ) : Type 0 where
  pub constant : coef h 0 % m ≡ 0 % m

-- the pair with h(0) = 0, as the desk holds it
pub record NormalPair (m : ℕ) (f : List ℕ) (r s : ℕ) (g h : List ℕ) : Type 0 where
  pub pair : Pair m f r s g h
  pub normal : Normal m h
  pub reduced_left : Reduced m g
  pub reduced_right : Reduced m h

-- nothing at all composes to f with these degrees
abbrev pub NoPair : ℕ → List ℕ → ℕ → ℕ → Type 0
NoPair m f r s = (g h : List ℕ) → Pair m f r s g h → ⊥

-- 01's "f splits at r", said by the right degree s: r and s are at least 2, multiply to n, and there is a pair
pub record SplitsRight (m n : ℕ) (f : List ℕ) (s : ℕ) : Type 0 where
  pub r : ℕ
  pub two_left : 2 ≤ r
  pub two_right : 2 ≤ s
  pub degrees : r * s ≡ n
  pub g : List ℕ
  pub h : List ℕ
  pub pair : Pair m f r s g h

-- no pair at any r and s of 2 or more that multiply to the degree of p
pub record Unsplit (m : ℕ) (p : List ℕ) : Type 0 where
  pub none : (r s : ℕ) → 2 ≤ r → 2 ≤ s → r * s ≡ degree p → NoPair m p r s

-- the terms of h from x^j on
unfoldable pub terms_from : ℕ → List ℕ → List ℕ
terms_from zero h = h
terms_from (suc j) [] = []
terms_from (suc j) (a ∷ h) = 0 ∷ terms_from j h

-- r·c_(s-k) = a_(n-k) - d for k = 1 .. s-1, where d is the coefficient of x^(n-k) in q^r and q the known top of h
pub record ForcedRight (m r s : ℕ) (f h : List ℕ) : Type 0 where
  pub monic : Monic m s h
  pub normal : Normal m h
  pub forced : (k : ℕ) → 0 < k → k < s
      → (coef (power (terms_from (suc (s - k)) h) r) (r * s - k) + r * coef h (s - k)) % m ≡ coef f (r * s - k) % m

-- 000's system (1): g is monic of degree r, and g(h) and f agree at every power x^(is)
pub record ForcedLeft (m r s : ℕ) (f h g : List ℕ) : Type 0 where
  pub monic : Monic m r g
  pub forced : (i : ℕ) → coef (after g h) (i * s) % m ≡ coef f (i * s) % m

-- the right part by 01's rule, the left part by 000's system
pub record ForcedPair (m r s : ℕ) (f g h : List ℕ) : Type 0 where
  pub right : ForcedRight m r s f h
  pub left : ForcedLeft m r s f h g

-- p and q agree above x^k, and at x^k they do not
pub record Differs (m : ℕ) (p q : List ℕ) (k : ℕ) : Type 0 where
  pub above : (i : ℕ) → k < i → coef p i % m ≡ coef q i % m
  pub here : ¬ (coef p k % m ≡ coef q k % m)

-- request No. 7: what a no reports
pub record Report (m r s : ℕ) (f : List ℕ) (k : ℕ) : Type 0 where
  pub g : List ℕ
  pub h : List ℕ
  pub forced : ForcedPair m r s f g h
  pub differs : Differs m f (after g h) k
