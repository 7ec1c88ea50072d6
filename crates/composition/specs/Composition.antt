-- The composition g(h) as the desk holds it, and what its leaves ask.
--
--   composition m g h    g(h) modulo m, as the desk holds it
--   Ends d p             p has `terms` places, and nothing above x^d, which is within the limit
--   Composable r s g h   g ends at x^r and h at x^s, and g(h) is within the limit
--   Room s d h p         h ends at x^s, and p early enough that h·p ends at x^d, within the limit
use Rattle.std.specs.Prelude.{◌≡◌, List, ℕ, ◌+◌, ◌*◌, ◌≤◌, ◌<◌, length}
use Rattle.algebra.specs.Polynomial.{coef, after, limit, terms, reduced}

-- g(h) modulo m
unfoldable pub composition : ℕ → List ℕ → List ℕ → List ℕ
composition m g h = reduced m (after g h)

-- all places, and nothing above x^d
pub record Ends (d : ℕ) (p : List ℕ) : Type 0 where
  pub long : length p ≡ terms
  pub past : (k : ℕ) → d < k → coef p k ≡ 0
  pub inside : d ≤ limit

-- g(h) ends at x^(rs)
pub record Composable (r s : ℕ) (g h : List ℕ) : Type 0 where
  pub left : Ends r g
  pub right : Ends s h
  pub within : r * s ≤ limit

-- a product of h and p, and what is added to its constant, ends at x^d
pub record Room (s d : ℕ) (h p : List ℕ) : Type 0 where
  pub right : Ends s h
  pub long : length p ≡ terms
  pub past : (k : ℕ) → d < k + s → coef p k ≡ 0
  pub within : d ≤ limit
