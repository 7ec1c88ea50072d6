-- The rows of the powers of t, where 1 + t is the r-th root of f, counted from the top: row i (from 0) of a list holds t^(i+1), its
-- place k at i·w + k, w being how many places a row has. Places 1 to s - 1 of row 0 are those of the right part h = x^s + ...
-- Only leaves need this.
--
--   words                   how many words the rows take at the most
--   Space m a                a list for them: so many words, each below m
--   Scaled m r u top b      b(1) is the inverse u of r, and b(i) is -C(r, i)/r for i from 2 to top
--   Before w k a b          b has the columns below k of a
--   ColumnRoom w k n a      column k of the rows after the first, n of them, lies in a
--   Column m w k n a b      from a to b only column k has changed; its n rows after the first follow from the columns before
--   Rows m f n r w b K a    the columns below K are those of the r-th root of f, which is of degree n
--   Upside s a h            h is monic of degree s, has no constant, and is row 0 between, from the top
use Rattle.std.specs.Prelude.{◌≡◌, List, ℕ, suc, min, ◌+◌, ◌*◌, ◌-◌, ◌%◌, ◌≤◌, ◌<◌, length}
use Rattle.algebra.specs.Number.{choose}
use Rattle.algebra.specs.Polynomial.{coef, terms}
use Rattle.inner.specs.Inner.{inner, strided}
use Rattle.binomial.specs.Triangle.{rows}

-- no more than r rows of s + 2 places, where r and s are at least 2: twice r·s at the most
unfoldable pub words : ℕ
words = 2 * terms

-- so many words, each below m
pub record Space (m : ℕ) (a : List ℕ) : Type 0 where
  pub long : length a ≡ words
  pub small : (i : ℕ) → coef a i < m

-- row r of the binomials, divided by -r modulo m
pub record Scaled (m r u top : ℕ) (b : List ℕ) : Type 0 where
  pub long : length b ≡ rows
  pub one : coef b 1 ≡ u
  pub is : (i : ℕ) → 2 ≤ i → i ≤ top → (r * coef b i + choose r i) % m ≡ 0 % m

-- the columns below k are the same
pub record Before (w k : ℕ) (a b : List ℕ) : Type 0 where
  pub at : (i c : ℕ) → c < k → coef b (i * w + c) ≡ coef a (i * w + c)

-- the list is long enough for n rows after the first, which is shorter than k
pub record ColumnRoom (w k n : ℕ) (a : List ℕ) : Type 0 where
  pub long : length a ≡ words
  pub inside : k < w
  pub few : n < k
  pub room : (n + 1) * w ≤ words

-- only column k has changed, and its n rows after the first are products of what stands before it
pub record Column (m w k n : ℕ) (a b : List ℕ) : Type 0 where
  pub long : length b ≡ length a
  pub small : ((i : ℕ) → coef a i < m) → (i : ℕ) → coef b i < m
  pub before : Before w k a b
  pub is : (i : ℕ) → i < n → coef b (suc i * w + k) ≡ inner b b (i * w + k) 1 (k - suc i) % m

-- each row is the product of the one before with row 0, and each place of row 0 is what 01's equation asks, divided by r
pub record Rows (m : ℕ) (f : List ℕ) (n r w : ℕ) (b : List ℕ) (K : ℕ) (a : List ℕ) : Type 0 where
  pub room : Space m a
  pub is : (k i : ℕ) → k < K → suc i < min r k → coef a (suc i * w + k) ≡ inner a a (i * w + k) 1 (k - suc i) % m
  pub sum : (k : ℕ) → 0 < k → k < K → coef a k ≡ (coef b 1 * coef f (n - k) + strided b a 2 (k + w) w (min r k - 1)) % m

-- row 0 read from the top, between a leading 1 and no constant
pub record Upside (s : ℕ) (a h : List ℕ) : Type 0 where
  pub long : length h ≡ terms
  pub lead : coef h s ≡ 1
  pub origin : coef h 0 ≡ 0
  pub past : (i : ℕ) → s < i → coef h i ≡ 0
  pub is : (k : ℕ) → 0 < k → k < s → coef h (s - k) ≡ coef a k
