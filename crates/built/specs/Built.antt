-- A polynomial as it is built, one term, one factor or one power at a time, with No. 10 kept in mind.
--
--   Low m f              modulo m, f has nothing above the limit
--   LowPowers m f p      nor has any power of f from the first to the p-th
--   single c k           c·x^k
--   BuiltAs m f W v      v is f modulo m, up to the limit, and W holds, which says that all on the way to f was low; or v is none, and W does not hold
--
-- What the leaves ask and answer:
--
--   Settles m f v        v is f if f is low, and none if not
--   Joins m f a b v      v is none if a or b is; if not, it settles f of their coefficients
--   Shifts n p x         x is a single term, at x^n, and its p-th power is within the limit
--   Powers m p f v       v is the p-th power of f if all powers to it are low, and none if not
--   Raises m p a v       v is none if a is; if not, the p-th power of a
use Rattle.std.specs.Prelude.{◌≡◌, Option, Some, None, List, [], ◌∷◌, ℕ, zero, suc, ◌*◌, ◌%◌, ◌≤◌, ◌<◌}
use Rattle.algebra.specs.Polynomial.{coef, power, limit, reduced}
use Rattle.built.specs.declared.Built.{Built}

-- no nonzero coefficient above x^126
pub record Low (m : ℕ) (f : List ℕ) : Type 0 where
  pub above : (i : ℕ) → limit < i → coef f i % m ≡ 0

-- f, f·f, .., f^p
pub record LowPowers (m : ℕ) (f : List ℕ) (p : ℕ) : Type 0 where
  pub all : (k : ℕ) → 1 ≤ k → k ≤ p → Low m (power f k)

-- one term
unfoldable pub single : ℕ → ℕ → List ℕ
single c zero = c ∷ []
single c (suc k) = 0 ∷ single c k

-- W is the condition of No. 10 for all that was built on the way
pub data BuiltAs (m : ℕ) (f : List ℕ) (W : Type 0) : Option Built → Type 0 where
  within : {v : Built} → W → Low m f → v.coefficients ≡ reduced m f → BuiltAs m f W (Some v)
  beyond : (W → ⊥) → BuiltAs m f W None

-- one step, by its result
pub data Settles (m : ℕ) (f : List ℕ) : Option Built → Type 0 where
  low : {v : Built} → Low m f → v.coefficients ≡ reduced m f → Settles m f (Some v)
  high : (Low m f → ⊥) → Settles m f None

-- one step of two that were built
pub data Joins (m : ℕ) (f : List ℕ → List ℕ → List ℕ) : Option Built → Option Built → Option Built → Type 0 where
  left : {b : Option Built} → Joins m f None b None
  right : {a : Option Built} → Joins m f a None None
  both : {a b : Built} {v : Option Built} → Settles m (f a.coefficients b.coefficients) v → Joins m f (Some a) (Some b) v

-- all below x^n is zero
pub record Shifts (n p : ℕ) (x : List ℕ) : Type 0 where
  pub below : (i : ℕ) → i < n → coef x i ≡ 0
  pub within : n * p ≤ limit

-- a power by its base
pub data Powers (m p : ℕ) (f : List ℕ) : Option Built → Type 0 where
  low : {v : Built} → LowPowers m f p → v.coefficients ≡ reduced m (power f p) → Powers m p f (Some v)
  high : (LowPowers m f p → ⊥) → Powers m p f None

-- a power of what was built
pub data Raises (m p : ℕ) : Option Built → Option Built → Type 0 where
  base : Raises m p None None
  free : {a : Built} {v : Option Built} → Powers m p a.coefficients v → Raises m p (Some a) v
