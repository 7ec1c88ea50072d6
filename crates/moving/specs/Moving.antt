-- A polynomial after the line a·x + b, as the desk holds it. Only leaves need this.
--
--   line a b          b + a·x
--   Lined a b l       l is b + a·x with all places of a polynomial
--   moved m f a b     f(a·x + b) modulo m
--   Inverts m a u     m is a modulus, and u an inverse of a
--   PolynomialChanged, RightChanged, PairChanged     what the leaves for a polynomial, a right part and a pair promise
use Rattle.std.specs.Prelude.{◌≡◌, List, [], ◌∷◌, ℕ, ◌*◌, ◌%◌}
use Rattle.algebra.specs.Number.{Modulus}
use Rattle.algebra.specs.Polynomial.{coef, value, Reduced}
use Rattle.algebra.specs.Change.{Changed, ChangedRight, ChangedPair}
use Rattle.polynomial.specs.declared.Pair.{Pair}
use Rattle.composition.specs.Composition.{composition, Ends}

-- b + a·x
abbrev pub line : ℕ → ℕ → List ℕ
line a b = b ∷ a ∷ []

-- b, then a, and nothing above x
pub record Lined (a b : ℕ) (l : List ℕ) : Type 0 where
  pub ends : Ends 1 l
  pub constant : coef l 0 ≡ b
  pub slope : coef l 1 ≡ a

-- f(a·x + b)
unfoldable pub moved : ℕ → List ℕ → ℕ → ℕ → List ℕ
moved m f a b = composition m f (line a b)

-- u times a is 1
pub record Inverts (m a u : ℕ) : Type 0 where
  pub modulus : Modulus m
  pub unit : u * a % m ≡ 1 % m

-- the changed polynomial, reduced
pub record PolynomialChanged (m n a b : ℕ) (f f' : List ℕ) : Type 0 where
  pub reduced : Reduced m f'
  pub changed : Changed m n a b f f'

-- h' reduced, and h(b) modulo m
pub record RightChanged (m s a b : ℕ) (h h' : List ℕ) (origin : ℕ) : Type 0 where
  pub reduced : Reduced m h'
  pub right : ChangedRight m s a b h h'
  pub origin_is : origin ≡ value h b % m

-- both parts reduced, and the changed pair
pub record PairChanged (m r s a b : ℕ) (g h : List ℕ) (x : Pair) : Type 0 where
  pub reduced_left : Reduced m x.left
  pub reduced_right : Reduced m x.right
  pub pair : ChangedPair m r s a b g h x.left x.right
