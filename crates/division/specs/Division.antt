-- Division by h, in place. A list is a polynomial, and its digits are its places, s at a time, s being the degree of h. Only leaves
-- need this.
--
--   DivisionAsked m s h p   h is of degree s, 1 or more; p has at least one number, all below m, and no more than a polynomial has
--   Divided m h s p q       q is p divided by h: its lowest s places are the remainder, those above them the quotient
--   Raised m h s k b        b is h^k
--   ConstantIs p t          t tells whether p has nothing above x^0
use Rattle.std.specs.Prelude.{◌≡◌, Bool, true, false, List, ℕ, ◌*◌, ◌≤◌, ◌<◌, length, take, drop}
use Rattle.algebra.specs.Number.{Modulus}
use Rattle.algebra.specs.Polynomial.{coef, plus, times, power, terms, Same, Held}

-- what may be divided by h
pub record DivisionAsked (m s : ℕ) (h p : List ℕ) : Type 0 where
  pub modulus : Modulus m
  pub right : Held m s h
  pub above_zero : 0 < s
  pub below : (i : ℕ) → coef p i < m
  pub some : 0 < length p
  pub inside : length p ≤ terms

-- p is the remainder and h times the quotient
pub record Divided (m : ℕ) (h : List ℕ) (s : ℕ) (p q : List ℕ) : Type 0 where
  pub long : length q ≡ length p
  pub below : (i : ℕ) → coef q i < m
  pub whole : Same m p (plus (take s q) (times h (drop s q)))

-- h^k modulo m
pub record Raised (m : ℕ) (h : List ℕ) (s k : ℕ) (b : List ℕ) : Type 0 where
  pub held : Held m (k * s) b
  pub same : Same m b (power h k)

-- nothing above x^0, or something
pub record ConstantIs (p : List ℕ) (t : Bool) : Type 0 where
  pub yes : t ≡ true → (i : ℕ) → 0 < i → coef p i ≡ 0
  pub no : t ≡ false → (i : ℕ) × (0 < i) × ¬ (coef p i ≡ 0)
