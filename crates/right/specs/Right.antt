-- What the right part's leaves ask and promise. Only leaves need this.
--
--   RightAsked m n r s u f  f is reduced, of degree n = r·s, and u is an inverse of r
--   RightPart m f r s h     h is reduced, obeys 01's Right part rule, and depends on the leading terms of f only
--   Root m f r s a b        the right part can be read off a; b is a no exactly if x^(n-s-1) is the report
use Rattle.std.specs.Prelude.{◌≡◌, Bool, true, false, List, ℕ, ◌*◌, ◌-◌, ◌%◌, ◌<◌}
use Rattle.algebra.specs.Number.{Modulus}
use Rattle.algebra.specs.Polynomial.{coef, Reduced, Monic}
use Rattle.algebra.specs.Pair.{ForcedRight, Report}
use Rattle.polynomial.specs.Degrees.{Degrees}
use Rattle.right.specs.Rows.{Space, Upside}

-- what forces a right part: degrees that fit, and an inverse of the left one
pub record RightAsked (m n r s u : ℕ) (f : List ℕ) : Type 0 where
  pub modulus : Modulus m
  pub degrees : Degrees n r s
  pub reduced : Reduced m f
  pub inverse : u * r % m ≡ 1 % m

-- the forced right part, of f and of every f' with the same s leading terms
pub record RightPart (m : ℕ) (f : List ℕ) (r s : ℕ) (h : List ℕ) : Type 0 where
  pub reduced : Reduced m h
  pub forced : ForcedRight m r s f h
  pub leading : (f' : List ℕ) → ((k : ℕ) → k < s → coef f (r * s - k) ≡ coef f' (r * s - k)) → ForcedRight m r s f' h

-- the right part can be read off; with a no the forced pair and f differ at x^(n-s-1), and not above, with a yes they do not
pub record Root (m : ℕ) (f : List ℕ) (r s : ℕ) (a : List ℕ) (is_open : Bool) : Type 0 where
  pub room : Space m a
  pub part : {h : List ℕ} → Upside s a h → RightPart m f r s h
  pub no : is_open ≡ false → Monic m (r * s) f → Report m r s f (r * s - s - 1)
  pub yes : is_open ≡ true → Monic m (r * s) f → Report m r s f (r * s - s - 1) → ⊥
