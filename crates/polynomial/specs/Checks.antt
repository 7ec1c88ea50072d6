-- The checks 1 to 4 of 01, in its order, over the number m that the modulus word means (specs/Moduli has No. 1).
--
--   offending m f                the lowest power of x whose coefficient is m or more; the length of f if there is none
--   check_coefficients c m f     No. 2, of the polynomial c
--   check_degree c f             No. 3
--   check_leading c f            No. 4
--   check_polynomial c m f       Nos. 2, 3, 4
--   check_one m f                1, then 2, 3, 4 for f
--   check_two m f h              1, then 2, 3, 4 for f, the first, then for h, the second
--   check_pair m g h             the same for g and h, then 10
--   Measured n f                 f has all its places, and n is its degree
--   Accepted m f                 what passes them: a modulus of the desk, and f reduced and monic, of degree 2 or more
use Rattle.std.specs.Prelude.{true, false, not, List, [], ◌∷◌, ◌≡◌, ℕ, suc, ◌*◌, ◌≤◌, ltb, leb, eqb, length}
use Rattle.algebra.specs.Polynomial.{coef, degree, limit, terms, Monic, Reduced}
use Rattle.refusal.specs.Refusal.{refuse, ◌then◌}
use Rattle.refusal.specs.declared.Concerns.{Concerns}
use Rattle.refusal.specs.declared.Concerns.TheVariants.{Neither, First, Second}
use Rattle.refusal.specs.declared.Reason.TheVariants.{Coefficient, Degree, Leading, Limit}
use Rattle.refusal.specs.Refusal.{Outcome}
use Rattle.refusal.specs.Refusal.{Answered}
use Rattle.polynomial.specs.Moduli.{check_modulus}

-- the lowest offending power of x
unfoldable pub offending : ℕ → List ℕ → ℕ
offending m [] = 0
offending m (a ∷ f) = elim (leb m a) [ true ↦ 0 | false ↦ suc (offending m f) ]

-- a coefficient is m or more
unfoldable pub check_coefficients : Concerns → ℕ → List ℕ → Outcome
check_coefficients c m f = refuse (ltb (offending m f) (length f)) c (Coefficient (offending m f))

-- the degree is below 2, or all coefficients are zero
unfoldable pub check_degree : Concerns → List ℕ → Outcome
check_degree c f = refuse (ltb (degree f) 2) c Degree

-- the highest nonzero coefficient is not 1
unfoldable pub check_leading : Concerns → List ℕ → Outcome
check_leading c f = refuse (not (eqb (coef f (degree f)) 1)) c Leading

-- 2, 3, 4 for one polynomial
unfoldable pub check_polynomial : Concerns → ℕ → List ℕ → Outcome
check_polynomial c m f = check_coefficients c m f then check_degree c f then check_leading c f

-- one polynomial
unfoldable pub check_one : ℕ → List ℕ → Outcome
check_one m f = check_modulus m then check_polynomial First m f

-- two polynomials
unfoldable pub check_two : ℕ → List ℕ → List ℕ → Outcome
check_two m f h = check_modulus m then check_polynomial First m f then check_polynomial Second m h

-- two polynomials that are composed: No. 10 if the composed degree is above the limit
unfoldable pub check_pair : ℕ → List ℕ → List ℕ → Outcome
check_pair m g h = check_two m g h then refuse (ltb limit (degree g * degree h)) Neither Limit

-- what the checks are given
pub record Measured (n : ℕ) (f : List ℕ) : Type 0 where
  pub long : length f ≡ terms
  pub is : n ≡ degree f

-- what the checks let pass
pub record Accepted (m : ℕ) (f : List ℕ) : Type 0 where
  pub modulus : check_modulus m ≡ Answered
  pub reduced : Reduced m f
  pub monic : Monic m (degree f) f
  pub two : 2 ≤ degree f
