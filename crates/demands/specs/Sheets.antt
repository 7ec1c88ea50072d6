-- What request No. 2 says of chain sheets. Believed.
--
--   ValidParts m parts       1 to `most_parts` parts, whose degrees multiply within the limit
--   ComposedOf m ys f        the parts in the area ys, by the modulus m, compose to f
--   Again w xs ys zs x       written from the area xs and read, with the answer x, into the area ys, which is zs afterwards
use Rattle.std.specs.Prelude.{◌≡◌, List, ◌++◌, ℕ, ◌≤◌, ◌<◌, length, take, drop}
use Rattle.algebra.specs.Polynomial.{limit, reduced, Same, Reduced}
use Rattle.algebra.specs.Chain.{part, Part, composed, degrees, product}
use Rattle.refusal.specs.Refusal.{Answered}
use Rattle.polynomial.specs.Moduli.{modulus, check_modulus}
use Rattle.area.specs.Area.{most_parts, area_words, place}
use Rattle.sheet.specs.Sheet.{used, parts_in, Parted}
use Rattle.sheet.specs.Checks.{FirstOnes}
use Rattle.sheet.specs.Answers.{Contents}

-- any valid parts, whether or not they split further, whatever their constants
pub record ValidParts (m : ℕ) (parts : List (List ℕ)) : Type 0 where
  pub modulus : check_modulus m ≡ Answered
  pub is : (i : ℕ) → i < length parts → Part m (part parts i)
  pub some : 1 ≤ length parts
  pub most : length parts ≤ most_parts
  pub within : product (degrees parts) ≤ limit

-- the parts of an answer, by the modulus m, in the first places of the area ys, compose to f
pub record ComposedOf (m : ℕ) (ys f : List ℕ) : Type 0 where
  pub modulus : check_modulus m ≡ Answered
  pub parts : Parted m (place ys)
  pub count : ℕ
  pub first : FirstOnes (λ i. used (place ys i)) count
  pub within : product (degrees (parts_in (place ys) most_parts)) ≤ limit
  pub reduced : Reduced m f
  pub composes : Same m f (composed (parts_in (place ys) most_parts))

-- written and read: from the area xs into the area ys, now zs
pub record Again (w : ℕ) (xs ys zs : List ℕ) (x : Contents) : Type 0 where
  pub answered : x.outcome ≡ Answered
  pub same_modulus : x.modulus ≡ w
  pub same_area : zs ≡ take area_words xs ++ drop area_words ys
  pub composition : x.polynomial ≡ reduced (modulus w) (composed (parts_in (place xs) most_parts))
