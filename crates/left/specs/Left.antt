-- The left part for a given f and h.
--
--   LeftPart m f r h g        g is the left part: reduced, monic of degree r, and g(h) = f
--   NoLeft m f r h            no monic g of degree r whatever has g(h) = f
--   LeftAsked m n r s f h     f of degree n and h of degree s, with n = r·s
--   LeftAnswer m f r h x      x answers: the left part, or No. 7 exactly if there is none
use Rattle.std.specs.Prelude.{◌≡◌, List, ℕ}
use Rattle.algebra.specs.Number.{Modulus}
use Rattle.algebra.specs.Polynomial.{after, Same, Monic, Reduced, Held}
use Rattle.refusal.specs.Refusal.{refusal}
use Rattle.refusal.specs.declared.Concerns.TheVariants.{Neither}
use Rattle.refusal.specs.declared.Reason.TheVariants.{NoPair}
use Rattle.refusal.specs.Refusal.{Answered}
use Rattle.polynomial.specs.Answers.{nothing}
use Rattle.polynomial.specs.Degrees.{Degrees}
use Rattle.polynomial.specs.Answers.{Answer}

-- g is the left part
pub record LeftPart (m : ℕ) (f : List ℕ) (r : ℕ) (h g : List ℕ) : Type 0 where
  pub reduced : Reduced m g
  pub monic : Monic m r g
  pub whole : Same m f (after g h)

-- there is none
abbrev pub NoLeft : ℕ → List ℕ → ℕ → List ℕ → Type 0
NoLeft m f r h = (g : List ℕ) → Monic m r g → Same m f (after g h) → ⊥

-- what the search for a left part is given
pub record LeftAsked (m n r s : ℕ) (f h : List ℕ) : Type 0 where
  pub modulus : Modulus m
  pub degrees : Degrees n r s
  pub whole : Held m n f
  pub right : Held m s h

-- No. 7 with zeros, or the left part
pub data LeftAnswer (m : ℕ) (f : List ℕ) (r : ℕ) (h : List ℕ) (x : Answer) : Type 0 where
  none : NoLeft m f r h → x ≡ nothing (refusal Neither NoPair) → LeftAnswer m f r h x
  found : {g : List ℕ} → LeftPart m f r h g → x ≡ record { outcome = Answered; polynomial = g } → LeftAnswer m f r h x
