-- What request No. 3 says of the modulus 2^32. Believed.
--
--   Machine f      every coefficient is a machine word, as every u32 is
--   NotTwo o       the outcome o is not No. 2
--   NotTwoAt i o   the outcome o is not No. 2 of place i
use Rattle.std.specs.Prelude.{◌≡◌, List, ℕ, ◌<◌}
use Rattle.algebra.specs.Polynomial.{coef}
use Rattle.refusal.specs.Refusal.{number_of, refusal}
use Rattle.refusal.specs.declared.Concerns.TheVariants.{Place}
use Rattle.refusal.specs.declared.Reason.TheVariants.{Coefficient}
use Rattle.refusal.specs.Refusal.{Outcome}
use Rattle.polynomial.specs.Moduli.{machine_words}

-- every coefficient is a machine word
pub record Machine (f : List ℕ) : Type 0 where
  pub is : (i : ℕ) → coef f i < machine_words

-- No. 2 is not told
pub record NotTwo (o : Outcome) : Type 0 where
  pub is : number_of o ≡ 2 → ⊥

-- nor is No. 2 of place i, whatever its power
pub record NotTwoAt (i : ℕ) (o : Outcome) : Type 0 where
  pub is : (k : ℕ) → o ≡ refusal (Place i) (Coefficient k) → ⊥
