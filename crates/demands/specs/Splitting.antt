-- What the demands say of the left part, the split and the quick question. Believed.
--
--   ExactSplit m f r s x    the answer x to a split at r and s is the pair with h(0) = 0 exactly if there is a pair, and No. 7 exactly if there is none
--   ExactLeft m f h r x     the same of the left part for a given h
--   Agree m f r x y         the quick question's answer x and the split's y say the same
--   Reported m f r s k      with a no: the forced pair composed and f agree above x^k and differ there; what k is not
--   SplitCarried m c y z    what the split y of f says of the split z of f changed by c
use Rattle.std.specs.Prelude.{◌≡◌, ◌↔◌, ◌⊎◌, List, ℕ, ◌+◌, ◌*◌, ◌<◌}
use Rattle.algebra.specs.Polynomial.{after, degree, Same, Monic}
use Rattle.algebra.specs.Pair.{Pair, NormalPair, ForcedPair, Differs, Report}
use Rattle.algebra.specs.Pair as pair
use Rattle.refusal.specs.Refusal.{refusal}
use Rattle.refusal.specs.declared.Refusal.{Refusal}
use Rattle.refusal.specs.declared.Concerns.TheVariants.{Neither}
use Rattle.refusal.specs.declared.Reason.TheVariants.{Factor, NoPair}
use Rattle.refusal.specs.Refusal.{Answered, Refused}
use Rattle.polynomial.specs.Answers.{nothing, no_parts}
use Rattle.polynomial.specs.Answers.{Answer}
use Rattle.polynomial.specs.Answers.{Parts}
use Rattle.left.specs.Left.{LeftPart, NoLeft}
use Rattle.pair.specs.Pairing.{check_split}
use Rattle.pair.specs.Asking.{Verdict}
use Rattle.pair.specs.Asking.{unasked, a_yes, a_no}
use Rattle.change.specs.declared.Change.{Change}
use Rattle.change.specs.Changing.{ChangesPair}

-- the answer x to a split at r and s is the pair with h(0) = 0 exactly if some monic g and h of those degrees compose to f,
-- whatever their constants, and No. 7 with zeros exactly if none do
pub record ExactSplit (m : ℕ) (f : List ℕ) (r s : ℕ) (x : Parts) : Type 0 where
  pub decided : (x.outcome ≡ Answered) ⊎ (x ≡ no_parts (refusal Neither NoPair))
  pub some : (x.outcome ≡ Answered) ↔ ((g h : List ℕ) × Pair m f r s g h)
  pub is : x.outcome ≡ Answered → NormalPair m f r s x.left x.right
  pub none : (x ≡ no_parts (refusal Neither NoPair)) ↔ pair.NoPair m f r s

-- the answer x to: the left part, is it exactly if some monic g of degree r has g(h) = f, and No. 7 with zeros exactly if none has
pub record ExactLeft (m : ℕ) (f h : List ℕ) (r : ℕ) (x : Answer) : Type 0 where
  pub decided : (x.outcome ≡ Answered) ⊎ (x ≡ nothing (refusal Neither NoPair))
  pub some : (x.outcome ≡ Answered) ↔ ((g : List ℕ) × Monic m r g × Same m f (after g h))
  pub is : x.outcome ≡ Answered → LeftPart m f r h x.polynomial
  pub none : (x ≡ nothing (refusal Neither NoPair)) ↔ NoLeft m f r h

-- what x, the quick question, and y, the full split, say of one f and r: one refusal, by the checks of a split or by No. 5; or yes and
-- a pair; or no and No. 7
pub data Agree (m : ℕ) (f : List ℕ) (r : ℕ) (x : Verdict) (y : Parts) : Type 0 where
  both_refused : {e : Refusal} → (check_split m f r ≡ Refused e) ⊎ (Refused e ≡ refusal Neither Factor) → x ≡ unasked (Refused e) → y ≡ no_parts (Refused e) → Agree m f r x y
  both_yes : x ≡ a_yes → y.outcome ≡ Answered → Agree m f r x y
  both_no : {k : ℕ} → x ≡ a_no k → y ≡ no_parts (refusal Neither NoPair) → Agree m f r x y

-- a no, and what its power k is
pub record Reported (m : ℕ) (f : List ℕ) (r s k : ℕ) : Type 0 where
  pub exists : Report m r s f k
  pub every_pair : (g h : List ℕ) → ForcedPair m r s f g h → Differs m f (after g h) k
  pub no_multiple : (i : ℕ) → ¬ (k ≡ i * s)
  pub low : k + s < degree f

-- y is the answer for f and z that for f': a pair for both or for neither; the changed pair is what the desk's change of the pair
-- answers; every refusal is the same for both, "no pair" included
pub record SplitCarried (m : ℕ) (c : Change) (y z : Parts) : Type 0 where
  pub answered : (z.outcome ≡ Answered) ↔ (y.outcome ≡ Answered)
  pub pair : y.outcome ≡ Answered → ChangesPair m y.left y.right c z
  pub same : y.outcome ≡ Answered → (w : Parts) → ChangesPair m y.left y.right c w → z ≡ w
  pub refused : (y.outcome ≡ Answered → ⊥) → z ≡ y
