-- The quick question of request No. 7: does f split at the left degree r, and if not, at which power is that seen first?
--
--   Verdict                  what it returns: an outcome, whether f splits, and the power
--   verdict_of x             what is returned for the result x of the code
--   unasked o                zeros beside an outcome, as after a refusal
--   a_yes, a_no k            a yes, with 0; a no at x^k
--   QuickAnswer m f r s x    x answers it past the checks, where r has an inverse
--   QuickOf m f r x          x answers the quick question
use Rattle.std.specs.Prelude.{◌≡◌, Bool, true, false, List, ℕ, ◌/◌, Option, Some, None, Result, Ok, Err}
use Rattle.algebra.specs.Number.{Coprime}
use Rattle.algebra.specs.Polynomial.{degree}
use Rattle.algebra.specs.Pair.{Pair, Report}
use Rattle.refusal.specs.Refusal.{Outcome, Answered, Refused, refusal}
use Rattle.refusal.specs.declared.Refusal.{Refusal}
use Rattle.refusal.specs.declared.Concerns.TheVariants.{Neither}
use Rattle.refusal.specs.declared.Reason.TheVariants.{Factor}
use Rattle.pair.specs.Pairing.{check_split}

-- what the quick question returns: an outcome, whether f splits, and the power
pub record Verdict : Type 0 where
  pub outcome : Outcome
  pub splits : Bool
  pub power : ℕ

-- zeros beside an outcome
abbrev pub unasked : Outcome → Verdict
unasked o = record { outcome = o; splits = false; power = 0 }

-- a yes
abbrev pub a_yes : Verdict
a_yes = record { outcome = Answered; splits = true; power = 0 }

-- a no at x^k
abbrev pub a_no : ℕ → Verdict
a_no k = record { outcome = Answered; splits = false; power = k }

-- what is returned for the result x of the code: a yes for nothing, a no at a power, or zeros beside the refusal
abbrev pub verdict_of : Result (Option ℕ) Refusal → Verdict
verdict_of (Ok None) = a_yes
verdict_of (Ok (Some k)) = a_no k
verdict_of (Err e) = unasked (Refused e)

-- yes if some monic g and h of degrees r and s compose to f; else no, at the highest power at which the forced pair, composed, and f
-- differ
pub data QuickAnswer (m : ℕ) (f : List ℕ) (r s : ℕ) (x : Verdict) : Type 0 where
  composes : {g h : List ℕ} → Pair m f r s g h → x ≡ a_yes → QuickAnswer m f r s x
  differs : {k : ℕ} → Report m r s f k → x ≡ a_no k → QuickAnswer m f r s x

-- the refusals of a split, 1 to 4 and 6, then 5; else that answer for the degrees r and n/r
pub data QuickOf (m : ℕ) (f : List ℕ) (r : ℕ) (x : Verdict) : Type 0 where
  refused : {e : Refusal} → check_split m f r ≡ Refused e → x ≡ unasked (Refused e) → QuickOf m f r x
  shared : check_split m f r ≡ Answered → (Coprime r m → ⊥) → x ≡ unasked (refusal Neither Factor) → QuickOf m f r x
  answered : check_split m f r ≡ Answered → Coprime r m → QuickAnswer m f r (degree f / r) x → QuickOf m f r x
