-- The operations on pairs, as 01 has them.
--
--   fits n d                 d divides n, and d and n/d are both at least 2
--   beside o m g h           g(h) beside the outcome o, and zeros beside a refusal
--   compose m g h            the answer to: compose g and h
--   check_left m f h         1; 2, 3, 4 for f and h; 6
--   LeftPartOf m f h x       x answers: the left part of f for the given h
--   check_split m f r        1, 2, 3, 4; 6
--   SplitAnswer m f r s x    what a split answers past the checks: No. 5, No. 7 or the pair
--   Splits m f r x           x answers: f split at the left degree r
--   SplitAsked m n r s f     what a split at r and s is given: f of degree n = r·s
--   Opened m n r s f t       what is given where the root in t leaves a pair open
use Rattle.std.specs.Prelude.{◌≡◌, Ok, Err, Bool, not, ◌&&◌, List, ℕ, ◌/◌, ◌%◌, leb, eqb}
use Rattle.algebra.specs.Number.{Coprime, Modulus}
use Rattle.algebra.specs.Polynomial.{degree, Held}
use Rattle.algebra.specs.Pair.{NormalPair}
use Rattle.algebra.specs.Pair as pair
use Rattle.refusal.specs.Refusal.{refusal, refuse, ◌then◌}
use Rattle.refusal.specs.declared.Refusal.{Refusal}
use Rattle.refusal.specs.declared.Concerns.TheVariants.{Neither}
use Rattle.refusal.specs.declared.Reason.TheVariants.{Factor, Fit, NoPair}
use Rattle.refusal.specs.Refusal.{Outcome}
use Rattle.refusal.specs.Refusal.{Answered, Refused}
use Rattle.polynomial.specs.Checks.{check_one, check_two, check_pair}
use Rattle.polynomial.specs.Answers.{nothing, no_parts}
use Rattle.polynomial.specs.Answers.{Answer}
use Rattle.polynomial.specs.Answers.{Parts}
use Rattle.polynomial.specs.Degrees.{Degrees}
use Rattle.composition.specs.Composition.{composition}
use Rattle.left.specs.Left.{LeftAnswer}
use Rattle.right.specs.Right.{RightPart}
use Rattle.right.specs.Rows.{Space, Upside}

-- a degree that a part of a polynomial of degree n can have
unfoldable pub fits : ℕ → ℕ → Bool
fits n d = leb 2 d && eqb (n % d) 0 && leb 2 (n / d)

-- what is returned beside an outcome
abbrev pub beside : Outcome → ℕ → List ℕ → List ℕ → Answer
beside (Ok x) m g h = record { outcome = Answered; polynomial = composition m g h }
beside (Err r) m g h = nothing (Refused r)

-- 1; 2, 3, 4 for g and h; 10; else g(h) modulo m
unfoldable pub compose : ℕ → List ℕ → List ℕ → Answer
compose m g h = beside (check_pair m g h) m g h

-- No. 6 of a given h
unfoldable pub check_left : ℕ → List ℕ → List ℕ → Outcome
check_left m f h = check_two m f h then refuse (not (fits (degree f) (degree h))) Neither Fit

-- the refusals; else, for the left degree r = n/s, No. 7 exactly if no monic g composes with h to f, and that g if one does
pub data LeftPartOf (m : ℕ) (f h : List ℕ) (x : Answer) : Type 0 where
  refused : {e : Refusal} → check_left m f h ≡ Refused e → x ≡ nothing (Refused e) → LeftPartOf m f h x
  answered : check_left m f h ≡ Answered → LeftAnswer m f (degree f / degree h) h x → LeftPartOf m f h x

-- No. 6 of a left degree
unfoldable pub check_split : ℕ → List ℕ → ℕ → Outcome
check_split m f r = check_one m f then refuse (not (fits (degree f) r)) Neither Fit

-- No. 5 if r and m share a factor above 1; No. 7 exactly if no monic g and h of degrees r and s compose to f; else the pair with h(0) = 0
pub data SplitAnswer (m : ℕ) (f : List ℕ) (r s : ℕ) (x : Parts) : Type 0 where
  shared : (Coprime r m → ⊥) → x ≡ no_parts (refusal Neither Factor) → SplitAnswer m f r s x
  none : Coprime r m → pair.NoPair m f r s → x ≡ no_parts (refusal Neither NoPair) → SplitAnswer m f r s x
  found : {g h : List ℕ} → Coprime r m → NormalPair m f r s g h → x ≡ record { outcome = Answered; left = g; right = h } → SplitAnswer m f r s x

-- the refusals 1 to 4 and 6; else that answer for the degrees r and s = n/r
pub data Splits (m : ℕ) (f : List ℕ) (r : ℕ) (x : Parts) : Type 0 where
  refused : {e : Refusal} → check_split m f r ≡ Refused e → x ≡ no_parts (Refused e) → Splits m f r x
  answered : check_split m f r ≡ Answered → SplitAnswer m f r (degree f / r) x → Splits m f r x

-- what a split is given once its checks are passed
pub record SplitAsked (m n r s : ℕ) (f : List ℕ) : Type 0 where
  pub modulus : Modulus m
  pub degrees : Degrees n r s
  pub whole : Held m n f

-- r has an inverse, and the right part can be read off the rows in t
pub record Opened (m n r s : ℕ) (f t : List ℕ) : Type 0 where
  pub modulus : Modulus m
  pub degrees : Degrees n r s
  pub whole : Held m n f
  pub coprime : Coprime r m
  pub room : Space m t
  pub part : {h : List ℕ} → Upside s t h → RightPart m f r s h
