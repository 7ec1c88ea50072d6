-- The operations on changes, as 01 has them.
--
--   made a b, identity              the change (a, b), and the change (1, 0)
--   Proper m c                      what No. 8 asks: a and b are below m and a has an inverse
--   Tests m c x                     what the test of a change answers
--   combined_change m c d           first c, then d
--   Undone m c d                    d undoes c
--   Made                            what combining and undoing return: an outcome and a change
--   made_of x                       what is returned for the result x of the code
--   unchanged o                     the outcome o beside (1, 0), as after a refusal
--   Combines m c d x                x answers: first c, then d
--   Undoing m c x                   x answers: what undoes c
--   ChangesPolynomial m f c x       x answers: f changed by c
--   ChangesPair m g h c x           x answers: the pair g, h changed by c
use Rattle.std.specs.Prelude.{◌≡◌, List, ℕ, ◌%◌, ◌<◌, Result, Ok, Err}
use Rattle.algebra.specs.Number.{Coprime}
use Rattle.algebra.specs.Polynomial.{degree, Reduced}
use Rattle.algebra.specs.Change.{Changed, ChangedPair, Undoes, combined_unit, combined_origin}
use Rattle.refusal.specs.Refusal.{Outcome, Answered, Refused, refusal, naming_none}
use Rattle.refusal.specs.declared.Refusal.{Refusal}
use Rattle.refusal.specs.declared.Concerns.TheVariants.{Neither}
use Rattle.refusal.specs.declared.Reason.TheVariants as reason
use Rattle.polynomial.specs.Moduli.{check_modulus}
use Rattle.polynomial.specs.Checks.{check_one, check_pair}
use Rattle.polynomial.specs.Answers.{nothing, no_parts}
use Rattle.polynomial.specs.Answers.{Answer}
use Rattle.polynomial.specs.Answers.{Parts}
use Rattle.moving.specs.declared.Move.{Move}
use Rattle.change.specs.declared.Change.{Change}

-- the change (a, b)
abbrev pub made : ℕ → ℕ → Change
made a b = record { unit = a; origin = b }

-- the change (1, 0)
abbrev pub identity : Change
identity = made 1 0

-- a and b are below m, and a shares no factor with m
pub record Proper (m : ℕ) (c : Change) : Type 0 where
  pub unit_below : c.unit < m
  pub origin_below : c.origin < m
  pub invertible : Coprime c.unit m

-- what the test of a change by the modulus m answers: the change with an inverse of its unit, or No. 8 for one that is not proper
abbrev pub Tests : ℕ → Change → Result Move Refusal → Type 0
Tests m c (Ok x) = Proper m c × (x.modulus.number ≡ m) × (x.unit ≡ c.unit) × (x.origin ≡ c.origin) × (x.inverse < m)
Tests m c (Err r) = (Proper m c → ⊥) × (r ≡ naming_none reason.Change)

-- (a·a2, a·b2 + b) modulo m
abbrev pub combined_change : ℕ → Change → Change → Change
combined_change m c d = record {
  unit = combined_unit c.unit c.origin d.unit d.origin % m;
  origin = combined_origin c.unit c.origin d.unit d.origin % m;
}

-- d undoes c, and its numbers are below m
pub record Undone (m : ℕ) (c d : Change) : Type 0 where
  pub unit_below : d.unit < m
  pub origin_below : d.origin < m
  pub undoes : Undoes m c.unit c.origin d.unit d.origin

-- No. 8
abbrev pub improper : Outcome
improper = refusal Neither reason.Change

-- what combining and undoing return: (1, 0) beside a refusal
pub record Made : Type 0 where
  pub outcome : Outcome
  pub change : Change

-- (1, 0) beside an outcome
abbrev pub unchanged : Outcome → Made
unchanged o = record { outcome = o; change = identity }

-- what is returned for the result x of the code: its change, or (1, 0) beside its refusal
abbrev pub made_of : Result Change Refusal → Made
made_of (Ok c) = record { outcome = Answered; change = c }
made_of (Err r) = unchanged (Refused r)

-- 1, then 8 for the first change, then 8 for the second; else the one change (a·a2, a·b2 + b)
pub data Combines (m : ℕ) (c d : Change) (x : Made) : Type 0 where
  refused : {r : Refusal} → check_modulus m ≡ Refused r → x ≡ unchanged (Refused r) → Combines m c d x
  first_improper : check_modulus m ≡ Answered → (Proper m c → ⊥) → x ≡ unchanged improper → Combines m c d x
  second_improper : check_modulus m ≡ Answered → Proper m c → (Proper m d → ⊥) → x ≡ unchanged improper → Combines m c d x
  combined : check_modulus m ≡ Answered → Proper m c → Proper m d
      → x ≡ record { outcome = Answered; change = combined_change m c d }
      → Combines m c d x

-- 1, then 8; else the change below m that undoes c
pub data Undoing (m : ℕ) (c : Change) (x : Made) : Type 0 where
  refused : {r : Refusal} → check_modulus m ≡ Refused r → x ≡ unchanged (Refused r) → Undoing m c x
  not_proper : check_modulus m ≡ Answered → (Proper m c → ⊥) → x ≡ unchanged improper → Undoing m c x
  undone : {d : Change} → check_modulus m ≡ Answered → Proper m c → Undone m c d
      → x ≡ record { outcome = Answered; change = d } → Undoing m c x

-- 1, 2, 3, 4, then 8; else the changed polynomial
pub data ChangesPolynomial (m : ℕ) (f : List ℕ) (c : Change) (x : Answer) : Type 0 where
  refused : {r : Refusal} → check_one m f ≡ Refused r → x ≡ nothing (Refused r) → ChangesPolynomial m f c x
  not_proper : check_one m f ≡ Answered → (Proper m c → ⊥) → x ≡ nothing improper → ChangesPolynomial m f c x
  changed : {f' : List ℕ} → check_one m f ≡ Answered → Proper m c
      → Reduced m f' → Changed m (degree f) c.unit c.origin f f'
      → x ≡ record { outcome = Answered; polynomial = f' } → ChangesPolynomial m f c x

-- 1; 2, 3, 4 for g, for h; 10; 8; else the changed pair
pub data ChangesPair (m : ℕ) (g h : List ℕ) (c : Change) (x : Parts) : Type 0 where
  refused : {r : Refusal} → check_pair m g h ≡ Refused r → x ≡ no_parts (Refused r) → ChangesPair m g h c x
  not_proper : check_pair m g h ≡ Answered → (Proper m c → ⊥) → x ≡ no_parts improper → ChangesPair m g h c x
  changed : {g' h' : List ℕ} → check_pair m g h ≡ Answered → Proper m c → Reduced m g' → Reduced m h'
      → ChangedPair m (degree g) (degree h) c.unit c.origin g h g' h'
      → x ≡ record { outcome = Answered; left = g'; right = h' } → ChangesPair m g h c x
