-- Checks that follow each other: the first that refuses decides.
--
--   answered                        what does not refuse is Answered
--   then_refused, then_answered     a refuses: a decides; a does not: b decides
--   then_both                       a and then b pass: both pass
--   then_assoc                      three checks, in either grouping
--   stopped, went_on                code that asks `refuses` and returns early does a and then b
--   refused_by, passed_on           an outcome that refuses is the refusal of its check; one that does not, Answered
--   never                           an answer is no refusal
--   a_refusal                       what refuses is some refusal
--   refuse-answered                 a check that passes: its test does not hold
use mathlib.Core.Path.{◌≡◌, refl, sym, ◌∙◌}
use Prim.Native.Nat.{ℕ}
use native.Mathlib.Omega.{arith}
use mathlib.Core.Bool.{Bool, true, false, false≢true}
use Rattle.refusal.specs.Refusal.{refuse, ◌then◌, is_refused}
use Rattle.refusal.specs.declared.Concerns.{Concerns}
use Rattle.refusal.specs.declared.Reason.{Reason}
use Rattle.refusal.specs.declared.Refusal.{Refusal}
use Rattle.refusal.specs.Refusal.{Outcome, Answered, Refused}
use Rattle.std.specs.Prelude.{Ok, Err}

-- what does not refuse is Answered
pub answered : {a : Outcome} → is_refused a ≡ false → a ≡ Answered
answered {a = Ok x} h = refl
answered {a = Err r} h = cc

-- a refuses: a decides
pub then_refused : {a : Outcome} (b : Outcome) → is_refused a ≡ true → (a then b) ≡ a
then_refused {a = Ok x} b h = cc
then_refused {a = Err r} b h = refl

-- a does not refuse: b decides
pub then_answered : (a : Outcome) {b : Outcome} → is_refused a ≡ false → (a then b) ≡ b
then_answered (Ok x) h = refl
then_answered (Err r) h = cc

-- a and then b pass: both pass
pub then_both : (a b : Outcome) → (a then b) ≡ Answered → (a ≡ Answered) × (b ≡ Answered)
then_both (Ok x) b h = (refl, h)
then_both (Err r) b h = (h, cc)

-- three checks, in either grouping
pub then_assoc : (a b c : Outcome) → ((a then b) then c) ≡ (a then b then c)
then_assoc (Ok x) b c = refl
then_assoc (Err r) b c = refl

module _ {a o : Outcome} {t : Bool} (is : o ≡ a) (tells : t ≡ is_refused o) where
  -- o, the outcome of a, refuses and is returned
  pub stopped : (b : Outcome) → t ≡ true → o ≡ (a then b)
  stopped b h = is ∙ sym (then_refused b (rw is at (sym tells ∙ h)))

  -- o, the outcome of a, does not refuse, and the outcome of b is returned
  pub went_on : {b r : Outcome} → t ≡ false → r ≡ b → r ≡ (a then b)
  went_on h e = e ∙ sym (then_answered a (rw is at (sym tells ∙ h)))

-- a check that passes: its test does not hold
pub refuse-answered : (t : Bool) (c : Concerns) (r : Reason) → refuse t c r ≡ Answered → t ≡ false
refuse-answered true c r h = cc
refuse-answered false c r h = refl

-- what refuses is some refusal
pub a_refusal : (a : Outcome) → is_refused a ≡ true → (r : Refusal) × (a ≡ Refused r)
a_refusal (Ok x) h = absurd (false≢true h)
a_refusal (Err r) h = (r, refl)

module _ {a o : Outcome} {t : Bool} (is : o ≡ a) (tells : t ≡ is_refused o) where
  -- o, the outcome of the check a, refuses
  pub refused_by : t ≡ true → (r : Refusal) × (a ≡ Refused r) × (o ≡ Refused r)
  refused_by h = let (r, e) = a_refusal o (sym tells ∙ h) in (r, sym is ∙ e, e)

  -- it does not
  pub passed_on : t ≡ false → a ≡ Answered
  passed_on h = sym is ∙ answered (sym tells ∙ h)

-- an answer is no refusal
pub never : {o : Outcome} {r : Refusal} → o ≡ Refused r → o ≡ Answered → ⊥
never {o} {r} p q = let z : ◌≡◌ {A = ℕ} 0 1 = cc in omega arith
