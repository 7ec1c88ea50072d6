-- What the code has found after each test, as the contracts say it.
--
--   fit_stopped, fit_refused, fit_passed     the checks before No. 6, and No. 6 itself
--   composed-refused, composed-told          the answer to: compose
--   left_stopped, left_misfit, left-told     the checks of the left part, and the answer past them
--   checked_stopped, checked_fit, checked_misfit     the checks of a split
--   split_told, quick_told                   the answers to a split and to the quick question past them
use mathlib.Core.Path.{◌≡◌, refl, sym}
use mathlib.Core.Bool.{Bool, true, false, not}
use mathlib.Core.List.{List}
use Prim.Native.Nat.{ℕ, ◌/◌}
use Rattle.algebra.specs.Number.{Coprime}
use Rattle.algebra.specs.Polynomial.{degree}
use Rattle.refusal.specs.Refusal.{Outcome, Answered, Refused, refusal, refuse, ◌then◌}
use Rattle.refusal.specs.declared.Refusal.{Refusal}
use Rattle.refusal.specs.declared.Concerns.TheVariants.{Neither}
use Rattle.refusal.specs.declared.Reason.TheVariants.{Fit}
use Rattle.polynomial.specs.Checks.{check_one, check_two, check_pair}
use Rattle.polynomial.specs.Answers.{Answer, Parts, nothing}
use Rattle.left.specs.Left.{LeftAnswer}
use Rattle.composition.specs.Composition.{composition}
use Rattle.pair.specs.Pairing.{fits, compose, check_left, LeftPartOf, check_split, Splits, SplitAnswer}
use Rattle.pair.specs.Pairing as of
use Rattle.pair.specs.Asking.{Verdict, QuickOf, QuickAnswer}
use Rattle.pair.specs.Asking as quick

module _ {checks : Outcome} where
  fit_stopped : {r : Refusal} → checks ≡ Refused r → (b : Bool) → (checks then refuse (not b) Neither Fit) ≡ Refused r
  fit_stopped e b = rw e refl

  fit_refused : {b : Bool} → checks ≡ Answered → b ≡ false → (checks then refuse (not b) Neither Fit) ≡ refusal Neither Fit
  fit_refused e z = rw (e, z) refl

  fit_passed : {b : Bool} → checks ≡ Answered → b ≡ true → (checks then refuse (not b) Neither Fit) ≡ Answered
  fit_passed e z = rw (e, z) refl

module _ (m : ℕ) (g h : List ℕ) where
  pub composed-refused : {r : Refusal} → check_pair m g h ≡ Refused r → nothing (Refused r) ≡ compose m g h
  unfolding compose
  composed-refused e = rw e refl

  pub composed-told : {f : List ℕ} → check_pair m g h ≡ Answered → f ≡ composition m g h → record { outcome = Answered; polynomial = f } ≡ compose m g h
  unfolding compose
  composed-told e d = rw (e, d) refl

module _ (m : ℕ) (f h : List ℕ) where
  pub left_stopped : {r : Refusal} → check_two m f h ≡ Refused r → check_left m f h ≡ Refused r
  unfolding check_left
  left_stopped e = fit_stopped e (fits (degree f) (degree h))

  module _ {n s : ℕ} {b : Bool} (fine : check_two m f h ≡ Answered) (n-is : n ≡ degree f) (s_is : s ≡ degree h) (b-is : b ≡ fits n s) where
    same : fits (degree f) (degree h) ≡ b
    same = rw (← n-is, ← s_is) (sym b-is)

    pub left_misfit : b ≡ false → check_left m f h ≡ refusal Neither Fit
    unfolding check_left
    left_misfit t = fit_refused fine (rw t at same)

    left_passed : b ≡ true → check_left m f h ≡ Answered
    unfolding check_left
    left_passed t = fit_passed fine (rw t at same)

    pub left-told : {x : Answer} → b ≡ true → LeftAnswer m f (n / s) h x → LeftPartOf m f h x
    left-told t a = of.answered (left_passed t) (rw (← n-is, ← s_is) a)

-- the checks of a split
module _ (m : ℕ) (f : List ℕ) (r : ℕ) where
  pub checked_stopped : {q : Refusal} → check_one m f ≡ Refused q → Refused q ≡ check_split m f r
  unfolding check_split
  checked_stopped e = sym (fit_stopped e (fits (degree f) r))

  module _ {n : ℕ} {b : Bool} (fine : check_one m f ≡ Answered) (n-is : n ≡ degree f) (b-is : b ≡ fits n r) where
    alike : fits (degree f) r ≡ b
    alike = rw (← n-is) (sym b-is)

    pub checked_fit : b ≡ true → Answered ≡ check_split m f r
    unfolding check_split
    checked_fit t = sym (fit_passed fine (rw t at alike))

    pub checked_misfit : b ≡ false → refusal Neither Fit ≡ check_split m f r
    unfolding check_split
    checked_misfit t = sym (fit_refused fine (rw t at alike))

  -- and what is answered after them
  module _ {n : ℕ} (passed : check_split m f r ≡ Answered) (n-is : n ≡ degree f) where
    pub split_told : {x : Parts} → SplitAnswer m f r (n / r) x → Splits m f r x
    split_told a = of.answered passed (rw (← n-is) a)

    pub quick_told : {x : Verdict} → Coprime r m → QuickAnswer m f r (n / r) x → QuickOf m f r x
    quick_told c a = quick.answered passed c (rw (← n-is) a)
