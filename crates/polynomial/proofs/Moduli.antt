-- What a modulus word means, and which moduli the desk takes.
--
--   modulus_zero, modulus_itself     0 means 2^32, and every other word itself
--   words-taken, within-taken        No. 1 lets 2^32 pass, and what is from the smallest to the largest
--   below-refused, above-refused     and refuses everything else
--   taken-modulus                    so what it lets pass is one of these
--   refused-words                    so of the modulus words it refuses 1 and those above the largest
use mathlib.Core.Path.{◌≡◌, refl}
use mathlib.Core.Bool.{Bool, true, false, not, ◌&&◌, ◌||◌}
use mathlib.Core.Logic.{◌⊎◌, ◌↔◌, inl, inr, ⊎_elim, by_cases}
use Prim.Native.Nat.{ℕ, zero, suc, ◌≤◌, ◌<◌}
use native.Mathlib.Decide.{dec_le}
use native.Mathlib.Omega.{arith}
use lib.Dec.{ltb, eqb}
use borrow.Author.Tests.{ltb-false, eqb-true, lt-ltb, le-ltb, eq-eqb, ne_eqb}
use Rattle.refusal.specs.Refusal.{refusal}
use Rattle.refusal.specs.declared.Concerns.TheVariants.{Neither}
use Rattle.refusal.specs.declared.Reason.TheVariants.{Modulus}
use Rattle.refusal.specs.Refusal.{Answered}
use Rattle.refusal.proofs.Outcomes.{never, refuse-answered}
use Rattle.polynomial.specs.Moduli.{machine_words, modulus, smallest, largest, check_modulus}

pub modulus_zero : modulus 0 ≡ machine_words
unfolding modulus
modulus_zero = refl

pub modulus_itself : (w : ℕ) → ¬ (w ≡ 0) → modulus w ≡ w
unfolding modulus
modulus_itself zero n = absurd (n refl)
modulus_itself (suc w) n = refl

pub words-taken : check_modulus machine_words ≡ Answered
unfolding check_modulus
words-taken = simp (eq-eqb machine_words machine_words refl)

pub within-taken : (m : ℕ) → smallest ≤ m → m ≤ largest → check_modulus m ≡ Answered
unfolding check_modulus machine_words smallest largest
within-taken m l h = simp (ne_eqb m machine_words (λ e. omega arith), le-ltb m smallest l, le-ltb largest m h)

pub below-refused : (m : ℕ) → m < smallest → check_modulus m ≡ refusal Neither Modulus
unfolding check_modulus machine_words smallest
below-refused m l = simp (ne_eqb m machine_words (λ e. omega arith), lt-ltb m smallest l)

pub above-refused : (m : ℕ) → largest < m → ¬ (m ≡ machine_words) → check_modulus m ≡ refusal Neither Modulus
unfolding check_modulus machine_words smallest largest
above-refused m h n = simp (ne_eqb m machine_words n, le-ltb m smallest (omega arith), lt-ltb largest m h)

-- a test that spares two others
spared : (s t u : Bool) → (not s && (t || u)) ≡ false → (s ≡ true) ⊎ ((t ≡ false) × (u ≡ false))
spared true t u h = inl refl
spared false true u h = inr (h, cc)
spared false false u h = inr (refl, h)

pub taken-modulus : (m : ℕ) → check_modulus m ≡ Answered → (m ≡ machine_words) ⊎ ((smallest ≤ m) × (m ≤ largest))
unfolding check_modulus
taken-modulus m h = ⊎_elim (λ e. inl (eqb-true m machine_words e)) (λ e. inr (ltb-false _ _ e.0, ltb-false _ _ e.1)) (spared (eqb m machine_words) (ltb m smallest) (ltb largest m) (refuse-answered _ _ _ h))

-- No. 1 of a word: 1, and what is above the largest
pub refused-words : (w : ℕ) → w < machine_words → (check_modulus (modulus w) ≡ refusal Neither Modulus) ↔ ((w ≡ 1) ⊎ (largest < w))
unfolding machine_words modulus smallest largest
refused-words zero l = ((λ e. absurd (never e words-taken)), ⊎_elim (λ e. absurd (omega arith)) (λ h. absurd (omega arith)))
refused-words (suc zero) l = ((λ e. inl refl), λ e. below-refused 1 (omega arith))
refused-words (suc (suc w)) l = (
  (λ e. by_cases (dec_le (suc (suc w)) largest) (λ h. absurd (never e (within-taken (suc (suc w)) (omega arith) h))) (λ n. inr (omega arith))),
  ⊎_elim (λ e. absurd (omega arith)) (λ h. above-refused (suc (suc w)) h (λ e. omega arith)),
)
