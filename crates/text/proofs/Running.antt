-- A run over the bytes of a text, by their places; digits that do not fit.
--
--   run_at, run-byte, run-fault     one byte; one that is known; one that is a fault
--   run_out                         the end of the text
--   number-long, raised-bad         too many digits of a number; too many of a power, or too high a power
use mathlib.Core.Path.{◌≡◌, refl, ap, ◌∙◌}
use mathlib.Core.Logic.{◌⊎◌, inl, inr, ⊎_elim}
use mathlib.Core.List.{List, [], ◌∷◌, ◌++◌, append_assoc, append-nil}
use Prim.Native.Nat.{ℕ, ◌+◌, ◌≤◌, ◌<◌}
use native.Mathlib.Numerals.{add-one}
use native.Mathlib.Omega.{arith}
use native.Mathlib.Decide.{dec_lt}
use borrow.Author.Tests.{lt-ltb, le-ltb, le-leb, lt-leb}
use lib.ListN.{length, drop, get_or, length-append, drop_of_length-le}
use lib.Seq.{drop-cons}
use Rattle.algebra.specs.Polynomial.{limit}
use Rattle.text.specs.Grammar.{Base, plain, raised, number, AllDigits, most_deep}
use Rattle.text.specs.Grammar as grammar
use Rattle.text.specs.States.{Frame, Fault, spelling, State, expect, caret, factor, stuck, step, run, bad, verdict}
use Rattle.text.proofs.Spelling.{run-stuck, number_more, power-more}

-- ---- a byte, the end of the text

pub run_at : (q : State) (s : List ℕ) (k : ℕ) → k < length s → run most_deep q (drop k s) ≡ run most_deep (step most_deep q (get_or s k 0)) (drop (k + 1) s)
unfolding run
run_at q s k l = rw (add-one k, drop-cons s k 0 l) refl

pub run_out : (q : State) (s : List ℕ) (k : ℕ) → length s ≤ k → run most_deep q (drop k s) ≡ q
unfolding run
run_out q s k l = ap (run most_deep q) (drop_of_length-le s l)

-- the byte is b, and leads to p
pub run-byte : (q p : State) (s : List ℕ) (k b : ℕ) → k < length s → get_or s k 0 ≡ b → step most_deep q b ≡ p → run most_deep q (drop k s) ≡ run most_deep p (drop (k + 1) s)
run-byte q p s k b l e h = run_at q s k l ∙ ap (λ z. run most_deep z (drop (k + 1) s)) (ap (step most_deep q) e ∙ h)

-- the byte is a fault
pub run-fault : (q : State) (s : List ℕ) (k : ℕ) (e : Fault) → k < length s → step most_deep q (get_or s k 0) ≡ stuck e → verdict (run most_deep q (drop k s)) ≡ bad e
run-fault q s k e l h = ap verdict (run_at q s k l ∙ ap (λ z. run most_deep z (drop (k + 1) s)) h ∙ run-stuck most_deep e (drop (k + 1) s))

-- ---- digits that do not fit

module _ (st : List Frame) (f : Frame) where
  number-full : (c : List ℕ) (b : ℕ) → 48 ≤ b → b ≤ 57 → 10 ≤ length c → step most_deep (factor st f (plain (number c))) b ≡ stuck spelling
  unfolding step
  number-full c b h g l = simp (le-leb 48 b h, le-leb b 57 g, le-ltb (length c) 10 l)

  power-full : (a : Base) (c : List ℕ) (b : ℕ) → 48 ≤ b → b ≤ 57 → 10 ≤ length c → step most_deep (factor st f (raised a c)) b ≡ stuck spelling
  unfolding step
  power-full a c b h g l = simp (le-leb 48 b h, le-leb b 57 g, le-ltb (length c) 10 l)

  power-high : (a : Base) (c : List ℕ) (b : ℕ) → 48 ≤ b → b ≤ 57 → length c < 10 → limit < grammar.digits_value (c ++ (b ∷ [])) → step most_deep (factor st f (raised a c)) b ≡ stuck spelling
  unfolding step
  power-high a c b h g l v = simp (le-leb 48 b h, le-leb b 57 g, lt-ltb (length c) 10 l, lt-leb (grammar.digits_value (c ++ (b ∷ []))) limit v)

  digits_long : (e c : List ℕ) → AllDigits e → length c ≤ 10 → 10 < length c + length e → run most_deep (factor st f (plain (number c))) e ≡ stuck spelling
  unfolding run AllDigits
  digits_long [] c a l h = absurd (omega arith)
  digits_long (b ∷ e) c a l h = go (λ p. digits_long e (c ++ (b ∷ [])) a.2 (omega (arith, length-append c (b ∷ []))) (omega (arith, length-append c (b ∷ [])))) (dec_lt (length c) 10)
    where
      go : (length c < 10 → run most_deep (factor st f (plain (number (c ++ (b ∷ []))))) e ≡ stuck spelling) → Dec (length c < 10) → run most_deep (step most_deep (factor st f (plain (number c))) b) e ≡ stuck spelling
      go ih (yes p) = ap (λ q. run most_deep q e) (number_more most_deep st f c b a.0 a.1 p) ∙ ih p
      go ih (no p) = ap (λ q. run most_deep q e) (number-full c b a.0 a.1 (omega arith)) ∙ run-stuck most_deep spelling e

  power-bad : (a : Base) (e c : List ℕ) → AllDigits e → length c ≤ 10 → grammar.digits_value c ≤ limit → (10 < length c + length e) ⊎ (limit < grammar.digits_value (c ++ e)) → run most_deep (factor st f (raised a c)) e ≡ stuck spelling
  unfolding run AllDigits
  power-bad a [] c d l v h = absurd (⊎_elim (λ x. omega arith) (λ x. omega (arith, rw append-nil at x)) h)
  power-bad a (b ∷ e) c d l v h =
      go (λ p w. power-bad a e (c ++ (b ∷ [])) d.2 (omega (arith, length-append c (b ∷ []))) w (⊎_elim (λ x. inl (omega (arith, length-append c (b ∷ [])))) (λ x. inr (rw append_assoc x)) h))
      (dec_lt (length c) 10) (dec_lt limit (grammar.digits_value (c ++ (b ∷ []))))
    where
      go : (length c < 10 → grammar.digits_value (c ++ (b ∷ [])) ≤ limit → run most_deep (factor st f (raised a (c ++ (b ∷ [])))) e ≡ stuck spelling)
          → Dec (length c < 10) → Dec (limit < grammar.digits_value (c ++ (b ∷ []))) → run most_deep (step most_deep (factor st f (raised a c)) b) e ≡ stuck spelling
      go ih (no p) w = ap (λ q. run most_deep q e) (power-full a c b d.0 d.1 (omega arith)) ∙ run-stuck most_deep spelling e
      go ih (yes p) (yes w) = ap (λ q. run most_deep q e) (power-high a c b d.0 d.1 p w) ∙ run-stuck most_deep spelling e
      go ih (yes p) (no w) = ap (λ q. run most_deep q e) (power-more most_deep st f a c b d.0 d.1 p (omega arith)) ∙ ih p (omega arith)

  pub number-long : (c : List ℕ) → AllDigits c → 10 < length c → run most_deep (expect st f) c ≡ stuck spelling
  unfolding run step AllDigits
  number-long [] a l = absurd (omega arith)
  number-long (b ∷ c) a l = ap (λ q. run most_deep q c) (simp (le-leb 48 b a.0, le-leb b 57 a.1)) ∙ digits_long c (b ∷ []) a.2 (omega arith) (omega arith)

  pub raised-bad : (a : Base) (c : List ℕ) → AllDigits c → 1 ≤ length c → (10 < length c) ⊎ (limit < grammar.digits_value c) → run most_deep (caret st f a) c ≡ stuck spelling
  unfolding run step AllDigits grammar.digits_value grammar.digits_value_from limit
  raised-bad a [] d l h = absurd (omega arith)
  raised-bad a (b ∷ c) d l h = ap (λ q. run most_deep q c) (simp (le-leb 48 b d.0, le-leb b 57 d.1)) ∙ power-bad a c (b ∷ []) d.2 (omega arith) (omega (arith, d.1)) (⊎_elim (λ x. inl (omega arith)) (λ x. inr x) h)
