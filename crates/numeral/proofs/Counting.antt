-- The digits of a number, one at a time.
--
--   Counting s at k n              digits from `at` to k, and n is their number
--   first-digit, next_digit        the first digit, one more
--   too_long                       an eleventh digit
--   counting_small                 nine digits leave room for one more
--   power_over, power-none         a power above its limit; no number
use mathlib.Core.Path.{◌≡◌, refl, ap, ◌∙◌}
use mathlib.Core.Logic.{inl, inr}
use mathlib.Core.List.{List, [], ◌∷◌, ◌++◌, append_assoc}
use Prim.Native.Nat.{ℕ, zero, suc, ◌+◌, ◌*◌, ◌-◌, ◌≤◌, ◌<◌}
use native.Mathlib.Nat.{le_refl, le_trans, add-zero, add-suc}
use native.Mathlib.Numerals.{add-one}
use native.Mathlib.Omega.{arith}
use lib.ListN.{length, drop, get_or, length-append}
use lib.Seq.{drop-cons}
use Rattle.algebra.specs.Polynomial.{limit}
use Rattle.std.specs.Prelude.{None}
use Rattle.digits.proofs.Text.{tens}
use Rattle.text.specs.Grammar.{Base, digits_value, digits_value_from, AllDigits, most_deep}
use Rattle.text.specs.States.{Frame, spelling, caret, stuck, is_digit, step, run, bad, verdict}
use Rattle.numeral.specs.Counting.{Counted, Uncounted, ended, other, long, CountsPower}
use Rattle.text.proofs.Spelling.{run-append, run-stuck, value_last}
use Rattle.text.proofs.Running.{run_out, run-fault, raised-bad}
use Rattle.text.proofs.Reached.{all_more, by_cond, digit_bounds}

tens_more : (a b : ℕ) → tens a ≤ tens (a + b)
tens_more a zero = rw (add-zero a) (le_refl (tens a))
tens_more a (suc b) = rw (add-suc a b) (le_trans (tens_more a b) (omega arith))

pub record Counting (s : List ℕ) (at k n : ℕ) : Type 0 where
  pub bytes : List ℕ
  pub all : AllDigits bytes
  pub count : length bytes ≡ k - at
  pub few : length bytes ≤ 10
  pub is : n ≡ digits_value bytes
  pub small : n < tens (length bytes)
  pub text : drop at s ≡ bytes ++ drop k s
  pub ahead : at < k
  pub inside : k ≤ length s

module _ (s : List ℕ) where
  pub first-digit : {at n : ℕ} → at < length s → 48 ≤ get_or s at 0 → get_or s at 0 ≤ 57 → n ≡ get_or s at 0 - 48 → Counting s at (at + 1) n
  unfolding AllDigits digits_value digits_value_from
  first-digit {at} l a b e =
      record {
        bytes = get_or s at 0 ∷ [];
        all = (a, b, tt);
        count = omega arith;
        few = omega arith;
        is = omega arith;
        small = omega arith;
        text = rw (add-one at) (drop-cons s at 0 l);
        ahead = omega arith;
        inside = omega arith;
      }

module _ {s : List ℕ} {at k n : ℕ} (c : Counting s at k n) where
  pub counting_small : k - at < 10 → n ≤ 1000000000
  counting_small l =
      let e : length c.bytes + (9 - length c.bytes) ≡ 9 = omega (arith, c.count) in
      omega (arith, c.small, rw e at (tens_more (length c.bytes) (9 - length c.bytes)))

  -- the text with one digit more
  text-more : k < length s → drop at s ≡ (c.bytes ++ (get_or s k 0 ∷ [])) ++ drop (k + 1) s
  text-more l = c.text ∙ rw (append_assoc c.bytes (get_or s k 0 ∷ []) (drop (k + 1) s), add-one k) (ap (λ (t : List ℕ). c.bytes ++ t) (drop-cons s k 0 l))

  pub next_digit : {n' : ℕ} → k < length s → 48 ≤ get_or s k 0 → get_or s k 0 ≤ 57 → k - at < 10 → n' ≡ 10 * n + (get_or s k 0 - 48) → Counting s at (k + 1) n'
  next_digit l a b f e =
      let z : length (c.bytes ++ (get_or s k 0 ∷ [])) ≡ suc (length c.bytes) = omega (arith, length-append c.bytes (get_or s k 0 ∷ [])) in
      record {
        bytes = c.bytes ++ (get_or s k 0 ∷ []);
        all = all_more c.bytes (get_or s k 0) c.all a b;
        count = omega (arith, z, c.count, c.ahead);
        few = omega (arith, z, c.count);
        is = omega (arith, value_last c.bytes (get_or s k 0), c.is);
        small = rw z (omega (arith, c.small));
        text = text-more l;
        ahead = omega (arith, c.ahead);
        inside = omega arith;
      }

  pub too_long : k < length s → 48 ≤ get_or s k 0 → get_or s k 0 ≤ 57 → 10 ≤ k - at → Uncounted s at
  too_long l a b f =
      long (c.bytes ++ (get_or s k 0 ∷ [])) (drop (k + 1) s) (all_more c.bytes (get_or s k 0) c.all a b)
      (omega (arith, length-append c.bytes (get_or s k 0 ∷ []), c.count)) (text-more l)

-- ---- the digits of a power

module _ (s : List ℕ) (at : ℕ) where
  power-run : (st : List Frame) (f : Frame) (a : Base) (c rest : List ℕ) → drop at s ≡ c ++ rest → run most_deep (caret st f a) c ≡ stuck spelling → verdict (run most_deep (caret st f a) (drop at s)) ≡ bad spelling
  power-run st f a c rest t h = ap verdict (ap (run most_deep (caret st f a)) t ∙ run-append most_deep (caret st f a) c rest ∙ ap (λ q. run most_deep q rest) h ∙ run-stuck most_deep spelling rest)

  -- above the limit
  pub power_over : {next n : ℕ} → limit < n → Counted s at next n → CountsPower s at None
  power_over {next} l d st f a = power-run st f a d.bytes (drop next s) d.text (raised-bad st f a d.bytes d.digits.digits d.digits.some (inr (rw d.is at l)))

  caret-other : (st : List Frame) (f : Frame) (a : Base) → (48 ≤ get_or s at 0 → get_or s at 0 ≤ 57 → ⊥) → step most_deep (caret st f a) (get_or s at 0) ≡ stuck spelling
  unfolding step
  caret-other st f a h = by_cond (λ q. q ≡ stuck spelling) (is_digit (get_or s at 0)) (λ e. absurd (h (digit_bounds (get_or s at 0) e).0 (digit_bounds (get_or s at 0) e).1)) (λ e. refl)

  -- no number
  pub power-none : Uncounted s at → CountsPower s at None
  power-none (ended l) st f a = ap verdict (run_out (caret st f a) s at l)
  power-none (other l h) st f a = run-fault (caret st f a) s at spelling l (caret-other st f a h)
  power-none (long c rest d l t) st f a = power-run st f a c rest t (raised-bad st f a c d (omega arith) (inl l))
