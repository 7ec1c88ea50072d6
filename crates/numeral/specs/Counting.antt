-- What the readers of digits ensure. Only leaves need this.
--
--   DigitAt s k r            the digit at k, or none stands there
--   Counted s at next n      a number n of 1 to 10 digits stands from place `at` to next
--   Uncounted s at           no number stands there
--   Counts s at r            one or the other, by what is found
--   CountsPower s at r       the same for a power, which keeps its limit
use Rattle.std.specs.Prelude.{◌≡◌, Option, Some, None, List, ◌++◌, ℕ, ◌-◌, ◌≤◌, ◌<◌, length, drop, get_or}
use Rattle.text.specs.Grammar.{Base, digits_value, AllDigits, Decimal, number_digits, most_deep, most_power, zero_byte, nine_byte}
use Rattle.text.specs.States.{Frame, spelling, caret, run, bad, verdict}
use Rattle.numeral.specs.declared.Numeral.{Numeral}

-- the digit at k, or none stands there
abbrev pub DigitAt : List ℕ → ℕ → Option ℕ → Type 0
DigitAt s k None = k < length s → zero_byte ≤ get_or s k 0 → get_or s k 0 ≤ nine_byte → ⊥
DigitAt s k (Some d) = (k < length s) × (zero_byte ≤ get_or s k 0) × (get_or s k 0 ≤ nine_byte) × (d ≡ get_or s k 0 - zero_byte)

-- 1 to 10 digits from `at` to next, where no digit stands
pub record Counted (s : List ℕ) (at next n : ℕ) : Type 0 where
  pub bytes : List ℕ
  pub digits : Decimal bytes
  pub is : n ≡ digits_value bytes
  pub text : drop at s ≡ bytes ++ drop next s
  pub ahead : at < next
  pub inside : next ≤ length s
  pub ends : next < length s → zero_byte ≤ get_or s next 0 → get_or s next 0 ≤ nine_byte → ⊥

-- the text has ended; another byte; more than 10 digits
pub data Uncounted (s : List ℕ) (at : ℕ) : Type 0 where
  ended : length s ≤ at → Uncounted s at
  other : at < length s → (zero_byte ≤ get_or s at 0 → get_or s at 0 ≤ nine_byte → ⊥) → Uncounted s at
  long : (bytes rest : List ℕ) → AllDigits bytes → number_digits < length bytes → drop at s ≡ bytes ++ rest → Uncounted s at

-- by what is found
abbrev pub Counts : List ℕ → ℕ → Option Numeral → Type 0
Counts s at None = Uncounted s at
Counts s at (Some n) = Counted s at n.next n.value

-- the same for the digits of a power, after ^
abbrev pub CountsPower : List ℕ → ℕ → Option Numeral → Type 0
CountsPower s at None = (st : List Frame) (f : Frame) (a : Base) → verdict (run most_deep (caret st f a) (drop at s)) ≡ bad spelling
CountsPower s at (Some n) = Counted s at n.next n.value × (n.value ≤ most_power)
