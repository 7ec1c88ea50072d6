-- What each reader ensures, said by the states. Only leaves need this.
--
--   Phrase                   what is read: a base, a factor, a product, a sum; Tree, start, past, means, Inside by it
--   Only j q b               where b does not go on what j reads, it is a fault
--   Done k j m s at d n v    a tree of k was read from place `at` to n, and what follows does not go on as j; v holds its polynomial
--   told e                   a fault, as the states tell it
--   reason_of e              why a text with this fault is refused
--   Fails k s at d e         the text from `at` on has the fault e
--   Reads k j m s at d r v   one or the other, which r is; v is what was built
--   SignAt s k r             the sign at k, or none stands there
--   Adds m sign a b v        v is a + b or a - b
use Rattle.std.specs.Prelude.{◌≡◌, ◌⊎◌, Option, Some, None, Result, Ok, Err, List, ℕ, ◌-◌, ◌≤◌, ◌<◌, length, drop, get_or}
use Rattle.built.specs.declared.Built.{Built}
use Rattle.algebra.specs.Polynomial.{plus, scaled}
use Rattle.built.specs.Built.{BuiltAs, Joins}
use Rattle.phrase.specs.declared.Fault.{Fault}
use Rattle.phrase.specs.declared.Fault.TheVariants.{Spelling, Depth}
use Rattle.refusal.specs.declared.Reason.{Reason}
use Rattle.refusal.specs.declared.Reason.TheVariants as reason
use Rattle.text.specs.Grammar.{Sum, Product, Factor, Base, plain, most_deep, plus_byte, minus_byte, times_byte, power_byte, close_byte}
use Rattle.text.specs.Meaning.{meaning, meaning_product, meaning_factor, meaning_base, Within, WithinProduct, WithinFactor, WithinBase}
use Rattle.text.specs.States.{Before, none, Frame, frame, Fault as State-fault, spelling, deep, State, begin, expect, factor, stuck, step, run, at_product, at_sum, bad, verdict}

pub data Phrase : Type 0 where
  a_base : Phrase
  a_factor : Phrase
  a_product : Phrase
  a_sum : Phrase

abbrev pub Tree : Phrase → Type 0
Tree a_base = Base
Tree a_factor = Factor
Tree a_product = Product
Tree a_sum = Sum

abbrev pub before_of : Frame → Before
before_of (frame b l) = b

-- the state in which it begins
abbrev pub start : Phrase → List Frame → Frame → State
start a_base st f = expect st f
start a_factor st f = expect st f
start a_product st f = expect st (frame (before_of f) none)
start a_sum st f = begin st

-- the state after it
abbrev pub past : (k : Phrase) → List Frame → Frame → Tree k → State
past a_base st f a = factor st f (plain a)
past a_factor st f t = factor st f t
past a_product st f p = at_product st (before_of f) p
past a_sum st f s = at_sum st s

abbrev pub means : (k : Phrase) → Tree k → ℕ → List ℕ
means a_base a m = meaning_base a m
means a_factor t m = meaning_factor t m
means a_product p m = meaning_product p m
means a_sum s m = meaning s m

abbrev pub Inside : (k : Phrase) → Tree k → ℕ → Type 0
Inside a_base a m = WithinBase a m
Inside a_factor t m = WithinFactor t m
Inside a_product p m = WithinProduct p m
Inside a_sum s m = Within s m

-- only ) goes on after a sum, + - ) after a product, * too after a factor, ^ too after a base
abbrev pub Only : Phrase → State → ℕ → Type 0
Only a_sum q b = (b ≡ close_byte → ⊥) → step most_deep q b ≡ stuck spelling
Only a_product q b = (b ≡ plus_byte → ⊥) → (b ≡ minus_byte → ⊥) → (b ≡ close_byte → ⊥) → step most_deep q b ≡ stuck spelling
Only a_factor q b = (b ≡ times_byte → ⊥) → (b ≡ plus_byte → ⊥) → (b ≡ minus_byte → ⊥) → (b ≡ close_byte → ⊥) → step most_deep q b ≡ stuck spelling
Only a_base q b = (b ≡ power_byte → ⊥) → (b ≡ times_byte → ⊥) → (b ≡ plus_byte → ⊥) → (b ≡ minus_byte → ⊥) → (b ≡ close_byte → ⊥) → step most_deep q b ≡ stuck spelling

pub record Done (k j : Phrase) (m : ℕ) (s : List ℕ) (at d next : ℕ) (v : Option Built) : Type 0 where
  pub tree : Tree k
  pub ahead : at < next
  pub inside : next ≤ length s
  pub held : BuiltAs m (means k tree m) (Inside k tree m) v
  pub leads : (st : List Frame) (f : Frame) → length st ≡ d → run most_deep (start k st f) (drop at s) ≡ run most_deep (past k st f tree) (drop next s)
  pub ends : (st : List Frame) (f : Frame) → next < length s → Only j (past k st f tree) (get_or s next 0)

-- the fault, as the states tell it
abbrev pub told : Fault → State-fault
told Spelling = spelling
told Depth = deep

-- why a text with this fault is refused
abbrev pub reason_of : Fault → Reason
reason_of Spelling = reason.Spelling
reason_of Depth = reason.Depth

abbrev pub Fails : Phrase → List ℕ → ℕ → ℕ → Fault → Type 0
Fails k s at d e = (st : List Frame) (f : Frame) → length st ≡ d → verdict (run most_deep (start k st f) (drop at s)) ≡ bad (told e)

-- by what is handed on
abbrev pub Reads : Phrase → Phrase → ℕ → List ℕ → ℕ → ℕ → Result ℕ Fault → Option Built → Type 0
Reads k j m s at d (Ok next) v = Done k j m s at d next v
Reads k j m s at d (Err e) v = Fails k s at d e

-- the sign at k, or none stands there
abbrev pub SignAt : List ℕ → ℕ → Option ℕ → Type 0
SignAt s k None = k < length s → (get_or s k 0 ≡ plus_byte → ⊥) × (get_or s k 0 ≡ minus_byte → ⊥)
SignAt s k (Some b) = (k < length s) × (get_or s k 0 ≡ b) × ((b ≡ plus_byte) ⊎ (b ≡ minus_byte))

-- a + b or a - b by the sign between them
pub record Adds (m sign : ℕ) (a b v : Option Built) : Type 0 where
  pub sum : sign ≡ plus_byte → Joins m (λ x y. plus x (scaled 1 y)) a b v
  pub difference : (sign ≡ plus_byte → ⊥) → Joins m (λ x y. plus x (scaled (m - 1) y)) a b v
