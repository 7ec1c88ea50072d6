-- The chain of a polynomial, as 01's operation answers and writes it.
--
--   Chained                       what the chain returns: an outcome, and the number of parts, the tries and the price
--   ChainedIn m n f xs ys k t c   the chain of f stands in the first k places of ys, with its tries t and its price c
--   chained_of x                  what is returned for the result x of the code
--   unchained o                   the outcome o beside zeros, as after a refusal
--   ChainGiven m n f xs           what the chain is given with an accepted f of degree n
--   ChainFound m n f xs ys x      what it answers then: No. 5, or the chain, in the area
--   ChainOf m f xs ys x           x answers: the chain of f; xs is the area before, ys the area afterwards
use Rattle.std.specs.Prelude.{◌≡◌, Result, Ok, Err, List, ◌++◌, ℕ, ◌*◌, ◌≤◌, ◌<◌, length, drop}
use Rattle.algebra.specs.Number.{Coprime, Modulus}
use Rattle.algebra.specs.Polynomial.{degree, terms, Held}
use Rattle.algebra.specs.Chain.{Chain, price}
use Rattle.refusal.specs.Refusal.{Outcome, Answered, Refused, refusal}
use Rattle.refusal.specs.declared.Refusal.{Refusal}
use Rattle.refusal.specs.declared.Concerns.TheVariants.{Neither}
use Rattle.refusal.specs.declared.Reason.TheVariants.{Factor, Area}
use Rattle.polynomial.specs.Checks.{check_one}
use Rattle.area.specs.Area.{area_words, cleared, laid, written}
use Rattle.chain.specs.declared.Numbers.{Numbers}

-- the parts stand in the first places, left to right, and nothing else has changed
pub record ChainedIn (m n : ℕ) (f xs ys : List ℕ) (count tries cost : ℕ) : Type 0 where
  pub parts : List (List ℕ)
  pub chain : Chain m n f parts tries
  pub count_is : count ≡ length parts
  pub cost_is : cost ≡ price parts
  pub area : ys ≡ laid parts ++ drop (count * terms) xs

-- what is returned beside the area
pub record Chained : Type 0 where
  pub outcome : Outcome
  pub parts : ℕ
  pub tries : ℕ
  pub price : ℕ

-- zeros beside an outcome
abbrev pub unchained : Outcome → Chained
unchained o = record { outcome = o; parts = 0; tries = 0; price = 0 }

-- what is returned for the result x of the code: the numbers of the chain, or zeros beside the refusal
abbrev pub chained_of : Result Numbers Refusal → Chained
chained_of (Ok x) = record { outcome = Answered; parts = x.parts; tries = x.tries; price = x.price }
chained_of (Err r) = unchained (Refused r)

-- f is accepted, and the area has its places
pub record ChainGiven (m n : ℕ) (f xs : List ℕ) : Type 0 where
  pub modulus : Modulus m
  pub whole : Held m n f
  pub two : 2 ≤ n
  pub room : area_words ≤ length xs

-- No. 5 exactly if n and m share a factor, and the area is as it was; else the parts in its first places
pub data ChainFound (m n : ℕ) (f xs ys : List ℕ) (x : Chained) : Type 0 where
  factor : (Coprime n m → ⊥) → ys ≡ xs → x ≡ unchained (refusal Neither Factor) → ChainFound m n f xs ys x
  parts : {k t c : ℕ} → Coprime n m → ChainedIn m n f xs ys k t c → x ≡ record { outcome = Answered; parts = k; tries = t; price = c } → ChainFound m n f xs ys x

-- 11 before everything, and nothing is written; then 1, 2, 3, 4, then 5 if n and m share a factor, and all places are zero;
-- else the chain, with zeros in the unused places. Words past the places never change.
pub data ChainOf (m : ℕ) (f xs ys : List ℕ) (x : Chained) : Type 0 where
  short : length xs < area_words → ys ≡ xs → x ≡ unchained (refusal Neither Area) → ChainOf m f xs ys x
  refused : {r : Refusal} → area_words ≤ length xs → check_one m f ≡ Refused r → ys ≡ cleared xs → x ≡ unchained (Refused r) → ChainOf m f xs ys x
  shared : area_words ≤ length xs → check_one m f ≡ Answered → (Coprime (degree f) m → ⊥) → ys ≡ cleared xs → x ≡ unchained (refusal Neither Factor) → ChainOf m f xs ys x
  chained : {parts : List (List ℕ)} {t : ℕ} → area_words ≤ length xs → check_one m f ≡ Answered → Coprime (degree f) m
      → Chain m (degree f) f parts t → ys ≡ written xs parts
      → x ≡ record { outcome = Answered; parts = length parts; tries = t; price = price parts } → ChainOf m f xs ys x
