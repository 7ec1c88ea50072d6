-- The operations: the number of complete chains, and the j-th of them.
--
--   Numbered, Chosen               what they return: an outcome beside numbers
--   numbered_of x, chosen_of x     what is returned for the result x of the code
--   unnumbered o, unchosen o       the outcome o beside zeros, as after a refusal
--   NumberOf m f x                 x answers: the number of complete chains of f
--   NthOf m f j xs ys x            x answers: the j-th, from 0; xs is the area before, ys the area afterwards
use Rattle.std.specs.Prelude.{◌≡◌, Result, Ok, Err, List, ℕ, ◌≤◌, ◌<◌, length}
use Rattle.algebra.specs.Number.{Coprime}
use Rattle.algebra.specs.Polynomial.{degree}
use Rattle.algebra.specs.Chain.{price}
use Rattle.algebra.specs.Every.{EveryChain, NthChain}
use Rattle.refusal.specs.Refusal.{Outcome, Answered, Refused, refusal}
use Rattle.refusal.specs.declared.Refusal.{Refusal}
use Rattle.refusal.specs.declared.Concerns.TheVariants.{Neither}
use Rattle.refusal.specs.declared.Reason.TheVariants.{Factor, Area, Beyond}
use Rattle.polynomial.specs.Checks.{check_one}
use Rattle.area.specs.Area.{area_words, cleared, written}
use Rattle.chains.specs.declared.Numbers.{Numbers}

-- what the number of chains returns, and what the j-th chain returns beside the area
pub record Numbered : Type 0 where
  pub outcome : Outcome
  pub number : ℕ

pub record Chosen : Type 0 where
  pub outcome : Outcome
  pub parts : ℕ
  pub price : ℕ

-- zero beside an outcome
abbrev pub unnumbered : Outcome → Numbered
unnumbered o = record { outcome = o; number = 0 }

-- zeros beside an outcome
abbrev pub unchosen : Outcome → Chosen
unchosen o = record { outcome = o; parts = 0; price = 0 }

-- what is returned for the result x of the code: its numbers, or zeros beside the refusal
abbrev pub numbered_of : Result ℕ Refusal → Numbered
numbered_of (Ok k) = record { outcome = Answered; number = k }
numbered_of (Err r) = unnumbered (Refused r)

abbrev pub chosen_of : Result Numbers Refusal → Chosen
chosen_of (Ok x) = record { outcome = Answered; parts = x.parts; price = x.price }
chosen_of (Err r) = unchosen (Refused r)

-- 1, 2, 3, 4, then 5 if n and m share a factor; else the number
pub data NumberOf (m : ℕ) (f : List ℕ) (x : Numbered) : Type 0 where
  refused : {r : Refusal} → check_one m f ≡ Refused r → x ≡ unnumbered (Refused r) → NumberOf m f x
  shared : check_one m f ≡ Answered → (Coprime (degree f) m → ⊥) → x ≡ unnumbered (refusal Neither Factor) → NumberOf m f x
  numbered : {l : List (List (List ℕ))} → check_one m f ≡ Answered → Coprime (degree f) m → EveryChain m f l
      → x ≡ record { outcome = Answered; number = length l } → NumberOf m f x

-- 11 before everything, and nothing is written; then 1, 2, 3, 4, then 5, then 18 if j is not below the number, and all places are
-- zero; else the j-th chain, with zeros in the unused places. Words past the places never change.
pub data NthOf (m : ℕ) (f : List ℕ) (j : ℕ) (xs ys : List ℕ) (x : Chosen) : Type 0 where
  short : length xs < area_words → ys ≡ xs → x ≡ unchosen (refusal Neither Area) → NthOf m f j xs ys x
  refused : {r : Refusal} → area_words ≤ length xs → check_one m f ≡ Refused r → ys ≡ cleared xs → x ≡ unchosen (Refused r) → NthOf m f j xs ys x
  shared : area_words ≤ length xs → check_one m f ≡ Answered → (Coprime (degree f) m → ⊥) → ys ≡ cleared xs → x ≡ unchosen (refusal Neither Factor) → NthOf m f j xs ys x
  beyond : {l : List (List (List ℕ))} → area_words ≤ length xs → check_one m f ≡ Answered → Coprime (degree f) m → EveryChain m f l → length l ≤ j
      → ys ≡ cleared xs → x ≡ unchosen (refusal Neither Beyond) → NthOf m f j xs ys x
  chosen : {parts : List (List ℕ)} → area_words ≤ length xs → check_one m f ≡ Answered → Coprime (degree f) m
      → NthChain m f j parts → ys ≡ written xs parts
      → x ≡ record { outcome = Answered; parts = length parts; price = price parts } → NthOf m f j xs ys x
