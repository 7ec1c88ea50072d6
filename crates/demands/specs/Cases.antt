-- The starred worked polynomials of 01, and x^6 of request No. 5, as one table of claims over the contracts of the operations.
--
--   padded p         p as the desk holds it: `terms` places, zeros after those of p
--   Claim            what 01, or 02, says of a worked polynomial
--   Holds c          what the claim says: the answer that the operation's contract allows, all of it
--   All l            every claim of the list holds
--   starred          the table: A, B, C, D, F, G, H, I, J, and x^6 with its two complete chains
use Rattle.std.specs.Prelude.{◌≡◌, List, [], ◌∷◌, ◌++◌, map, ℕ, ◌-◌, ◌≤◌, length, replicate}
use Rattle.algebra.specs.Polynomial.{terms}
use Rattle.refusal.specs.Refusal.{refusal, number}
use Rattle.refusal.specs.declared.Concerns.TheVariants.{Neither}
use Rattle.refusal.specs.declared.Reason.{Reason}
use Rattle.refusal.specs.Refusal.{Answered}
use Rattle.polynomial.specs.Answers.{nothing, no_parts}
use Rattle.pair.specs.Pairing.{compose, LeftPartOf, Splits}
use Rattle.change.specs.Changing.{ChangesPolynomial}
use Rattle.area.specs.Area.{area_words, cleared, written}
use Rattle.chains.specs.Choosing.{unchosen, NumberOf, NthOf}

-- zeros up to the desk's number of places
unfoldable pub padded : List ℕ → List ℕ
padded p = p ++ replicate (terms - length p) 0

pub data Claim : Type 0 where
  splits : ℕ → List ℕ → ℕ → List ℕ → List ℕ → Claim
  split_refused : ℕ → List ℕ → ℕ → ℕ → Claim
  left_part : ℕ → List ℕ → List ℕ → List ℕ → Claim
  left_refused : ℕ → List ℕ → List ℕ → ℕ → Claim
  changes : ℕ → List ℕ → ℕ → ℕ → List ℕ → Claim
  composes : ℕ → List ℕ → List ℕ → List ℕ → Claim
  has_chains : ℕ → List ℕ → ℕ → Claim
  nth_chain : ℕ → List ℕ → ℕ → List (List ℕ) → ℕ → Claim
  nth_refused : ℕ → List ℕ → ℕ → ℕ → Claim

-- f split at r gives g and h, or is refused by No. n; the left part of f for h is g, or is refused; f changed by (a, b) is f'; g after h is f;
-- f has so many complete chains; the j-th has these parts, listed from the right, and this price, or is refused, in any area that is long enough
pub data Holds : Claim → Type 0 where
  split_is : {m r : ℕ} {f g h : List ℕ} → Splits m (padded f) r (record { outcome = Answered; left = padded g; right = padded h })
      → Holds (splits m f r g h)
  split_is_refused : {m r : ℕ} {f : List ℕ} (e : Reason) → Splits m (padded f) r (no_parts (refusal Neither e))
      → Holds (split_refused m f r (number e))
  left_part_is : {m : ℕ} {f h g : List ℕ} → LeftPartOf m (padded f) (padded h) (record { outcome = Answered; polynomial = padded g })
      → Holds (left_part m f h g)
  left_is_refused : {m : ℕ} {f h : List ℕ} (e : Reason) → LeftPartOf m (padded f) (padded h) (nothing (refusal Neither e))
      → Holds (left_refused m f h (number e))
  change_is : {m a b : ℕ} {f f' : List ℕ} → ChangesPolynomial m (padded f) (record { unit = a; origin = b }) (record { outcome = Answered; polynomial = padded f' })
      → Holds (changes m f a b f')
  composition_is : {m : ℕ} {g h f : List ℕ} → compose m (padded g) (padded h) ≡ record { outcome = Answered; polynomial = padded f }
      → Holds (composes m g h f)
  number_is : {m c : ℕ} {f : List ℕ} → NumberOf m (padded f) (record { outcome = Answered; number = c })
      → Holds (has_chains m f c)
  nth_is : {m j c : ℕ} {f : List ℕ} {parts : List (List ℕ)}
      → ((xs : List ℕ) → area_words ≤ length xs → NthOf m (padded f) j xs (written xs (map padded parts)) (record { outcome = Answered; parts = length parts; price = c }))
      → Holds (nth_chain m f j parts c)
  nth_is_refused : {m j : ℕ} {f : List ℕ} (e : Reason) → ((xs : List ℕ) → area_words ≤ length xs → NthOf m (padded f) j xs (cleared xs) (unchosen (refusal Neither e)))
      → Holds (nth_refused m f j (number e))

-- every one
infixr 20 ◌and◌
pub data All : List Claim → Type 0 where
  none : All []
  ◌and◌ : {c : Claim} {l : List Claim} → Holds c → All l → All (c ∷ l)

-- the polynomials that more than one row names
abbrev pub A : List ℕ
A = 10 ∷ 3 ∷ 6 ∷ 7 ∷ 6 ∷ 3 ∷ 1 ∷ []

abbrev pub B : List ℕ
B = 96 ∷ 3 ∷ 9 ∷ 1 ∷ 6 ∷ 0 ∷ 1 ∷ []

abbrev pub H : List ℕ
H = 1 ∷ 1 ∷ 0 ∷ 0 ∷ 1 ∷ []

-- the powers of x that request No. 5 names
abbrev pub x² : List ℕ
x² = 0 ∷ 0 ∷ 1 ∷ []

abbrev pub x³ : List ℕ
x³ = 0 ∷ 0 ∷ 0 ∷ 1 ∷ []

abbrev pub x⁶ : List ℕ
x⁶ = 0 ∷ 0 ∷ 0 ∷ 0 ∷ 0 ∷ 0 ∷ 1 ∷ []

-- 01's values, constant term first; then request No. 5's: x^3 after x^2, x^2 after x^3, and no third chain
abbrev pub starred : List Claim
starred =
    splits 101 A 3 (10 ∷ 3 ∷ 3 ∷ 1 ∷ []) (0 ∷ 1 ∷ 1 ∷ []) ∷
    split_refused 101 A 2 7 ∷
    split_refused 101 B 3 7 ∷
    splits 101 B 2 (96 ∷ 1 ∷ 1 ∷ []) (0 ∷ 3 ∷ 0 ∷ 1 ∷ []) ∷
    left_part 101 A (1 ∷ 1 ∷ 1 ∷ []) (9 ∷ 0 ∷ 0 ∷ 1 ∷ []) ∷
    splits 4 (0 ∷ 0 ∷ 0 ∷ 0 ∷ 0 ∷ 0 ∷ 1 ∷ 3 ∷ 3 ∷ 1 ∷ []) 3 (0 ∷ 0 ∷ 0 ∷ 1 ∷ []) (0 ∷ 0 ∷ 1 ∷ 1 ∷ []) ∷
    changes 101 (1 ∷ 0 ∷ 0 ∷ 0 ∷ 1 ∷ []) 1 1 (2 ∷ 4 ∷ 6 ∷ 4 ∷ 1 ∷ []) ∷
    splits 101 (2 ∷ 4 ∷ 6 ∷ 4 ∷ 1 ∷ []) 2 (2 ∷ 2 ∷ 1 ∷ []) (0 ∷ 2 ∷ 1 ∷ []) ∷
    changes 5 (0 ∷ 0 ∷ 1 ∷ 0 ∷ 1 ∷ []) 2 0 (0 ∷ 0 ∷ 4 ∷ 0 ∷ 1 ∷ []) ∷
    splits 5 (0 ∷ 0 ∷ 4 ∷ 0 ∷ 1 ∷ []) 2 (0 ∷ 4 ∷ 1 ∷ []) (0 ∷ 0 ∷ 1 ∷ []) ∷
    split_refused 2 H 2 5 ∷
    left_part 2 H (0 ∷ 1 ∷ 1 ∷ []) (1 ∷ 1 ∷ 1 ∷ []) ∷
    left_refused 2 (1 ∷ 0 ∷ 0 ∷ 1 ∷ 1 ∷ []) (0 ∷ 1 ∷ 1 ∷ []) 7 ∷
    composes 2 (0 ∷ 1 ∷ 1 ∷ []) (0 ∷ 0 ∷ 1 ∷ []) (0 ∷ 0 ∷ 1 ∷ 0 ∷ 1 ∷ []) ∷
    composes 2 (0 ∷ 0 ∷ 1 ∷ []) (0 ∷ 1 ∷ 1 ∷ []) (0 ∷ 0 ∷ 1 ∷ 0 ∷ 1 ∷ []) ∷
    has_chains 101 x⁶ 2 ∷
    nth_chain 101 x⁶ 0 (x² ∷ x³ ∷ []) 3 ∷
    nth_chain 101 x⁶ 1 (x³ ∷ x² ∷ []) 3 ∷
    nth_refused 101 x⁶ 2 18 ∷
    []
