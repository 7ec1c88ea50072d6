-- The degrees of the places of an area.
--
--   place-degree        the degree that the code finds in place i, and that it is within the limit
--   left_to_right l     a list from the right, read from the left
--   written-degrees     the degrees of the places where parts are written are theirs, left to right
use mathlib.Core.Path.{◌≡◌, refl, ap, ap₂, ◌∙◌}
use mathlib.Core.List.{List, [], ◌∷◌, ◌++◌, append_assoc}
use Prim.Native.Nat.{ℕ, zero, suc, ◌+◌, ◌-◌, ◌<◌, ◌≤◌}
use native.Mathlib.Omega.{arith}
use lib.ListN.{length, take, drop, length-drop}
use lib.Seq.{length-take-le}
use Rattle.algebra.specs.Number.{table}
use Rattle.algebra.specs.Polynomial.{degree, terms, limit}
use Rattle.algebra.specs.Chain.{degrees}
use Rattle.algebra.proofs.Highest.{degree-below}
use Rattle.area.specs.Area.{most_parts, area_words, start, place, laid, written}
use Rattle.area.proofs.Handing.{counted}
use Rattle.area.proofs.Reading.{EachFills, place_after, fills_full}
use Rattle.listing.proofs.Text.{table_last}

pub place-degree : (xs : List ℕ) (i : ℕ) {s d : ℕ} → area_words ≤ length xs → i < most_parts → s ≡ start i
    → d ≡ degree (take (s + terms - s) (drop s xs)) → (d ≡ degree (place xs i)) × (d ≤ limit)
unfolding area_words most_parts terms limit
place-degree xs i l h at e =
    let long : length (place xs i) ≡ terms = length-take-le terms (drop (start i) xs) (omega (arith, length-drop (start i) xs)) in
    let is = e ∙ ap degree (counted xs i at) in
    (is, omega (arith, degree-below (place xs i) (omega arith)))

-- the other way round
unfoldable pub left_to_right : List ℕ → List ℕ
left_to_right [] = []
left_to_right (d ∷ l) = left_to_right l ++ (d ∷ [])

-- parts that stand one after the other
laid-degrees : (parts : List (List ℕ)) (tail : List ℕ) → EachFills parts → table (length parts) (λ i. degree (place (laid parts ++ tail) i)) ≡ left_to_right (degrees parts)
unfolding table laid degrees left_to_right
laid-degrees [] tail f = refl
laid-degrees (p ∷ parts) tail f =
    let others : EachFills parts = λ i l. f (suc i) (omega arith) in
    rw (append_assoc (laid parts) p tail)
    (table_last (length parts) (λ i. degree (place (laid parts ++ (p ++ tail)) i)) ∙ ap₂ (λ (l : List ℕ) (d : ℕ). l ++ (d ∷ [])) (laid-degrees parts (p ++ tail) others)
    (ap degree (place_after (laid parts) p tail (length parts) (fills_full parts others).long (f zero (omega arith)).long)))

-- parts that are written into an area
pub written-degrees : (xs : List ℕ) (parts : List (List ℕ)) → EachFills parts → table (length parts) (λ i. degree (place (written xs parts) i)) ≡ left_to_right (degrees parts)
unfolding written
written-degrees xs parts f = laid-degrees parts _ f
