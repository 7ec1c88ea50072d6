-- Parts in the places of an area, one after the other.
--
--   Full parts           every part fills a place; laid_none, laid_more build it
--   put_next             one part more, put into the next place, is laid after the others
--   written_is           what is laid over a cleared area is what is written
use mathlib.Core.Path.{◌≡◌, sym, ap, ap₂, ◌∙◌}
use mathlib.Core.List.{List, [], ◌∷◌, ◌++◌, append_assoc}
use Prim.Native.Nat.{ℕ, suc, ◌+◌}
use native.Mathlib.Nat as N
use lib.ListN.{length, drop, length-append}
use lib.Seq.{take_at, drop_at, drop-drop}
use Rattle.algebra.specs.Polynomial.{terms}
use Rattle.area.specs.Area.{start, put_at, cleared, laid, written}

-- every part has `terms` words
pub record Full (parts : List (List ℕ)) : Type 0 where
  pub long : length (laid parts) ≡ start (length parts)

pub laid_none : Full []
unfolding laid
laid_none = record { long = sym (N.zero-mul terms) }

pub laid_more : (p : List ℕ) {parts : List (List ℕ)} → length p ≡ terms → Full parts → Full (p ∷ parts)
unfolding laid
laid_more p {parts} e f = record { long = length-append (laid parts) p ∙ ap₂ ◌+◌ f.long e ∙ sym (N.suc-mul (length parts) terms) }

-- the next place takes the next part
pub put_next : (xs p : List ℕ) {parts : List (List ℕ)} {k : ℕ} → length parts ≡ k → Full parts
    → put_at (laid parts ++ drop (start k) xs) k p ≡ laid (p ∷ parts) ++ drop (start (suc k)) xs
unfolding put_at laid
put_next xs p {parts} {k} e f = ap₂ (λ (a b : List ℕ). a ++ (p ++ drop terms b)) (take_at (laid parts) _ (start k) at) (drop_at (laid parts) _ (start k) at)
    ∙ ap (λ (b : List ℕ). laid parts ++ (p ++ b)) (drop-drop terms (start k) xs ∙ ap (λ (n : ℕ). drop n xs) (sym (N.suc-mul k terms))) ∙ sym (append_assoc (laid parts) p _)
  where
    at : length (laid parts) ≡ start k
    at = f.long ∙ ap start e

-- laid over a cleared area: the unused places are zero and the words past them as they were
pub written_is : (xs : List ℕ) {parts : List (List ℕ)} {k : ℕ} → length parts ≡ k → Full parts → laid parts ++ drop (start k) (cleared xs) ≡ written xs parts
unfolding written
written_is xs {parts} {k} e f = ap (λ (n : ℕ). laid parts ++ drop n (cleared xs)) (sym (f.long ∙ ap start e))
