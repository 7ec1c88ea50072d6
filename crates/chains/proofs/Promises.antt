-- The promises of the number of complete chains and of the j-th chain.
--
--   number_determined, nth_determined       two answers to one call are equal, and so are the areas afterwards
--   checked_chainable                       an f that passes the checks
use mathlib.Core.Path.{◌≡◌, sym, ap, ◌∙◌}
use mathlib.Core.List.{List}
use Prim.Native.Nat.{ℕ}
use native.Mathlib.Omega.{arith}
use lib.ListN.{length}
use Rattle.algebra.specs.Number.{Coprime}
use Rattle.algebra.specs.Polynomial.{degree, terms}
use Rattle.algebra.specs.Chain.{price}
use Rattle.algebra.proofs.Complete.{Chainable}
use Rattle.algebra.proofs.Every as E
use Rattle.algebra.proofs.Few as F
use Rattle.refusal.specs.Refusal.{Answered}
use Rattle.refusal.proofs.Outcomes.{never}
use Rattle.polynomial.specs.Checks.{check_one}
use Rattle.polynomial.proofs.Acceptance.{accepted-one}
use Rattle.area.specs.Area.{written}
use Rattle.round.proofs.Asking.{accepted_chainable}
use Rattle.chains.specs.Choosing.{Numbered}
use Rattle.chains.specs.Choosing.{Chosen}
use Rattle.chains.specs.Choosing.{unnumbered, unchosen, NumberOf, NthOf}
use Rattle.chains.specs.Choosing as of

-- an f that passes the checks
pub checked_chainable : {m : ℕ} {f : List ℕ} → length f ≡ terms → check_one m f ≡ Answered → Coprime (degree f) m → Chainable m (degree f) f
checked_chainable long e c = accepted_chainable (accepted-one long e) c

module _ {m : ℕ} {f : List ℕ} (long : length f ≡ terms) where
  -- the number is determined
  pub number_determined : {x y : Numbered} → NumberOf m f x → NumberOf m f y → x ≡ y
  number_determined (of.refused d p) (of.refused e q) = p ∙ ap unnumbered (sym d ∙ e) ∙ sym q
  number_determined (of.refused d p) (of.shared e s q) = absurd (never d e)
  number_determined (of.refused d p) (of.numbered e c k q) = absurd (never d e)
  number_determined (of.shared d s p) (of.refused e q) = absurd (never e d)
  number_determined (of.shared d s p) (of.shared e r q) = p ∙ sym q
  number_determined (of.shared d s p) (of.numbered e c k q) = absurd (s c)
  number_determined (of.numbered d c k p) (of.refused e q) = absurd (never e d)
  number_determined (of.numbered d c k p) (of.shared e s q) = absurd (s c)
  number_determined (of.numbered d c k p) (of.numbered e b l q) =
      p ∙ ap (λ (l : List (List (List ℕ))). record { outcome = Answered; number = length l }) (E.every_unique (checked_chainable long d c) k l) ∙ sym q

  -- and so are the j-th chain and every word of the area
  pub nth_determined : {j : ℕ} {xs ys zs : List ℕ} {x y : Chosen} → NthOf m f j xs ys x → NthOf m f j xs zs y → (x ≡ y) × (ys ≡ zs)
  nth_determined (of.short l a p) (of.short l' a' p') = (p ∙ sym p', a ∙ sym a')
  nth_determined (of.short l a p) (of.refused l' d' a' p') = absurd (omega arith)
  nth_determined (of.short l a p) (of.shared l' d' s' a' p') = absurd (omega arith)
  nth_determined (of.short l a p) (of.beyond l' d' c' k' b' a' p') = absurd (omega arith)
  nth_determined (of.short l a p) (of.chosen l' d' c' k' a' p') = absurd (omega arith)
  nth_determined (of.refused l d a p) (of.short l' a' p') = absurd (omega arith)
  nth_determined (of.refused l d a p) (of.refused l' d' a' p') = (p ∙ ap unchosen (sym d ∙ d') ∙ sym p', a ∙ sym a')
  nth_determined (of.refused l d a p) (of.shared l' d' s' a' p') = absurd (never d d')
  nth_determined (of.refused l d a p) (of.beyond l' d' c' k' b' a' p') = absurd (never d d')
  nth_determined (of.refused l d a p) (of.chosen l' d' c' k' a' p') = absurd (never d d')
  nth_determined (of.shared l d s a p) (of.short l' a' p') = absurd (omega arith)
  nth_determined (of.shared l d s a p) (of.refused l' d' a' p') = absurd (never d' d)
  nth_determined (of.shared l d s a p) (of.shared l' d' s' a' p') = (p ∙ sym p', a ∙ sym a')
  nth_determined (of.shared l d s a p) (of.beyond l' d' c' k' b' a' p') = absurd (s c')
  nth_determined (of.shared l d s a p) (of.chosen l' d' c' k' a' p') = absurd (s c')
  nth_determined (of.beyond l d c k b a p) (of.short l' a' p') = absurd (omega arith)
  nth_determined (of.beyond l d c k b a p) (of.refused l' d' a' p') = absurd (never d' d)
  nth_determined (of.beyond l d c k b a p) (of.shared l' d' s' a' p') = absurd (s' c)
  nth_determined (of.beyond l d c k b a p) (of.beyond l' d' c' k' b' a' p') = (p ∙ sym p', a ∙ sym a')
  nth_determined (of.beyond l d c k b a p) (of.chosen l' d' c' k' a' p') = let w = (E.nth-at (checked_chainable long d c) k k').0 in absurd (omega arith)
  nth_determined (of.chosen l d c k a p) (of.short l' a' p') = absurd (omega arith)
  nth_determined (of.chosen l d c k a p) (of.refused l' d' a' p') = absurd (never d' d)
  nth_determined (of.chosen l d c k a p) (of.shared l' d' s' a' p') = absurd (s' c)
  nth_determined (of.chosen l d c k a p) (of.beyond l' d' c' k' b' a' p') = let w = (E.nth-at (checked_chainable long d c) k' k).0 in absurd (omega arith)
  nth_determined {xs = xs} (of.chosen {parts = x} l d c k a p) (of.chosen {parts = y} l' d' c' k' a' p') =
      let e : x ≡ y = F.nth_unique (checked_chainable long d c) k k' in
      (p ∙ ap (λ (z : List (List ℕ)). record { outcome = Answered; parts = length z; price = price z }) e ∙ sym p', a ∙ ap (written xs) e ∙ sym a')
