-- The promises of the chain.
--
--   chain_determined               two answers to one call are equal, and so are the areas afterwards
--   chain_exact                    past 11 and 1 to 4: an answer exactly if n and m share no factor, and No. 5 exactly if they do
use mathlib.Core.Path.{◌≡◌, sym, ap, ap₂, ◌∙◌}
use mathlib.Core.Logic.{◌↔◌}
use mathlib.Core.List.{List}
use Prim.Native.Nat.{ℕ, ◌≤◌}
use native.Mathlib.Omega.{arith}
use lib.ListN.{length}
use Rattle.algebra.specs.Number.{Coprime}
use Rattle.algebra.specs.Polynomial.{degree, terms}
use Rattle.algebra.specs.Chain.{price}
use Rattle.algebra.proofs.Factors.{coprime-invertible}
use Rattle.algebra.proofs.Chains as C
use Rattle.refusal.specs.Refusal.{refusal}
use Rattle.refusal.specs.declared.Concerns.TheVariants.{Neither}
use Rattle.refusal.specs.declared.Reason.TheVariants.{Factor}
use Rattle.refusal.specs.Refusal.{Answered}
use Rattle.refusal.proofs.Outcomes.{never}
use Rattle.polynomial.specs.Checks.{check_one}
use Rattle.polynomial.proofs.Acceptance.{accepted-one, accepted-above}
use Rattle.area.specs.Area.{area_words, written}
use Rattle.chain.specs.Chaining.{Chained}
use Rattle.chain.specs.Chaining.{unchained, ChainOf}
use Rattle.chain.specs.Chaining as of

module _ {m : ℕ} {f xs ys zs : List ℕ} {x y : Chained} (long : length f ≡ terms) where
  -- the answer and every word of the area are determined
  pub chain_determined : ChainOf m f xs ys x → ChainOf m f xs zs y → (x ≡ y) × (ys ≡ zs)
  chain_determined (of.short l a p) (of.short k b q) = (p ∙ sym q, a ∙ sym b)
  chain_determined (of.short l a p) (of.refused k e b q) = absurd (omega arith)
  chain_determined (of.short l a p) (of.shared k e n b q) = absurd (omega arith)
  chain_determined (of.short l a p) (of.chained k e c w b q) = absurd (omega arith)
  chain_determined (of.refused l d a p) (of.short k b q) = absurd (omega arith)
  chain_determined (of.refused l d a p) (of.refused k e b q) = (p ∙ ap unchained (sym d ∙ e) ∙ sym q, a ∙ sym b)
  chain_determined (of.refused l d a p) (of.shared k e n b q) = absurd (never d e)
  chain_determined (of.refused l d a p) (of.chained k e c w b q) = absurd (never d e)
  chain_determined (of.shared l d n a p) (of.short k b q) = absurd (omega arith)
  chain_determined (of.shared l d n a p) (of.refused k e b q) = absurd (never e d)
  chain_determined (of.shared l d n a p) (of.shared k e o b q) = (p ∙ sym q, a ∙ sym b)
  chain_determined (of.shared l d n a p) (of.chained k e c w b q) = absurd (n c)
  chain_determined (of.chained l d c v a p) (of.short k b q) = absurd (omega arith)
  chain_determined (of.chained l d c v a p) (of.refused k e b q) = absurd (never e d)
  chain_determined (of.chained l d c v a p) (of.shared k e n b q) = absurd (n c)
  chain_determined (of.chained {parts = parts} {t = t} l d c v a p) (of.chained {parts = parts'} {t = t'} k e c' w b q) =
      (p ∙ ap₂ (λ (parts : List (List ℕ)) (t : ℕ). record { outcome = Answered; parts = length parts; tries = t; price = price parts }) same.0 same.1 ∙ sym q, a ∙ ap (written xs) same.0 ∙ sym b)
    where
      same : (parts ≡ parts') × (t ≡ t')
      same = let two = accepted-above (accepted-one long d) in C.chain_unique (omega arith) (coprime-invertible m (omega arith) c) v w

-- past the refusals of the area and of f, a common factor of n and m decides
module _ {m : ℕ} {f xs ys : List ℕ} {x : Chained} (room : area_words ≤ length xs) (checked : check_one m f ≡ Answered) where
  pub chain_exact : ChainOf m f xs ys x → ((x.outcome ≡ Answered) ↔ Coprime (degree f) m) × ((x.outcome ≡ refusal Neither Factor) ↔ (Coprime (degree f) m → ⊥))
  chain_exact (of.short l a p) = absurd (omega arith)
  chain_exact (of.refused l e a p) = absurd (never e checked)
  chain_exact (of.shared l e n a p) = let o = ap (λ (x : Chained). x.outcome) p in ((λ z. absurd (never o z), λ c. absurd (n c)), (λ z. n, λ z. o))
  chain_exact (of.chained l e c k a p) = let o = ap (λ (x : Chained). x.outcome) p in ((λ z. c, λ z. o), (λ z. absurd (never z o), λ z. absurd (z c)))
