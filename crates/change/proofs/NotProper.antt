-- No. 8: past the other refusals it is given exactly if the change is not proper.
--
--   polynomial-improper, pair-improper, undo_improper     of a change of a polynomial, of a pair, and of undoing
--   combine_improper                                      of combining, where both must be proper
use mathlib.Core.Path.{◌≡◌, ap}
use mathlib.Core.Logic.{◌↔◌}
use mathlib.Core.List.{List}
use Prim.Native.Nat.{ℕ}
use Rattle.refusal.specs.Refusal.{Answered}
use Rattle.refusal.proofs.Outcomes.{never}
use Rattle.polynomial.specs.Moduli.{check_modulus}
use Rattle.polynomial.specs.Checks.{check_one, check_pair}
use Rattle.polynomial.specs.Answers.{nothing, no_parts}
use Rattle.polynomial.specs.Answers.{Answer}
use Rattle.polynomial.specs.Answers.{Parts}
use Rattle.change.specs.declared.Change.{Change}
use Rattle.change.specs.Changing.{Made}
use Rattle.change.specs.Changing.{Proper, improper, Combines, Undoing, ChangesPolynomial, ChangesPair, refused, not_proper, first_improper, second_improper, combined, undone, changed}

module _ {m : ℕ} {c : Change} where
  pub polynomial-improper : {f : List ℕ} {x : Answer} → check_one m f ≡ Answered → ChangesPolynomial m f c x → (x.outcome ≡ improper) ↔ (Proper m c → ⊥)
  unfolding nothing
  polynomial-improper k (refused e q) = absurd (never e k)
  polynomial-improper k (not_proper e n q) = (λ z. n, λ z. ap (λ (x : Answer). x.outcome) q)
  polynomial-improper k (changed e p r d q) = (λ z. absurd (never z (ap (λ (x : Answer). x.outcome) q)), λ z. absurd (z p))

  pub pair-improper : {g h : List ℕ} {x : Parts} → check_pair m g h ≡ Answered → ChangesPair m g h c x → (x.outcome ≡ improper) ↔ (Proper m c → ⊥)
  unfolding no_parts
  pair-improper k (refused e q) = absurd (never e k)
  pair-improper k (not_proper e n q) = (λ z. n, λ z. ap (λ (x : Parts). x.outcome) q)
  pair-improper k (changed e p r s d q) = (λ z. absurd (never z (ap (λ (x : Parts). x.outcome) q)), λ z. absurd (z p))

  pub undo_improper : {x : Made} → check_modulus m ≡ Answered → Undoing m c x → (x.outcome ≡ improper) ↔ (Proper m c → ⊥)
  undo_improper k (refused e q) = absurd (never e k)
  undo_improper k (not_proper e n q) = (λ z. n, λ z. ap (λ (x : Made). x.outcome) q)
  undo_improper k (undone e p d q) = (λ z. absurd (never z (ap (λ (x : Made). x.outcome) q)), λ z. absurd (z p))

  pub combine_improper : {d : Change} {x : Made} → check_modulus m ≡ Answered → Combines m c d x → (x.outcome ≡ improper) ↔ (Proper m c → Proper m d → ⊥)
  combine_improper k (refused e q) = absurd (never e k)
  combine_improper k (first_improper e n q) = (λ z p r. n p, λ z. ap (λ (x : Made). x.outcome) q)
  combine_improper k (second_improper e p n q) = (λ z p r. n r, λ z. ap (λ (x : Made). x.outcome) q)
  combine_improper k (combined e p r q) = (λ z. absurd (never z (ap (λ (x : Made). x.outcome) q)), λ z. absurd (z p r))
