-- Finite sums in a ring, and a product's coefficient as a sum.
--
--   sum n f                     f 0 + .. + f (n - 1)
--   sum-suc, sum_zero, sum_ext, sum_last, mul-sum_in     its laws
--   mul-sum                     the coefficient of x^k of a product
use mathlib.Core.Path.{◌≡◌, refl, sym, ap, ap₂, ◌∙◌}
use Prim.Native.Nat.{ℕ, zero, suc, ◌-◌, ◌<◌}
use native.Mathlib.Nat as N
use native.Mathlib.Omega.{arith}
use Rattle.algebra.proofs.Ring.{Ring}
use Rattle.algebra.proofs.Ring as A
use Rattle.algebra.proofs.Series as S

module _ (R : Ring) where
  open R use {El, 𝟘, 𝟙, ◌⊕◌, ◌⊗◌, neg}

  -- f 0 + .. + f (n - 1)
  unfoldable pub sum : ℕ → (ℕ → El) → El
  sum zero f = 𝟘
  sum (suc n) f = f 0 ⊕ sum n (λ i. f (suc i))

  pub sum-suc : (n : ℕ) (f : ℕ → El) → sum (suc n) f ≡ f 0 ⊕ sum n (λ i. f (suc i))
  unfolding sum
  sum-suc n f = refl

  pub sum_zero : (f : ℕ → El) → sum 0 f ≡ 𝟘
  unfolding sum
  sum_zero f = refl

  pub sum_ext : (n : ℕ) (f g : ℕ → El) → ((i : ℕ) → i < n → f i ≡ g i) → sum n f ≡ sum n g
  unfolding sum
  sum_ext zero f g e = refl
  sum_ext (suc n) f g e = ap₂ ◌⊕◌ (e 0 (omega arith)) (sum_ext n _ _ (λ i l. e (suc i) (omega arith)))

  -- taken apart at the other end, as a loop adds
  pub sum_last : (n : ℕ) (f : ℕ → El) → sum (suc n) f ≡ sum n f ⊕ f n
  sum_last zero f = sum-suc 0 f ∙ ap (◌⊕◌ (f 0)) (sum_zero _) ∙ A.add-zero R (f 0) ∙ sym (ap (λ x. x ⊕ f 0) (sum_zero f) ∙ A.zero-add R (f 0))
  sum_last (suc n) f = sum-suc (suc n) f ∙ ap (◌⊕◌ (f 0)) (sum_last n (λ i. f (suc i))) ∙ sym (A.add_assoc R _ _ _) ∙ ap (λ x. x ⊕ f (suc n)) (sym (sum-suc n f))

  -- the coefficient of x^k of a product
  pub mul-sum : (p q : ℕ → El) (k : ℕ) → S.◌⊠◌ R p q k ≡ sum (suc k) (λ i. p i ⊗ q (k - i))
  mul-sum p q zero = S.mul-at_zero R p q ∙ sym (sum-suc 0 _ ∙ ap₂ ◌⊕◌ (ap (λ (j : ℕ). p 0 ⊗ q j) (N.sub-zero 0)) (sum_zero _) ∙ A.add-zero R _)
  mul-sum p q (suc k) = S.mul-at-suc R p q k ∙ ap₂ ◌⊕◌ (ap (λ (j : ℕ). p 0 ⊗ q j) (sym (N.sub-zero (suc k)))) (mul-sum (S.tl R p) q k ∙ sum_ext (suc k) _ _ (λ i l. ap (λ (j : ℕ). p (suc i) ⊗ q j) (sym (N.suc-sub-suc k i)))) ∙ sym (sum-suc (suc k) _)

  pub mul-sum_in : (a : El) (n : ℕ) (f : ℕ → El) → a ⊗ sum n f ≡ sum n (λ i. a ⊗ f i)
  mul-sum_in a zero f = ap (◌⊗◌ a) (sum_zero f) ∙ A.mul-zero R a ∙ sym (sum_zero _)
  mul-sum_in a (suc n) f = ap (◌⊗◌ a) (sum-suc n f) ∙ A.mul-add R a _ _ ∙ ap (◌⊕◌ (a ⊗ f 0)) (mul-sum_in a n _) ∙ sym (sum-suc n _)
