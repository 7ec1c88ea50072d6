-- The binomial theorem in any commutative ring, with `choose` by Pascal's rule.
--
--   choose_zero, choose-suc, choose-above, choose_one     Pascal's rule and what follows
--   binomial                              (y + t)^r is the sum of C(r, i)·y^(r-i)·t^i
--   power_at                              the coefficients of (1 + t)^r in series
use mathlib.Core.Path.{◌≡◌, refl, sym, ap, ap₂, ◌∙◌}
use Prim.Native.Nat.{ℕ, zero, suc, ◌+◌, ◌-◌, ◌≤◌, ◌<◌}
use native.Mathlib.Nat as N
use native.Mathlib.Omega.{arith}
use Rattle.algebra.proofs.Ring.{Ring, ring}
use Rattle.algebra.proofs.Sums.{sum, sum-suc, sum_zero, sum_ext, sum_last, mul-sum_in}
use Rattle.algebra.proofs.Evaluation.{nat, nat_zero, nat_one, nat_add, nat_series, pow, pow-zero, pow-suc}
use Rattle.algebra.proofs.Lines.{pow-one}
use Rattle.algebra.proofs.Ring as A
use Rattle.algebra.proofs.Series as S
use Rattle.algebra.specs.Number.{choose}

choose_zero : (j : ℕ) → choose j 0 ≡ 1
unfolding choose
choose_zero zero = refl
choose_zero (suc j) = refl

choose-suc : (j i : ℕ) → choose (suc j) (suc i) ≡ choose j i + choose j (suc i)
unfolding choose
choose-suc j i = refl

choose-above : (j i : ℕ) → j < i → choose j i ≡ 0
unfolding choose
choose-above j zero l = absurd (N.not-suc-le-zero l)
choose-above zero (suc i) l = refl
choose-above (suc j) (suc i) l = ap₂ ◌+◌ (choose-above j i (omega arith)) (choose-above j (suc i) (omega arith))

pub choose_one : (j : ℕ) → choose j 1 ≡ j
choose_one zero = choose-above 0 1 (omega arith)
choose_one (suc j) = choose-suc j 0 ∙ ap₂ ◌+◌ (choose_zero j) (choose_one j) ∙ N.suc-add 0 j ∙ ap suc (N.zero-add j)

module _ (R : Ring) where
  open R use {El, 𝟘, 𝟙, ◌⊕◌, ◌⊗◌, neg}

  four : (a b c d : El) → a ⊕ b ⊕ (c ⊕ d) ≡ a ⊕ c ⊕ (b ⊕ d)
  four a b c d = simp ring

  pub sum-add : (n : ℕ) (f g : ℕ → El) → sum R n (λ i. f i ⊕ g i) ≡ sum R n f ⊕ sum R n g
  sum-add zero f g = sum_zero R _ ∙ sym (ap₂ ◌⊕◌ (sum_zero R f) (sum_zero R g) ∙ A.add-zero R 𝟘)
  sum-add (suc n) f g = sum-suc R n _ ∙ ap (◌⊕◌ _) (sum-add n (λ i. f (suc i)) (λ i. g (suc i))) ∙ four (f 0) (g 0) _ _ ∙ sym (ap₂ ◌⊕◌ (sum-suc R n f) (sum-suc R n g))

  -- the term of y and t
  abbrev pub part : El → El → ℕ → ℕ → El
  part y t r i = nat R (choose r i) ⊗ (pow R y (r - i) ⊗ pow R t i)

  right_in : (y c p q : El) → y ⊗ (c ⊗ (p ⊗ q)) ≡ c ⊗ (y ⊗ p ⊗ q)
  right_in y c p q = simp ring

  left_in : (t c p q : El) → t ⊗ (c ⊗ (p ⊗ q)) ≡ c ⊗ (p ⊗ (t ⊗ q))
  left_in t c p q = simp ring

  y_part : (y t : El) (r i : ℕ) → i ≤ r → y ⊗ part y t r i ≡ nat R (choose r i) ⊗ (pow R y (suc r - i) ⊗ pow R t i)
  y_part y t r i l = right_in y _ _ _ ∙ ap (λ x. nat R (choose r i) ⊗ (x ⊗ pow R t i)) (sym (pow-suc R y (r - i)) ∙ ap (pow R y) (omega arith))

  t_part : (y t : El) (r i : ℕ) → t ⊗ part y t r i ≡ nat R (choose r i) ⊗ (pow R y (suc r - suc i) ⊗ pow R t (suc i))
  t_part y t r i = left_in t _ _ _ ∙ ap₂ (λ x z. nat R (choose r i) ⊗ (x ⊗ z)) (ap (pow R y) (sym (N.suc-sub-suc r i))) (sym (pow-suc R t i))

  next_part : (y t : El) (r i : ℕ) → part y t (suc r) (suc i) ≡ t ⊗ part y t r i ⊕ nat R (choose r (suc i)) ⊗ (pow R y (suc r - suc i) ⊗ pow R t (suc i))
  next_part y t r i = ap (λ x. x ⊗ (pow R y (suc r - suc i) ⊗ pow R t (suc i))) (ap (nat R) (choose-suc r i) ∙ nat_add R _ _)
      ∙ A.add-mul R _ _ _ ∙ ap (λ x. x ⊕ nat R (choose r (suc i)) ⊗ (pow R y (suc r - suc i) ⊗ pow R t (suc i))) (sym (t_part y t r i))

  turn : (a b c : El) → a ⊕ (b ⊕ c) ≡ a ⊕ c ⊕ b
  turn a b c = simp ring

  -- (y + t)^r is the sum of C(r, i) y^(r - i) t^i
  pub binomial : (y t : El) (r : ℕ) → pow R (y ⊕ t) r ≡ sum R (suc r) (part y t r)
  binomial y t zero = pow-zero R _ ∙ sym (sum-suc R 0 _ ∙ ap (◌⊕◌ _) (sum_zero R _) ∙ A.add-zero R _
      ∙ ap₂ ◌⊗◌ (ap (nat R) (choose_zero 0) ∙ nat_one R) (ap₂ ◌⊗◌ (pow-zero R y) (pow-zero R t)) ∙ A.one-mul R _ ∙ A.one-mul R 𝟙)
  binomial y t (suc r) = pow-suc R _ r ∙ ap (◌⊗◌ (y ⊕ t)) (binomial y t r) ∙ A.add-mul R y t _ ∙ ap₂ ◌⊕◌ ys ts ∙ sym whole
    where
      top : ℕ → El
      top i = nat R (choose r i) ⊗ (pow R y (suc r - i) ⊗ pow R t i)

      last : top (suc r) ≡ 𝟘
      last = ap (λ x. x ⊗ (pow R y (suc r - suc r) ⊗ pow R t (suc r))) (ap (nat R) (choose-above r (suc r) (omega arith)) ∙ nat_zero R) ∙ A.zero-mul R _

      ys : y ⊗ sum R (suc r) (part y t r) ≡ top 0 ⊕ sum R (suc r) (λ i. top (suc i))
      ys = mul-sum_in R y (suc r) _ ∙ sum_ext R (suc r) _ top (λ i l. y_part y t r i (omega arith))
          ∙ sym (A.add-zero R _) ∙ ap (◌⊕◌ (sum R (suc r) top)) (sym last) ∙ sym (sum_last R (suc r) top) ∙ sum-suc R (suc r) top

      ts : t ⊗ sum R (suc r) (part y t r) ≡ sum R (suc r) (λ i. t ⊗ part y t r i)
      ts = mul-sum_in R t (suc r) _

      first : part y t (suc r) 0 ≡ top 0
      first = ap (λ x. x ⊗ (pow R y (suc r - 0) ⊗ pow R t 0)) (ap (nat R) (choose_zero (suc r) ∙ sym (choose_zero r)))

      whole : sum R (suc (suc r)) (part y t (suc r)) ≡ top 0 ⊕ sum R (suc r) (λ i. top (suc i)) ⊕ sum R (suc r) (λ i. t ⊗ part y t r i)
      whole = sum-suc R (suc r) _ ∙ ap₂ ◌⊕◌ first (sum_ext R (suc r) _ _ (λ i l. next_part y t r i) ∙ sum-add (suc r) _ _) ∙ turn _ _ _

module _ (R : Ring) where
  open R use {El, 𝟘, 𝟙, ◌⊕◌, ◌⊗◌, neg}
  open S.series R use {◌⊕◌ as ◌⊞◌, ◌⊗◌ as ◌⊠◌, 𝟙 as unit}

  infixl 65 ◌⊞◌
  infixl 70 ◌⊠◌
  pub sum-at : (n : ℕ) (f : ℕ → S.Series R) (k : ℕ) → sum (S.series R) n f k ≡ sum R n (λ i. f i k)
  unfolding S.◌⊞◌
  sum-at zero f k = ap (λ (p : S.Series R). p k) (sum_zero (S.series R) f) ∙ sym (sum_zero R _)
  sum-at (suc n) f k = ap (λ (p : S.Series R). p k) (sum-suc (S.series R) n f) ∙ ap (◌⊕◌ (f 0 k)) (sum-at n (λ i. f (suc i)) k) ∙ sym (sum-suc R n _)

  -- the coefficients of (1 + t)^r
  pub power_at : (t : S.Series R) (r k : ℕ) → pow (S.series R) (unit ⊞ t) r k ≡ sum R (suc r) (λ i. nat R (choose r i) ⊗ pow (S.series R) t i k)
  power_at t r k = ap (λ (p : S.Series R). p k) (binomial (S.series R) unit t r) ∙ sum-at (suc r) _ k ∙ sum_ext R (suc r) _ _ (λ i l. place i)
    where
      place : (i : ℕ) → part (S.series R) unit t r i k ≡ nat R (choose r i) ⊗ pow (S.series R) t i k
      place i = ap (λ (p : S.Series R). p k) (ap₂ ◌⊠◌ (nat_series R (choose r i)) (ap (λ (p : S.Series R). p ⊠ pow (S.series R) t i) (pow-one (S.series R) (r - i)) ∙ A.one-mul (S.series R) _))
          ∙ S.const_mul-at R _ _ k
