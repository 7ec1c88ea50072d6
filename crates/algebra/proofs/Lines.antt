-- Composition with a line a·x + b, in series: h(a·x + b) = h(b) + a^s·h' with h' monic and h'(0) = 0.
--
--   pow-mul, pow-one                      powers of a product and of 1
--   lead-compose                          degree and top of a composition
--   eval-at_zero                          the constant term of a value
--   normalise                             what has an invertible top is a constant and a multiple of a monic series without one
use mathlib.Core.Path.{◌≡◌, refl, sym, ap, ap₂, subst₂, ◌∙◌}
use mathlib.Core.List.{List, [], ◌∷◌}
use Prim.Native.Nat.{ℕ, zero, suc, ◌*◌, ◌<◌}
use native.Mathlib.Nat as N
use native.Mathlib.Omega.{arith}
use Rattle.algebra.proofs.Ring.{Ring, ring}
use Rattle.algebra.proofs.Evaluation.{nat_series, pow, pow-zero, pow-suc, eval, eval_nil, eval_cons}
use Rattle.algebra.proofs.Degrees.{Lead, Monic, deg_neg, deg_const, lead-mul, lead-add, compose, compose-suc, compose_zero}
use Rattle.algebra.proofs.Ring as A
use Rattle.algebra.proofs.Series as S

module _ (R : Ring) where
  open R use {El, 𝟘, 𝟙, ◌⊕◌, ◌⊗◌, neg}

  pub pow-mul : (a b : El) (n : ℕ) → pow R (a ⊗ b) n ≡ pow R a n ⊗ pow R b n
  pow-mul a b zero = simp (pow-zero, ring)
  pow-mul a b (suc n) = step (pow-mul a b n)
    where
      step : pow R (a ⊗ b) n ≡ pow R a n ⊗ pow R b n → pow R (a ⊗ b) (suc n) ≡ pow R a (suc n) ⊗ pow R b (suc n)
      step ih = simp (pow-suc, ih, ring)

  pub pow-one : (n : ℕ) → pow R 𝟙 n ≡ 𝟙
  pow-one zero = pow-zero R 𝟙
  pow-one (suc n) = pow-suc R 𝟙 n ∙ A.one-mul R _ ∙ pow-one n

  shuffle : (g c t : El) → c ⊗ (g ⊗ t) ≡ g ⊗ (c ⊗ t)
  shuffle g c t = simp ring

  first : (a h z : El) → a ⊕ h ⊗ 𝟘 ≡ a
  first a h z = simp ring

  -- a = c + U A (a - c)
  spread : (a c u v : El) → v ⊗ u ≡ 𝟙 → c ⊕ v ⊗ (u ⊗ (a ⊕ neg c)) ≡ a
  spread a c u v e = ap (◌⊕◌ c) (sym (A.mul_assoc R v u _) ∙ ap (λ x. x ⊗ (a ⊕ neg c)) e ∙ A.one-mul R _) ∙ A.add-sub R a c

module _ (R : Ring) where
  open R use {El, 𝟘, 𝟙, ◌⊕◌, ◌⊗◌, neg}
  open S.series R use {◌⊕◌ as ◌⊞◌, ◌⊗◌ as ◌⊠◌, neg as sneg, 𝟘 as nought, 𝟙 as unit}

  infixl 65 ◌⊞◌
  infixl 70 ◌⊠◌
  pub lead_const : (n : ℕ) (a : El) → 0 < n → Lead R n 𝟘 (S.const R a)
  lead_const n a h = record { deg = deg_const R n a; top = (deg_const R 0 a).above n h }

  pub lead-compose : {s : ℕ} {c : El} {h : S.Series R} → Lead R s c h → 0 < s → (n : ℕ) (g : S.Series R)
      → Lead R (n * s) (g n ⊗ pow R c n) (compose R (suc n) g h)
  unfolding S.const
  lead-compose {s} {c} {h} l pos zero g = rw (compose-suc R 0 g h, compose_zero R (S.tl R g) h, first (S.series R) (S.const R (g 0)) h h, N.zero-mul s, pow-zero R c, A.mul-one R (g 0)) (record { deg = deg_const R 0 (g 0); top = refl })
  lead-compose {s} {c} {h} l pos (suc n) g = rw (compose-suc R (suc n) g h, ← A.zero-add R (g (suc n) ⊗ pow R c (suc n)), pow-suc R c n, ← shuffle R (g (suc n)) c (pow R c n))
      (lead-add R (lead_const _ _ (omega (arith, pos))) (rw (N.suc-mul n s, N.add_comm (n * s) s) (lead-mul R l (lead-compose l pos n (S.tl R g)))))

  -- the constant term of a value
  pub eval-at_zero : (p : List ℕ) (h : S.Series R) → eval (S.series R) p h 0 ≡ eval R p (h 0)
  unfolding S.◌⊞◌ S.const
  eval-at_zero [] h = ap (λ (s : S.Series R). s 0) (eval_nil (S.series R) h) ∙ sym (eval_nil R (h 0))
  eval-at_zero (a ∷ p) h = ap (λ (s : S.Series R). s 0) (eval_cons (S.series R) a p h)
      ∙ ap₂ ◌⊕◌ (ap (λ (s : S.Series R). s 0) (nat_series R a)) (S.mul-at_zero R h _ ∙ ap (◌⊗◌ (h 0)) (eval-at_zero p h)) ∙ sym (eval_cons R a p (h 0))

  -- what has an inverse at its top is a constant and a multiple of a monic polynomial without a constant term
  pub normalise : {s : ℕ} {a u : El} {h : S.Series R} → Lead R s a h → 0 < s → u ⊗ a ≡ 𝟙
      → (k : S.Series R) × Monic R s k × (k 0 ≡ 𝟘) × (h ≡ S.const R (h 0) ⊞ S.const R a ⊠ k)
  unfolding S.◌⊞◌ S.const S.sneg
  normalise {s} {a} {u} {h} l pos e = (
    k,
    subst₂ (λ n c. Lead R n c k) (N.zero-add s) (ap (◌⊗◌ u) (A.add-zero R a) ∙ e)
        (lead-mul R (record { deg = deg_const R 0 u; top = refl }) (lead-add R l (record { deg = deg_neg R (deg_const R s (h 0)); top = ap neg (lead_const s (h 0) pos).top ∙ A.neg_zero R }))),
    S.const_mul-at R u _ 0 ∙ ap (◌⊗◌ u) (A.add_neg R (h 0)) ∙ A.mul-zero R u,
    sym (spread (S.series R) h (S.const R (h 0)) (S.const R u) (S.const R a) (S.const_mul R a u ∙ ap (S.const R) (A.mul_comm R a u ∙ e))),
  )
    where
      k : S.Series R
      k = S.const R u ⊠ (h ⊞ sneg (S.const R (h 0)))
