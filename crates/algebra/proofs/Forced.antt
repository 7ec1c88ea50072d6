-- The right part of a composition is forced (document 000, section 3), in series over any ring.
--
--   quot, pow_diff                        (y + d)^n = y^n + d·Q
--   monic-pow, lead_quot                  Q's top coefficient is n
--   compose-lead, lead-at                 the leading terms of g(h) are those of h^r
--   pow-top                               01's step: how the place j + (r-1)s of h^r knows h's coefficient of x^j
--   right-forced                          with r invertible and h(0) = 0 the leading terms tell h
use mathlib.Core.Path.{◌≡◌, refl, sym, ap, subst, ◌∙◌}
use Prim.Native.Nat.{ℕ, zero, suc, ◌+◌, ◌*◌, ◌<◌}
use native.Mathlib.Nat as N
use native.Mathlib.Omega.{arith}
use Rattle.algebra.proofs.Ring.{Ring, ring}
use Rattle.algebra.proofs.Evaluation.{nat, nat_suc, nat_one, pow, pow-zero, pow-suc}
use Rattle.algebra.proofs.Degrees.{Deg, Lead, Monic, deg-add, deg_neg, deg-mul, deg_mono, deg_const, deg_zero, deg-down, top-mul, lead-mul, lead-add, compose, compose-suc, compose_zero}
use Rattle.algebra.proofs.Ring as A
use Rattle.algebra.proofs.Series as S

-- in any ring: (y + d)^n = y^n + d Q
module _ (R : Ring) where
  open R use {El, 𝟘, 𝟙, ◌⊕◌, ◌⊗◌, neg}

  -- the sum of x^i y^j over i + j + 1 = n
  unfoldable pub quot : El → El → ℕ → El
  quot x y zero = 𝟘
  quot x y (suc n) = pow R x n ⊕ y ⊗ quot x y n

  pub quot_suc : (x y : El) (n : ℕ) → quot x y (suc n) ≡ pow R x n ⊕ y ⊗ quot x y n
  unfolding quot
  quot_suc x y n = refl

  pub quot_one : (x y : El) → quot x y 1 ≡ 𝟙
  unfolding quot
  quot_one x y = simp (pow-zero, ring)

  one_up : (c h : El) → c ⊕ h ⊗ (𝟙 ⊕ h ⊗ 𝟘) ≡ h ⊗ 𝟙 ⊕ c
  one_up c h = simp ring

  next_up : (c h P l : El) → c ⊕ h ⊗ (P ⊕ l) ≡ h ⊗ P ⊕ (c ⊕ h ⊗ l)
  next_up c h P l = simp ring

  step : (y d P Q T : El) → T ≡ P ⊕ d ⊗ Q → (y ⊕ d) ⊗ T ≡ y ⊗ P ⊕ d ⊗ (T ⊕ y ⊗ Q)
  step y d P Q T e = A.add-mul R y d T ∙ ap (λ x. y ⊗ x ⊕ d ⊗ T) e ∙ simp ring

  pub pow_diff : (y d : El) (n : ℕ) → pow R (y ⊕ d) n ≡ pow R y n ⊕ d ⊗ quot (y ⊕ d) y n
  unfolding quot
  pow_diff y d zero = simp (pow-zero, ring)
  pow_diff y d (suc n) = pow-suc R (y ⊕ d) n ∙ step y d (pow R y n) (quot (y ⊕ d) y n) (pow R (y ⊕ d) n) (pow_diff y d n)
      ∙ rw (pow-suc R y n)

module _ (R : Ring) where
  open R use {El, 𝟘, 𝟙, ◌⊕◌, ◌⊗◌, neg}
  open S.series R use {◌⊕◌ as ◌⊞◌, ◌⊗◌ as ◌⊠◌, neg as sneg, 𝟘 as nought, 𝟙 as unit}

  infixl 65 ◌⊞◌
  infixl 70 ◌⊠◌
  pub monic-unit : Monic R 0 unit
  unfolding S.const
  monic-unit = record { deg = deg_const R 0 𝟙; top = refl }

  pub monic-mul : {a b : ℕ} {p q : S.Series R} → Monic R a p → Monic R b q → Monic R (a + b) (p ⊠ q)
  monic-mul {a} {b} {p} {q} l k = subst (λ c. Lead R (a + b) c (p ⊠ q)) (A.one-mul R 𝟙) (lead-mul R l k)

  pub monic-pow : {s : ℕ} {h : S.Series R} → Monic R s h → (n : ℕ) → Monic R (n * s) (pow (S.series R) h n)
  monic-pow {s} {h} m zero = rw (N.zero-mul s, pow-zero (S.series R) h) monic-unit
  monic-pow {s} {h} m (suc n) = rw (N.suc-mul n s, N.add_comm (n * s) s, pow-suc (S.series R) h n) (monic-mul m (monic-pow m n))

  pub lead_quot : {s : ℕ} {x y : S.Series R} → Monic R s x → Monic R s y → (r : ℕ) → Lead R (r * s) (nat R (suc r)) (quot (S.series R) x y (suc r))
  lead_quot {s} {x} {y} mx my zero = rw (N.zero-mul s, quot_one (S.series R) x y, nat_one R) monic-unit
  lead_quot {s} {x} {y} mx my (suc r) = rw (quot_suc (S.series R) x y (suc r), nat_suc R (suc r)) (lead-add R (monic-pow mx (suc r)) (rw (N.suc-mul r s, N.add_comm (r * s) s, ← A.one-mul R (nat R (suc r))) (lead-mul R my (lead_quot mx my r))))

  -- g ∘ h with g monic is h^r and what has a degree lower by that of h
  pub compose-lead : {s : ℕ} {h : S.Series R} → Deg R s h → (r : ℕ) (g : S.Series R) → g (suc r) ≡ 𝟙
      → (l : S.Series R) × (compose R (suc (suc r)) g h ≡ pow (S.series R) h (suc r) ⊞ l) × Deg R (r * s) l
  compose-lead {s} {h} d zero g t = (S.const R (g 0), rw (compose-suc R 1 g h, compose-suc R 0 (S.tl R g) h, compose_zero R _ h, t, pow-suc (S.series R) h 0, pow-zero (S.series R) h) (one_up (S.series R) (S.const R (g 0)) h), deg_const R _ (g 0))
  compose-lead {s} {h} d (suc r) g t = go (compose-lead d r (S.tl R g) t)
    where
      go : (l : S.Series R) × (compose R (suc (suc r)) (S.tl R g) h ≡ pow (S.series R) h (suc r) ⊞ l) × Deg R (r * s) l
          → (l : S.Series R) × (compose R (suc (suc (suc r))) g h ≡ pow (S.series R) h (suc (suc r)) ⊞ l) × Deg R (suc r * s) l
      go (l, e, b) = (S.const R (g 0) ⊞ h ⊠ l, rw (compose-suc R (suc (suc r)) g h, e, pow-suc (S.series R) h (suc r)) (next_up (S.series R) (S.const R (g 0)) h _ l), deg-add R (deg_const R _ (g 0)) (deg_mono R (omega arith) (deg-mul R d b)))

  pub lead-at : {s : ℕ} {h : S.Series R} → Deg R s h → (r : ℕ) (g : S.Series R) → g (suc r) ≡ 𝟙
      → (i : ℕ) → r * s < i → compose R (suc (suc r)) g h i ≡ pow (S.series R) h (suc r) i
  unfolding S.◌⊞◌
  lead-at d r g t i l = let (p, e, b) = compose-lead d r g t in ap (λ (p : S.Series R). p i) e ∙ ap (◌⊕◌ _) (b.above i l) ∙ A.add-zero R _

  -- Kozen and Landau's step: the place j + r s of h^(r+1), where h = k + d and the degree of d is at most j
  pub pow-top : {s j : ℕ} {h k d : S.Series R} → Monic R s h → Monic R s k → (r : ℕ) → h ≡ k ⊞ d → Deg R j d
      → pow (S.series R) h (suc r) (j + r * s) ≡ pow (S.series R) k (suc r) (j + r * s) ⊕ d j ⊗ nat R (suc r)
  unfolding S.◌⊞◌
  pow-top {s} {j} {h} {k} {d} mh mk r split b = ap (λ (p : S.Series R). p (j + r * s)) spread
      ∙ ap (◌⊕◌ _) (top-mul R j b (lead_quot mh mk r).deg ∙ ap (◌⊗◌ (d j)) (lead_quot mh mk r).top)
    where
      spread : pow (S.series R) h (suc r) ≡ pow (S.series R) k (suc r) ⊞ d ⊠ quot (S.series R) h k (suc r)
      spread = subst (λ x. pow (S.series R) x (suc r) ≡ pow (S.series R) k (suc r) ⊞ d ⊠ quot (S.series R) x k (suc r)) (sym split) (pow_diff (S.series R) k d (suc r))

  module _ {s : ℕ} {h k : S.Series R} (mh : Monic R s h) (mk : Monic R s k) (r : ℕ) (u : El) (inv : u ⊗ nat R (suc r) ≡ 𝟙)
      (f g : S.Series R) (tf : f (suc r) ≡ 𝟙) (tg : g (suc r) ≡ 𝟙)
      (e : (i : ℕ) → r * s < i → compose R (suc (suc r)) f h i ≡ compose R (suc (suc r)) g k i) where
    -- past the degree of what is below h^r, the two powers agree
    powers : (i : ℕ) → r * s < i → pow (S.series R) h (suc r) i ≡ pow (S.series R) k (suc r) i
    powers i l = sym (lead-at mh.deg r f tf i l) ∙ e i l ∙ lead-at mk.deg r g tg i l

    top_zero : (j : ℕ) → Deg R (suc j) (h ⊞ sneg k) → (h ⊞ sneg k) (suc j) ≡ 𝟘
    top_zero j b = A.unit_kill R inv (A.cancel R _ (sym (pow-top mh mk r (sym (A.add-sub (S.series R) h k)) b) ∙ powers (suc j + r * s) (omega arith) ∙ sym (A.add-zero R _)))

    pub right-forced : h 0 ≡ 𝟘 → k 0 ≡ 𝟘 → h ≡ k
    unfolding S.◌⊞◌ S.sneg
    right-forced zh zk = A.eq_of_sub (S.series R) (deg_zero R (deg-down R top_zero s (deg-add R mh.deg (deg_neg R mk.deg))) (A.sub_self R (zh ∙ sym zk)))
