-- Polynomials read from the top: the powers of h = x^s + t from those of t.
--
--   rev n p                               p, of degree at most n, read from the top
--   rev_mul, rev_pow, rev_at, rev_past    products and powers may be taken before or after that
--   top-power                             the coefficient of x^(rs-k) in h^r is the sum of C(r, i) times place k of t^i
--   order-pow                             t^i has no place below i
--   row_step                              place k of t^(i+1) from the places of t^i
use mathlib.Core.Path.{◌≡◌, refl, sym, ap, ap₂, ◌∙◌, fun_ext}
use Prim.Native.Nat.{ℕ, zero, suc, ◌+◌, ◌*◌, ◌-◌, ◌≤◌, ◌<◌}
use native.Mathlib.Nat as N
use native.Mathlib.Omega.{arith}
use native.Mathlib.Decide.{dec_lt}
use Rattle.algebra.proofs.Ring.{Ring, ring}
use Rattle.algebra.proofs.Sums.{sum, sum-suc, sum_last, mul-sum}
use Rattle.algebra.proofs.Evaluation.{nat, pow, pow-zero, pow-suc}
use Rattle.algebra.proofs.Degrees.{Deg, Monic, deg_tl, deg_zero_mul}
use Rattle.algebra.proofs.Forced.{monic-pow}
use Rattle.algebra.proofs.Binomials.{power_at}
use Rattle.algebra.proofs.Ring as A
use Rattle.algebra.proofs.Series as S
use Rattle.algebra.specs.Number.{choose}

-- steps that hold in any ring
module _ (R : Ring) where
  open R use {El, 𝟘, 𝟙, ◌⊕◌, ◌⊗◌, neg}

  one-first : (a x c : El) → a ⊕ x ⊗ c ≡ c ⊗ (x ⊗ 𝟙) ⊕ a
  one-first a x c = simp ring

  next_first : (a x c P w : El) → a ⊕ x ⊗ (c ⊗ P ⊕ w) ≡ c ⊗ (x ⊗ P) ⊕ (a ⊕ x ⊗ w)
  next_first a x c P w = simp ring

  scaled : (c a x w : El) → c ⊗ a ⊕ x ⊗ (c ⊗ w) ≡ c ⊗ (a ⊕ x ⊗ w)
  scaled c a x w = simp ring

  added : (a b x u w : El) → a ⊕ b ⊕ x ⊗ (u ⊕ w) ≡ a ⊕ x ⊗ u ⊕ (b ⊕ x ⊗ w)
  added a b x u w = simp ring

  joined : (c P w q : El) → c ⊗ (P ⊗ q) ⊕ w ⊗ q ≡ (c ⊗ P ⊕ w) ⊗ q
  joined c P w q = simp ring

  spread : (c x t q : El) → (c ⊕ x ⊗ t) ⊗ q ≡ c ⊗ q ⊕ x ⊗ (t ⊗ q)
  spread c x t q = simp ring

  null : (P w : El) → 𝟘 ⊗ P ⊕ w ≡ w
  null P w = simp ring

  pub sum_clip : (n d : ℕ) (f : ℕ → El) → ((j : ℕ) → n ≤ j → j < n + d → f j ≡ 𝟘) → sum R (n + d) f ≡ sum R n f
  sum_clip n zero f z = ap (λ (k : ℕ). sum R k f) (N.add-zero n)
  sum_clip n (suc d) f z = ap (λ (k : ℕ). sum R k f) (N.add-suc n d) ∙ sum_last R (n + d) f ∙ ap₂ ◌⊕◌ (sum_clip n d f (λ j l h. z j l (omega arith))) (z (n + d) (omega arith) (omega arith)) ∙ A.add-zero R _

module _ (R : Ring) where
  open R use {El, 𝟘, 𝟙, ◌⊕◌, ◌⊗◌, neg}
  open S.series R use {◌⊕◌ as ◌⊞◌, ◌⊗◌ as ◌⊠◌, neg as sneg, 𝟘 as nought, 𝟙 as unit}

  infixl 65 ◌⊞◌
  infixl 70 ◌⊠◌
  X : S.Series R
  X = S.X R

  -- place k is the place n - k of p
  unfoldable pub rev : ℕ → S.Series R → S.Series R
  rev zero p = S.const R (p 0)
  rev (suc n) p = S.const R (p (suc n)) ⊞ S.X R ⊠ rev n p

  rev_zero : (p : S.Series R) → rev 0 p ≡ S.const R (p 0)
  unfolding rev
  rev_zero p = refl

  rev_suc : (n : ℕ) (p : S.Series R) → rev (suc n) p ≡ S.const R (p (suc n)) ⊞ S.X R ⊠ rev n p
  unfolding rev
  rev_suc n p = refl

  rev_first : (n : ℕ) (p : S.Series R) → rev (suc n) p ≡ S.const R (p 0) ⊠ pow (S.series R) (S.X R) (suc n) ⊞ rev n (S.tl R p)
  rev_first zero p = rw (rev_suc 0 p, rev_zero p, rev_zero (S.tl R p), pow-suc (S.series R) (S.X R) 0, pow-zero (S.series R) (S.X R)) (one-first (S.series R) (S.const R (p 1)) (S.X R) (S.const R (p 0)))
  rev_first (suc n) p = rev_suc (suc n) p ∙ ap (λ (w : S.Series R). S.const R (p (suc (suc n))) ⊞ S.X R ⊠ w) (rev_first n p)
      ∙ next_first (S.series R) _ (S.X R) (S.const R (p 0)) (pow (S.series R) (S.X R) (suc n)) (rev n (S.tl R p))
      ∙ sym (ap₂ (λ (u w : S.Series R). S.const R (p 0) ⊠ u ⊞ w) (pow-suc (S.series R) (S.X R) (suc n)) (rev_suc n (S.tl R p)))

  rev_scale : (c : El) (n : ℕ) (p : S.Series R) → rev n (S.const R c ⊠ p) ≡ S.const R c ⊠ rev n p
  rev_scale c zero p = rev_zero _ ∙ ap (S.const R) (S.const_mul-at R c p 0) ∙ sym (ap (◌⊠◌ (S.const R c)) (rev_zero p) ∙ S.const_mul R c (p 0))
  rev_scale c (suc n) p = rev_suc n _ ∙ ap₂ (λ (u w : S.Series R). u ⊞ S.X R ⊠ w) (ap (S.const R) (S.const_mul-at R c p (suc n)) ∙ sym (S.const_mul R c (p (suc n)))) (rev_scale c n p)
      ∙ scaled (S.series R) (S.const R c) (S.const R (p (suc n))) (S.X R) (rev n p) ∙ ap (◌⊠◌ (S.const R c)) (sym (rev_suc n p))

  rev_add : (n : ℕ) (p q : S.Series R) → rev n (p ⊞ q) ≡ rev n p ⊞ rev n q
  unfolding S.◌⊞◌
  rev_add zero p q = rev_zero _ ∙ S.const_add R (p 0) (q 0) ∙ sym (ap₂ ◌⊞◌ (rev_zero p) (rev_zero q))
  rev_add (suc n) p q = rev_suc n _ ∙ ap₂ (λ (u w : S.Series R). u ⊞ S.X R ⊠ w) (S.const_add R (p (suc n)) (q (suc n))) (rev_add n p q)
      ∙ added (S.series R) (S.const R (p (suc n))) (S.const R (q (suc n))) (S.X R) (rev n p) (rev n q) ∙ sym (ap₂ ◌⊞◌ (rev_suc n p) (rev_suc n q))

  -- multiplied by x, and a degree higher
  rev_X : (n : ℕ) (w : S.Series R) → rev (suc n) (S.X R ⊠ w) ≡ rev n w
  rev_X n w = rev_first n _ ∙ ap₂ (λ (c : El) (u : S.Series R). S.const R c ⊠ pow (S.series R) (S.X R) (suc n) ⊞ rev n u) (S.X_mul_zero R w) (fun_ext (λ k. S.X_mul-suc R w k))
      ∙ ap (λ (u : S.Series R). u ⊠ pow (S.series R) (S.X R) (suc n) ⊞ rev n w) (S.const_zero R) ∙ null (S.series R) (pow (S.series R) (S.X R) (suc n)) (rev n w)

  -- taken for a degree higher by n than it has
  rev_up : (n : ℕ) {b : ℕ} {q : S.Series R} → Deg R b q → rev (n + b) q ≡ pow (S.series R) (S.X R) n ⊠ rev b q
  rev_up zero {b} {q} d = ap (λ (k : ℕ). rev k q) (N.zero-add b) ∙ sym (ap (λ (u : S.Series R). u ⊠ rev b q) (pow-zero (S.series R) (S.X R)) ∙ A.one-mul (S.series R) _)
  rev_up (suc n) {b} {q} d = ap (λ (k : ℕ). rev k q) (N.suc-add n b) ∙ rev_suc (n + b) q
      ∙ ap₂ (λ (c : El) (w : S.Series R). S.const R c ⊞ S.X R ⊠ w) (d.above (suc (n + b)) (omega arith)) (rev_up n d)
      ∙ ap (λ (u : S.Series R). u ⊞ S.X R ⊠ (pow (S.series R) (S.X R) n ⊠ rev b q)) (S.const_zero R) ∙ A.zero-add (S.series R) _
      ∙ sym (ap (λ (u : S.Series R). u ⊠ rev b q) (pow-suc (S.series R) (S.X R) n) ∙ A.mul_assoc (S.series R) _ _ _)

  uncons : (p : S.Series R) → p ≡ S.const R (p 0) ⊞ S.X R ⊠ S.tl R p
  unfolding S.◌⊞◌ S.const
  uncons p = fun_ext go
    where
      go : (k : ℕ) → p k ≡ S.const R (p 0) k ⊕ (S.X R ⊠ S.tl R p) k
      go zero = sym (ap (◌⊕◌ (p 0)) (S.X_mul_zero R (S.tl R p)) ∙ A.add-zero R (p 0))
      go (suc k) = sym (ap (◌⊕◌ 𝟘) (S.X_mul-suc R (S.tl R p) k) ∙ A.zero-add R _)

  pub rev_mul : (a : ℕ) {b : ℕ} {p q : S.Series R} → Deg R a p → Deg R b q → rev (a + b) (p ⊠ q) ≡ rev a p ⊠ rev b q
  rev_mul zero {b} {p} {q} d e = ap₂ (λ (k : ℕ) (w : S.Series R). rev k w) (N.zero-add b) (fun_ext (λ k. deg_zero_mul R q d k ∙ sym (S.const_mul-at R (p 0) q k)))
      ∙ rev_scale (p 0) b q ∙ ap (λ (u : S.Series R). u ⊠ rev b q) (sym (rev_zero p))
  rev_mul (suc a) {b} {p} {q} d e = ap₂ (λ (k : ℕ) (w : S.Series R). rev k w) (N.suc-add a b) (ap (λ (u : S.Series R). u ⊠ q) (uncons p) ∙ spread (S.series R) (S.const R (p 0)) (S.X R) (S.tl R p) q)
      ∙ rev_add (suc (a + b)) _ _
      ∙ ap₂ ◌⊞◌ (rev_scale (p 0) (suc (a + b)) q ∙ ap (◌⊠◌ (S.const R (p 0))) (ap (λ (k : ℕ). rev k q) (sym (N.suc-add a b)) ∙ rev_up (suc a) e)) (rev_X (a + b) _ ∙ rev_mul a (deg_tl R d) e)
      ∙ joined (S.series R) (S.const R (p 0)) (pow (S.series R) (S.X R) (suc a)) (rev a (S.tl R p)) (rev b q)
      ∙ ap (λ (u : S.Series R). u ⊠ rev b q) (sym (rev_first a p))

  pub rev_at : (n : ℕ) (p : S.Series R) (k : ℕ) → k ≤ n → rev n p k ≡ p (n - k)
  unfolding S.◌⊞◌ S.const
  rev_at zero p zero l = ap (λ (w : S.Series R). w 0) (rev_zero p) ∙ ap p (omega arith)
  rev_at zero p (suc k) l = absurd (N.not-suc-le-zero l)
  rev_at (suc n) p zero l = ap (λ (w : S.Series R). w 0) (rev_suc n p) ∙ ap (◌⊕◌ (p (suc n))) (S.X_mul_zero R _) ∙ A.add-zero R _ ∙ ap p (omega arith)
  rev_at (suc n) p (suc k) l = ap (λ (w : S.Series R). w (suc k)) (rev_suc n p) ∙ ap (◌⊕◌ 𝟘) (S.X_mul-suc R _ k) ∙ A.zero-add R _ ∙ rev_at n p k (omega arith) ∙ ap p (omega arith)

  pub rev_past : (n : ℕ) (p : S.Series R) (k : ℕ) → n < k → rev n p k ≡ 𝟘
  unfolding S.◌⊞◌ S.const
  rev_past n p zero l = absurd (N.not-suc-le-zero l)
  rev_past zero p (suc k) l = ap (λ (w : S.Series R). w (suc k)) (rev_zero p)
  rev_past (suc n) p (suc k) l = ap (λ (w : S.Series R). w (suc k)) (rev_suc n p) ∙ ap (◌⊕◌ 𝟘) (S.X_mul-suc R _ k) ∙ A.zero-add R _ ∙ rev_past n p k (omega arith)

  pub rev_pow : {s : ℕ} {h : S.Series R} → Monic R s h → (r : ℕ) → rev (r * s) (pow (S.series R) h r) ≡ pow (S.series R) (rev s h) r
  unfolding S.const
  rev_pow {s} {h} m zero = ap₂ (λ (k : ℕ) (w : S.Series R). rev k w) (N.zero-mul s) (pow-zero (S.series R) h) ∙ rev_zero _ ∙ sym (pow-zero (S.series R) _)
  rev_pow {s} {h} m (suc r) = ap₂ (λ (k : ℕ) (w : S.Series R). rev k w) (N.suc-mul r s ∙ N.add_comm (r * s) s) (pow-suc (S.series R) h r)
      ∙ rev_mul s m.deg (monic-pow R m r).deg ∙ ap (◌⊠◌ (rev s h)) (rev_pow m r) ∙ sym (pow-suc (S.series R) _ r)

  -- the coefficient of x^(r s - k) of h^r, where t is h from the top without its leading 1
  pub top-power : {s : ℕ} {h t : S.Series R} → Monic R s h → t 0 ≡ 𝟘 → ((k : ℕ) → 0 < k → k ≤ s → t k ≡ h (s - k)) → ((k : ℕ) → s < k → t k ≡ 𝟘)
      → (r k : ℕ) → k ≤ r * s → pow (S.series R) h r (r * s - k) ≡ sum R (suc r) (λ i. nat R (choose r i) ⊗ pow (S.series R) t i k)
  unfolding S.◌⊞◌ S.const
  top-power {s} {h} {t} m z is past r k l = sym (rev_at (r * s) (pow (S.series R) h r) k l) ∙ ap (λ (w : S.Series R). w k) (rev_pow m r ∙ ap (λ (w : S.Series R). pow (S.series R) w r) (fun_ext go)) ∙ power_at R t r k
    where
      go : (j : ℕ) → rev s h j ≡ S.const R 𝟙 j ⊕ t j
      go zero = rev_at s h 0 (omega arith) ∙ ap h (N.sub-zero s) ∙ m.top ∙ sym (ap (◌⊕◌ 𝟙) z ∙ A.add-zero R 𝟙)
      go (suc j) = side (dec_lt s (suc j))
        where
          side : Dec (s < suc j) → rev s h (suc j) ≡ 𝟘 ⊕ t (suc j)
          side (yes g) = rev_past s h (suc j) g ∙ sym (ap (◌⊕◌ 𝟘) (past (suc j) g) ∙ A.zero-add R 𝟘)
          side (no g) = rev_at s h (suc j) (omega arith) ∙ sym (is (suc j) (omega arith) (omega arith)) ∙ sym (A.zero-add R _)

  -- a product has no place below i where its second factor has none
  pub order-mul : (i : ℕ) (p q : S.Series R) → ((k : ℕ) → k < i → q k ≡ 𝟘) → (k : ℕ) → k < i → (p ⊠ q) k ≡ 𝟘
  order-mul i p q z zero l = S.mul-at_zero R p q ∙ ap (◌⊗◌ (p 0)) (z 0 l) ∙ A.mul-zero R (p 0)
  order-mul i p q z (suc k) l = S.mul-at-suc R p q k ∙ ap₂ ◌⊕◌ (ap (◌⊗◌ (p 0)) (z (suc k) l) ∙ A.mul-zero R (p 0)) (order-mul i (S.tl R p) q z k (omega arith)) ∙ A.add-zero R 𝟘

  -- t^i has no place below i
  pub order-pow : (t : S.Series R) → t 0 ≡ 𝟘 → (i k : ℕ) → k < i → pow (S.series R) t i k ≡ 𝟘
  order-pow t z zero k l = absurd (N.not-suc-le-zero l)
  order-pow t z (suc i) zero l = ap (λ (w : S.Series R). w 0) (pow-suc (S.series R) t i) ∙ S.mul-at_zero R t _ ∙ ap (λ x. x ⊗ pow (S.series R) t i 0) z ∙ A.zero-mul R _
  order-pow t z (suc i) (suc k) l = ap (λ (w : S.Series R). w (suc k)) (pow-suc (S.series R) t i) ∙ S.mul-at-suc R t _ k
      ∙ ap₂ ◌⊕◌ (ap (λ x. x ⊗ pow (S.series R) t i (suc k)) z ∙ A.zero-mul R _) (order-mul i (S.tl R t) (pow (S.series R) t i) (order-pow t z i) k (omega arith)) ∙ A.add-zero R 𝟘

  -- the rows: place k of t^(i+1) from those of t^i
  pub row_step : (t : S.Series R) → t 0 ≡ 𝟘 → (i k : ℕ) → i ≤ k → pow (S.series R) t (suc i) k ≡ sum R (k - i) (λ j. t (suc j) ⊗ pow (S.series R) t i (k - suc j))
  row_step t z i k l = ap (λ (w : S.Series R). w k) (pow-suc (S.series R) t i) ∙ mul-sum R t w k ∙ sum-suc R k _
      ∙ ap (λ x. x ⊕ sum R k (λ j. t (suc j) ⊗ w (k - suc j))) (ap (λ x. x ⊗ w (k - 0)) z ∙ A.zero-mul R _) ∙ A.zero-add R _
      ∙ ap (λ (n : ℕ). sum R n (λ j. t (suc j) ⊗ w (k - suc j))) e
      ∙ sum_clip R (k - i) i _ (λ j b h. ap (◌⊗◌ (t (suc j))) (order-pow t z i (k - suc j) (omega arith)) ∙ A.mul-zero R _)
    where
      w : S.Series R
      w = pow (S.series R) t i

      e : k ≡ k - i + i
      e = omega arith
