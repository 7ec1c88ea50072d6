-- Degrees of series; division by a monic series; composition of series.
--
--   Deg n p, Lead n c p, Monic n p        degree at most n; and the coefficient there is c; is 1
--   deg-.., top-mul, lead-..              degrees of sums and products
--   deg-down                              where the top can always be shown to be 0, the degree goes down to 0
--   division_unique, monic_cancel         division by a monic series has one quotient and one remainder
--   compose n g h                         g(h), of g's first n coefficients
--   left_unique                           the left part of a composition is unique
use mathlib.Core.Path.{◌≡◌, refl, sym, ap, ap₂, ◌∙◌, fun_ext}
use Prim.Native.Nat.{ℕ, zero, suc, ◌+◌, ◌*◌, ◌≤◌, ◌<◌}
use native.Mathlib.Nat as N
use native.Mathlib.Omega.{arith}
use native.Mathlib.Decide.{dec_lt}
use Rattle.algebra.proofs.Ring.{Ring}
use Rattle.algebra.proofs.Ring as A
use Rattle.algebra.proofs.Series as S

-- the degree of p is at most n
pub record Deg (R : Ring) (n : ℕ) (p : S.Series R) : Type 0 where
  pub above : (i : ℕ) → n < i → p i ≡ R.𝟘

-- the degree of p is at most n, and its coefficient there is c
pub record Lead (R : Ring) (n : ℕ) (c : R.El) (p : S.Series R) : Type 0 where
  pub deg : Deg R n p
  pub top : p n ≡ c

abbrev pub Monic : (R : Ring) → ℕ → S.Series R → Type 0
Monic R n p = Lead R n R.𝟙 p

module _ (R : Ring) where
  open R use {El, 𝟘, 𝟙, ◌⊕◌, ◌⊗◌, neg}
  open S.series R use {◌⊕◌ as ◌⊞◌, ◌⊗◌ as ◌⊠◌, neg as sneg, 𝟘 as nought}

  infixl 65 ◌⊞◌
  infixl 70 ◌⊠◌
  pub deg_tl : {n : ℕ} {p : S.Series R} → Deg R (suc n) p → Deg R n (S.tl R p)
  deg_tl d = record { above = λ i h. d.above (suc i) (omega arith) }

  pub tl_nought : {p : S.Series R} → Deg R 0 p → S.tl R p ≡ nought
  tl_nought d = fun_ext (λ i. d.above (suc i) (omega arith))

  -- a constant times a series, at each place
  pub deg_zero_mul : {p : S.Series R} (q : S.Series R) → Deg R 0 p → (k : ℕ) → (p ⊠ q) k ≡ p 0 ⊗ q k
  deg_zero_mul {p} q d zero = S.mul-at_zero R p q
  deg_zero_mul {p} q d (suc k) = rw (S.mul-at-suc R p q k, tl_nought d, S.nought_mul-at R q k) (A.add-zero R _)

  pub deg-mul-at : (a : ℕ) {b : ℕ} {p q : S.Series R} → Deg R a p → Deg R b q → (k : ℕ) → a + b < k → (p ⊠ q) k ≡ 𝟘
  deg-mul-at zero {b} {p} {q} d e k h = deg_zero_mul q d k ∙ ap (◌⊗◌ (p 0)) (e.above k (omega arith)) ∙ A.mul-zero R (p 0)
  deg-mul-at (suc a) d e zero h = absurd (N.not-suc-le-zero h)
  deg-mul-at (suc a) {b} {p} {q} d e (suc k) h = S.mul-at-suc R p q k
      ∙ ap₂ ◌⊕◌ (ap (◌⊗◌ (p 0)) (e.above (suc k) (omega arith)) ∙ A.mul-zero R (p 0)) (deg-mul-at a (deg_tl d) e k (omega arith)) ∙ A.add-zero R 𝟘

  pub deg-mul : {a b : ℕ} {p q : S.Series R} → Deg R a p → Deg R b q → Deg R (a + b) (p ⊠ q)
  deg-mul {a} d e = record { above = deg-mul-at a d e }

  pub top-mul : (a : ℕ) {b : ℕ} {p q : S.Series R} → Deg R a p → Deg R b q → (p ⊠ q) (a + b) ≡ p a ⊗ q b
  top-mul zero {b} {p} {q} d e = rw (N.zero-add b) (deg_zero_mul q d b)
  top-mul (suc a) {b} {p} {q} d e = rw (N.suc-add a b) (S.mul-at-suc R p q (a + b)
      ∙ ap₂ ◌⊕◌ (ap (◌⊗◌ (p 0)) (e.above (suc (a + b)) (omega arith)) ∙ A.mul-zero R (p 0)) (top-mul a (deg_tl d) e) ∙ A.zero-add R _)

  pub deg-add : {n : ℕ} {p q : S.Series R} → Deg R n p → Deg R n q → Deg R n (p ⊞ q)
  unfolding S.◌⊞◌
  deg-add d e = record { above = λ i h. ap₂ ◌⊕◌ (d.above i h) (e.above i h) ∙ A.add-zero R 𝟘 }

  pub deg_neg : {n : ℕ} {p : S.Series R} → Deg R n p → Deg R n (sneg p)
  unfolding S.sneg
  deg_neg d = record { above = λ i h. ap neg (d.above i h) ∙ A.neg_zero R }

  pub deg_mono : {n k : ℕ} {p : S.Series R} → n ≤ k → Deg R n p → Deg R k p
  deg_mono l d = record { above = λ i h. d.above i (omega arith) }

  pub deg_const : (n : ℕ) (a : El) → Deg R n (S.const R a)
  unfolding S.const
  deg_const n a = record { above = go }
    where
      go : (i : ℕ) → n < i → S.const R a i ≡ 𝟘
      go zero h = absurd (N.not-suc-le-zero h)
      go (suc i) h = refl

  pub deg_nought : (n : ℕ) → Deg R n nought
  deg_nought n = record { above = λ i h. refl }

  -- where the coefficient at the top can always be shown to be 0, the degree goes down to 0
  pub deg-down : {w : S.Series R} → ((j : ℕ) → Deg R (suc j) w → w (suc j) ≡ 𝟘) → (n : ℕ) → Deg R n w → Deg R 0 w
  deg-down f zero d = d
  deg-down {w} f (suc n) d = deg-down f n (record { above = λ i l. lower i l (dec_lt (suc n) i) })
    where
      lower : (i : ℕ) → n < i → Dec (suc n < i) → w i ≡ 𝟘
      lower i l (yes g) = d.above i g
      lower i l (no g) = ap w eq ∙ f n d
        where
          eq : i ≡ suc n
          eq = omega arith

  pub deg_zero : {w : S.Series R} → Deg R 0 w → w 0 ≡ 𝟘 → w ≡ nought
  deg_zero {w} d z = fun_ext go
    where
      go : (i : ℕ) → w i ≡ 𝟘
      go zero = z
      go (suc i) = d.above (suc i) (omega arith)

  pub lead-mul : {a b : ℕ} {c d : El} {p q : S.Series R} → Lead R a c p → Lead R b d q → Lead R (a + b) (c ⊗ d) (p ⊠ q)
  lead-mul {a} l k = record { deg = deg-mul l.deg k.deg; top = top-mul a l.deg k.deg ∙ ap₂ ◌⊗◌ l.top k.top }

  pub lead-add : {n : ℕ} {c d : El} {p q : S.Series R} → Lead R n c p → Lead R n d q → Lead R n (c ⊕ d) (p ⊞ q)
  unfolding S.◌⊞◌
  lead-add l k = record { deg = deg-add l.deg k.deg; top = ap₂ ◌⊕◌ l.top k.top }

  module _ {s : ℕ} {h : S.Series R} (m : Monic R s h) where
    -- the top place of h w, where h is monic, is that of w
    top-monic : {n : ℕ} {w : S.Series R} → Deg R n w → (h ⊠ w) (s + n) ≡ w n
    top-monic {n} {w} d = top-mul s m.deg d ∙ ap (λ x. x ⊗ w n) m.top ∙ A.one-mul R (w n)

    monic_kill : (n : ℕ) {w : S.Series R} → Deg R n w → ((i : ℕ) → (h ⊠ w) (s + i) ≡ 𝟘) → w ≡ nought
    monic_kill n {w} d z = deg_zero down (sym (top-monic down) ∙ z 0)
      where
        down : Deg R 0 w
        down = deg-down (λ j e. sym (top-monic e) ∙ z (suc j)) n d

    -- division by a monic polynomial has one quotient and one remainder
    pub division_unique : {n : ℕ} {u v c d : S.Series R} → Deg R n u → Deg R n v → ((i : ℕ) → s ≤ i → c i ≡ 𝟘) → ((i : ℕ) → s ≤ i → d i ≡ 𝟘)
        → c ⊞ h ⊠ u ≡ d ⊞ h ⊠ v → (u ≡ v) × (c ≡ d)
    unfolding S.◌⊞◌ S.sneg
    division_unique {n} {u} {v} {c} {d} du dv cl dl e = (uv, A.cancel (S.series R) (h ⊠ v) (A.add_comm (S.series R) _ c ∙ ap (λ (y : S.Series R). c ⊞ h ⊠ y) (sym uv) ∙ e ∙ A.add_comm (S.series R) d _))
      where
        low : (f : S.Series R) → ((i : ℕ) → s ≤ i → f i ≡ 𝟘) → (x : S.Series R) (i : ℕ) → f (s + i) ⊕ x (s + i) ≡ x (s + i)
        low f z x i = ap (λ y. y ⊕ x (s + i)) (z (s + i) (omega arith)) ∙ A.zero-add R _

        above : (i : ℕ) → (h ⊠ u) (s + i) ≡ (h ⊠ v) (s + i)
        above i = sym (low c cl (h ⊠ u) i) ∙ ap (λ (f : S.Series R). f (s + i)) e ∙ low d dl (h ⊠ v) i

        spread : h ⊠ (u ⊞ sneg v) ≡ h ⊠ u ⊞ sneg (h ⊠ v)
        spread = A.mul-add (S.series R) h u (sneg v) ∙ ap (◌⊞◌ (h ⊠ u)) (A.mul_neg (S.series R) h v)

        uv : u ≡ v
        uv = A.eq_of_sub (S.series R) (monic_kill n (deg-add du (deg_neg dv)) (λ i. ap (λ (f : S.Series R). f (s + i)) spread ∙ A.sub_self R (above i)))

    -- c + h u = d + h v with constants c and d: u = v and c = d
    monic_cancel : {n : ℕ} {u v : S.Series R} (c d : El) → 0 < s → Deg R n u → Deg R n v
        → S.const R c ⊞ h ⊠ u ≡ S.const R d ⊞ h ⊠ v → (u ≡ v) × (c ≡ d)
    unfolding S.const
    monic_cancel c d pos du dv e = let (p, q) = division_unique du dv (λ i l. (deg_const 0 c).above i (omega arith)) (λ i l. (deg_const 0 d).above i (omega arith)) e in
        (p, ap (λ (f : S.Series R). f 0) q)

-- composition: the value of g, of which the first n coefficients count, at h
module _ (R : Ring) where
  open R use {El, 𝟘, 𝟙, ◌⊕◌, ◌⊗◌, neg}
  open S.series R use {◌⊕◌ as ◌⊞◌, ◌⊗◌ as ◌⊠◌, neg as sneg, 𝟘 as nought}

  infixl 65 ◌⊞◌
  infixl 70 ◌⊠◌
  unfoldable pub compose : ℕ → S.Series R → S.Series R → S.Series R
  compose zero g h = nought
  compose (suc n) g h = S.const R (g 0) ⊞ h ⊠ compose n (S.tl R g) h

  pub compose_zero : (g h : S.Series R) → compose 0 g h ≡ nought
  unfolding compose
  compose_zero g h = refl

  pub compose-suc : (n : ℕ) (g h : S.Series R) → compose (suc n) g h ≡ S.const R (g 0) ⊞ h ⊠ compose n (S.tl R g) h
  unfolding compose
  compose-suc n g h = refl

  pub deg-compose : {s : ℕ} {h : S.Series R} → Deg R s h → (n : ℕ) (g : S.Series R) → Deg R (n * s) (compose n g h)
  unfolding compose
  deg-compose {s} d zero g = deg_nought R _
  deg-compose {s} d (suc n) g = deg-add R (deg_const R _ (g 0)) (deg_mono R (omega arith) (deg-mul R d (deg-compose d n (S.tl R g))))

  left_step : {s : ℕ} {h : S.Series R} → Monic R s h → 0 < s → (n : ℕ) (f g : S.Series R)
      → compose (suc n) f h ≡ compose (suc n) g h → (compose n (S.tl R f) h ≡ compose n (S.tl R g) h) × (f 0 ≡ g 0)
  left_step {s} {h} m pos n f g e = monic_cancel R m (f 0) (g 0) pos (deg-compose m.deg n (S.tl R f)) (deg-compose m.deg n (S.tl R g)) (sym (compose-suc n f h) ∙ e ∙ compose-suc n g h)

  -- the left part of a composition with a monic right part of degree at least 1 is unique
  pub left_unique : {s : ℕ} {h : S.Series R} → Monic R s h → 0 < s → (n : ℕ) (f g : S.Series R)
      → compose n f h ≡ compose n g h → (i : ℕ) → i < n → f i ≡ g i
  left_unique m pos zero f g e i l = absurd (N.not-suc-le-zero l)
  left_unique m pos (suc n) f g e zero l = (left_step m pos n f g e).1
  left_unique m pos (suc n) f g e (suc i) l = left_unique m pos n (S.tl R f) (S.tl R g) (left_step m pos n f g e).0 i (omega arith)
