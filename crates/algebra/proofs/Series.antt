-- The ring of power series over a ring: a series is the function of its coefficients.
--
--   _⊞_, _⊠_, sneg, const, X              the operations; `series` is the ring of them
--   mul-at_zero, mul-at-suc, mul-suc-at   a product's coefficients, taken apart from either side
--   X_mul_zero, X_mul-suc                 multiplied by x
--   const_zero, const_add, const_mul, const_mul-at     constants
use mathlib.Core.Path.{◌≡◌, refl, sym, ap, ap₂, ◌∙◌, fun_ext}
use Prim.Native.Nat.{ℕ, zero, suc}
use Rattle.algebra.proofs.Ring.{Ring, ring}
use Rattle.algebra.proofs.Ring as A

module _ (R : Ring) where
  open R use {El, 𝟘, 𝟙, ◌⊕◌, ◌⊗◌, neg}

  abbrev pub Series : Type 0
  Series = ℕ → El

  -- what is left when the constant term is taken off and the rest divided by x
  abbrev pub tl : Series → Series
  tl p = λ i. p (suc i)

  unfoldable pub const : El → Series
  const a zero = a
  const a (suc i) = 𝟘

  infixl 65 ◌⊞◌
  infixl 70 ◌⊠◌
  unfoldable pub ◌⊞◌ : Series → Series → Series
  p ⊞ q = λ i. p i ⊕ q i

  unfoldable pub sneg : Series → Series
  sneg p = λ i. neg (p i)

  -- p = p₀ + x · tl p, so p · q = p₀ · q + x · (tl p · q)
  unfoldable pub ◌⊠◌ : Series → Series → Series
  (p ⊠ q) zero = p zero ⊗ q zero
  (p ⊠ q) (suc k) = p zero ⊗ q (suc k) ⊕ (tl p ⊠ q) k

  pub mul-at_zero : (p q : Series) → (p ⊠ q) zero ≡ p zero ⊗ q zero
  unfolding ◌⊠◌
  mul-at_zero p q = refl

  pub mul-at-suc : (p q : Series) (k : ℕ) → (p ⊠ q) (suc k) ≡ p zero ⊗ q (suc k) ⊕ (tl p ⊠ q) k
  unfolding ◌⊠◌
  mul-at-suc p q k = refl

  mul-add-at : (p q r : Series) (k : ℕ) → (p ⊠ (q ⊞ r)) k ≡ (p ⊠ q) k ⊕ (p ⊠ r) k
  unfolding ◌⊞◌
  mul-add-at p q r zero = simp (mul-at_zero, ring)
  mul-add-at p q r (suc k) = simp (mul-at-suc, mul-add-at (tl p) q r k, ring)

  add-mul-at : (p q r : Series) (k : ℕ) → ((p ⊞ q) ⊠ r) k ≡ (p ⊠ r) k ⊕ (q ⊠ r) k
  unfolding ◌⊞◌
  add-mul-at p q r zero = simp (mul-at_zero, ring)
  add-mul-at p q r (suc k) = simp (mul-at-suc, add-mul-at (tl p) (tl q) r k, ring)

  -- a constant times a series
  unfoldable pub scale : El → Series → Series
  scale a p = λ i. a ⊗ p i

  scale_mul-at : (a : El) (p q : Series) (k : ℕ) → (scale a p ⊠ q) k ≡ a ⊗ (p ⊠ q) k
  unfolding scale
  scale_mul-at a p q zero = simp (mul-at_zero, ring)
  scale_mul-at a p q (suc k) = simp (mul-at-suc, scale_mul-at a (tl p) q k, ring)

  pub tl_mul : (p q : Series) → tl (p ⊠ q) ≡ scale (p zero) (tl q) ⊞ tl p ⊠ q
  unfolding ◌⊠◌ ◌⊞◌ scale
  tl_mul p q = refl

  mul_assoc_at : (p q r : Series) (k : ℕ) → (p ⊠ q ⊠ r) k ≡ (p ⊠ (q ⊠ r)) k
  mul_assoc_at p q r zero = simp (mul-at_zero, ring)
  mul_assoc_at p q r (suc k) = simp (mul-at-suc, mul-at_zero, tl_mul p q, add-mul-at, scale_mul-at, mul_assoc_at (tl p) q r k, ring)

  -- taken apart from the other side
  pub mul-suc-at : (p q : Series) (k : ℕ) → (p ⊠ q) (suc k) ≡ (p ⊠ tl q) k ⊕ p (suc k) ⊗ q zero
  mul-suc-at p q zero = rw (mul-at-suc p q zero) (simp mul-at_zero)
  mul-suc-at p q (suc k) = rw (mul-at-suc p q (suc k), mul-at-suc p (tl q) k, mul-suc-at (tl p) q k) (sym (A.add_assoc R _ _ _))

  mul_comm_at : (p q : Series) (k : ℕ) → (p ⊠ q) k ≡ (q ⊠ p) k
  mul_comm_at p q zero = simp (mul-at_zero, ring)
  mul_comm_at p q (suc k) = rw (mul-at-suc p q k, mul-suc-at q p k, mul_comm_at (tl p) q k) (simp ring)

  abbrev pub nought : Series
  nought i = 𝟘

  pub nought_mul-at : (q : Series) (k : ℕ) → (nought ⊠ q) k ≡ 𝟘
  nought_mul-at q zero = simp (mul-at_zero, ring)
  nought_mul-at q (suc k) = simp (mul-at-suc, nought_mul-at q k, ring)

  pub const_mul-at : (a : El) (q : Series) (k : ℕ) → (const a ⊠ q) k ≡ a ⊗ q k
  unfolding const
  const_mul-at a q zero = mul-at_zero _ q
  const_mul-at a q (suc k) = mul-at-suc _ q k ∙ rw (nought_mul-at q k) (A.add-zero R _)

  pub sadd_assoc : (p q r : Series) → p ⊞ q ⊞ r ≡ p ⊞ (q ⊞ r)
  unfolding ◌⊞◌
  sadd_assoc p q r = fun_ext (λ i. A.add_assoc R (p i) (q i) (r i))

  pub sadd_comm : (p q : Series) → p ⊞ q ≡ q ⊞ p
  unfolding ◌⊞◌
  sadd_comm p q = fun_ext (λ i. A.add_comm R (p i) (q i))

  pub nought_add : (p : Series) → nought ⊞ p ≡ p
  unfolding ◌⊞◌
  nought_add p = fun_ext (λ i. A.zero-add R (p i))

  pub sneg_add : (p : Series) → sneg p ⊞ p ≡ nought
  unfolding ◌⊞◌ sneg
  sneg_add p = fun_ext (λ i. A.neg_add R (p i))

  pub mul_sadd : (p q r : Series) → p ⊠ (q ⊞ r) ≡ p ⊠ q ⊞ p ⊠ r
  unfolding ◌⊞◌
  mul_sadd p q r = fun_ext (mul-add-at p q r)

  pub smul_assoc : (p q r : Series) → p ⊠ q ⊠ r ≡ p ⊠ (q ⊠ r)
  smul_assoc p q r = fun_ext (mul_assoc_at p q r)

  pub smul_comm : (p q : Series) → p ⊠ q ≡ q ⊠ p
  smul_comm p q = fun_ext (mul_comm_at p q)

  pub one_smul : (p : Series) → const 𝟙 ⊠ p ≡ p
  one_smul p = fun_ext (λ k. const_mul-at 𝟙 p k ∙ A.one-mul R (p k))

  -- the ring of series
  abbrev pub series : Ring
  series = record {
    El = Series;
    𝟘 = nought;
    𝟙 = const 𝟙;
    ◌⊕◌ = ◌⊞◌;
    ◌⊗◌ = ◌⊠◌;
    neg = sneg;
    add_assoc = sadd_assoc;
    add_comm = sadd_comm;
    zero-add = nought_add;
    neg_add = sneg_add;
    mul_assoc = smul_assoc;
    mul_comm = smul_comm;
    one-mul = one_smul;
    mul-add = mul_sadd;
  }

  -- the unknown
  unfoldable pub X : Series
  X zero = 𝟘
  X (suc i) = const 𝟙 i

  pub X_mul_zero : (q : Series) → (X ⊠ q) 0 ≡ 𝟘
  unfolding X
  X_mul_zero q = mul-at_zero X q ∙ A.zero-mul R (q 0)

  pub X_mul-suc : (q : Series) (k : ℕ) → (X ⊠ q) (suc k) ≡ q k
  unfolding X
  X_mul-suc q k = mul-at-suc X q k ∙ ap₂ ◌⊕◌ (A.zero-mul R (q (suc k))) (ap (λ (p : Series). p k) (one_smul q)) ∙ A.zero-add R (q k)

  pub const_zero : const 𝟘 ≡ nought
  unfolding const
  const_zero = fun_ext go
    where
      go : (i : ℕ) → const 𝟘 i ≡ 𝟘
      go zero = refl
      go (suc i) = refl

  pub const_add : (a b : El) → const (a ⊕ b) ≡ const a ⊞ const b
  unfolding const ◌⊞◌
  const_add a b = fun_ext go
    where
      go : (i : ℕ) → const (a ⊕ b) i ≡ const a i ⊕ const b i
      go zero = refl
      go (suc i) = sym (A.zero-add R 𝟘)

  pub const_mul : (a b : El) → const a ⊠ const b ≡ const (a ⊗ b)
  unfolding const
  const_mul a b = fun_ext (λ i. const_mul-at a (const b) i ∙ go i)
    where
      go : (i : ℕ) → a ⊗ const b i ≡ const (a ⊗ b) i
      go zero = refl
      go (suc i) = A.mul-zero R a
