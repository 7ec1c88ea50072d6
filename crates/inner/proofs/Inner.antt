-- The sums `inner` and `strided`, term by term: instances of the laws of `sum`. Nothing else unfolds them.
--
--   inner-none, inner-more        the sum of no term, and of one term more
--   inner_start, inner_next       the same for a loop over i from lo on
--   inner_zeros                   a sum of products that are all 0 is 0
--   inner_split                   the sum of n + j terms is that of the first n and that of the last j
--   inner-drop                    a list that is read from a later place on
--   inner_extensional             lists that agree at the sum's indices have the same sum
--   strided-..                    the same of `strided`; strided-first takes the first term apart
--   stride-start, stride-inside, stride_next     the place that a loop over i has reached
use mathlib.Core.Path.{◌≡◌, sym, ◌∙◌, ap, ap₂, subst}
use mathlib.Core.List.{List}
use Prim.Native.Nat.{ℕ, suc, ◌+◌, ◌-◌, ◌*◌, ◌≤◌, ◌<◌}
use native.Mathlib.Nat.{add_assoc, sub_self, zero-mul, add-zero}
use native.Mathlib.Omega.{arith}
use lib.ListN.{drop}
use lib.Seq.{get_or-drop}
use Rattle.algebra.specs.Number.{sum}
use Rattle.algebra.specs.Polynomial.{coef}
use Rattle.algebra.proofs.Numbers.{sum-none, sum_more, sum_first, sum_split, sum_ext, sum_zeros}
use Rattle.inner.specs.Inner.{inner, strided, Strides}

module _ (a b : List ℕ) (k lo : ℕ) where
  pub inner-none : inner a b k lo 0 ≡ 0
  unfolding inner
  inner-none = sum-none _

  pub inner-more : (n : ℕ) → inner a b k lo (suc n) ≡ inner a b k lo n + coef a (lo + n) * coef b (k - (lo + n))
  unfolding inner
  inner-more n = sum_more n _

  pub inner_start : inner a b k lo (lo - lo) ≡ 0
  inner_start = ap (inner a b k lo) (sub_self lo) ∙ inner-none

  pub inner_next : (i : ℕ) {p : ℕ} → lo ≤ i → p ≡ coef a i * coef b (k - i) → inner a b k lo (i + 1 - lo) ≡ inner a b k lo (i - lo) + p
  inner_next i {p} h e =
      let f : i + 1 - lo ≡ suc (i - lo) = omega arith in
      let g : lo + (i - lo) ≡ i = omega arith in
      ap (inner a b k lo) f ∙ inner-more (i - lo) ∙ rw (g, e)

  pub inner_zeros : (n : ℕ) → ((i : ℕ) → lo ≤ i → i < lo + n → coef a i * coef b (k - i) ≡ 0) → inner a b k lo n ≡ 0
  unfolding inner
  inner_zeros n z = sum_zeros n _ (λ i l. z (lo + i) (omega arith) (omega arith))

  pub inner_split : (n j : ℕ) → inner a b k lo (n + j) ≡ inner a b k lo n + inner a b k (lo + n) j
  unfolding inner
  inner_split n j = sum_split n j _ ∙ ap (λ (x : ℕ). sum n (λ i. coef a (lo + i) * coef b (k - (lo + i))) + x)
      (sum_ext j _ _ (λ i l. ap (λ (x : ℕ). coef a x * coef b (k - x)) (sym (add_assoc lo n i))))

-- places of the second list counted from d on
pub inner-drop : (a b : List ℕ) (d k lo n : ℕ) → lo + n ≤ k + 1 → inner a (drop d b) k lo n ≡ inner a b (k + d) lo n
unfolding inner
inner-drop a b d k lo n l = sum_ext n _ _ (λ i c. ap (λ (x : ℕ). coef a (lo + i) * x) (get_or-drop d b (k - (lo + i)) 0 ∙ ap (coef b) (omega arith)))

pub inner_extensional : (a a' b b' : List ℕ) (k lo n : ℕ) → ((i : ℕ) → lo ≤ i → i < lo + n → coef a i ≡ coef a' i)
    → ((i : ℕ) → lo ≤ i → i < lo + n → coef b (k - i) ≡ coef b' (k - i)) → inner a b k lo n ≡ inner a' b' k lo n
unfolding inner
inner_extensional a a' b b' k lo n e f = sum_ext n _ _ (λ i l. ap₂ ◌*◌ (e (lo + i) (omega arith) (omega arith)) (f (lo + i) (omega arith) (omega arith)))

module _ (a b : List ℕ) (lo at step : ℕ) where
  pub strided-none : strided a b lo at step 0 ≡ 0
  unfolding strided
  strided-none = sum-none _

  pub strided-more : (n : ℕ) → strided a b lo at step (suc n) ≡ strided a b lo at step n + coef a (lo + n) * coef b (at + n * step)
  unfolding strided
  strided-more n = sum_more n _

  pub strided_next : (i j : ℕ) {p : ℕ} → lo ≤ i → j ≡ at + (i - lo) * step → p ≡ coef a i * coef b j
      → strided a b lo at step (i + 1 - lo) ≡ strided a b lo at step (i - lo) + p
  strided_next i j {p} h q e =
      let f : i + 1 - lo ≡ suc (i - lo) = omega arith in
      let g : lo + (i - lo) ≡ i = omega arith in
      ap (strided a b lo at step) f ∙ strided-more (i - lo) ∙ rw (g, ← q, e)

pub strided-first : (a b : List ℕ) (lo at step n : ℕ) → strided a b lo at step (suc n) ≡ coef a lo * coef b at + strided a b (suc lo) (at + step) step n
unfolding strided
strided-first a b lo at step n =
    sum_first n (λ i. coef a (lo + i) * coef b (at + i * step))
    ∙ ap₂ ◌+◌ (let e : lo + 0 ≡ lo = omega arith in let f : at + 0 * step ≡ at = omega arith in ap₂ (λ (x y : ℕ). coef a x * coef b y) e f)
    (sum_ext n _ _ (λ i l. let e : lo + suc i ≡ suc lo + i = omega arith in let f : at + suc i * step ≡ at + step + i * step = omega arith in ap₂ (λ (x y : ℕ). coef a x * coef b y) e f))

pub strided_extensional : (a a' b b' : List ℕ) (lo at step n : ℕ) → ((i : ℕ) → i < n → coef a (lo + i) ≡ coef a' (lo + i))
    → ((i : ℕ) → i < n → coef b (at + i * step) ≡ coef b' (at + i * step)) → strided a b lo at step n ≡ strided a' b' lo at step n
unfolding strided
strided_extensional a a' b b' lo at step n e f = sum_ext n _ _ (λ i l. ap₂ ◌*◌ (e i l) (f i l))

pub stride-start : (lo at step : ℕ) → at ≡ at + (lo - lo) * step
stride-start lo at step = sym (ap (λ (n : ℕ). at + n * step) (sub_self lo) ∙ ap (λ (n : ℕ). at + n) (zero-mul step) ∙ add-zero at)

pub stride-inside : {la lb lo hi at step : ℕ} (i : ℕ) {j : ℕ} → Strides la lb lo hi at step → i < hi - lo → j ≡ at + i * step → j < lb
stride-inside {lb = lb} i s h e = subst (λ (x : ℕ). x < lb) (sym e) (s.inside i h)

pub stride_next : (i at step : ℕ) {i' j : ℕ} → j ≡ at + i * step → i' ≡ i + 1 → j + step ≡ at + i' * step
stride_next i at step e f = rw (e, f) (omega arith)
