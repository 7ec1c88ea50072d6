-- Single terms: c·x^k.
--
--   single-same, single-other    its coefficients
--   number-times                 a number times a polynomial
--   single-times, single-power   products and powers of single terms
--   x_term                       a number times a power of x
--   single-low                   within the limit it is low
--   single-is, single-ends       as it is stored
--   shifts_single                a polynomial that is a single term
use mathlib.Core.Path.{◌≡◌, refl, sym, ap, ap₂, ◌∙◌}
use mathlib.Core.List.{List, [], ◌∷◌}
use Prim.Native.Nat.{ℕ, zero, suc, ◌+◌, ◌*◌, ◌%◌, ◌^◌, ◌≤◌, ◌<◌}
use native.Mathlib.Nat as N
use native.Mathlib.Omega.{arith}
use native.Mathlib.Decide.{dec_lt, ℕ_discrete}
use lib.ListN.{length, set, length-set, replicate, length-replicate}
use lib.Seq.{get_or-set_same, get_or-set_other}
use Rattle.algebra.specs.Polynomial.{coef, scaled, times, power, limit, terms, reduced}
use Rattle.algebra.proofs.Coefficients.{coef-plus, coef-scaled}
use Rattle.algebra.proofs.Highest.{degree-above}
use Rattle.algebra.proofs.Numbers.{one-pow}
use Rattle.polynomial.specs.Checks.{Measured}
use Rattle.polynomial.proofs.Filling.{filled-all, zeros}
use Rattle.composition.specs.Composition.{Ends}
use Rattle.built.specs.Built.{Low, single, Shifts}

-- ---- its coefficients

pub single-same : (c k : ℕ) → coef (single c k) k ≡ c
unfolding single
single-same c zero = refl
single-same c (suc k) = single-same c k

pub single-other : (c k j : ℕ) → (k ≡ j → ⊥) → coef (single c k) j ≡ 0
unfolding single
single-other c zero zero n = absurd (n refl)
single-other c zero (suc j) n = refl
single-other c (suc k) zero n = refl
single-other c (suc k) (suc j) n = single-other c k j (λ e. n (ap suc e))

-- ---- products

pub number-times : (c : ℕ) (q : List ℕ) (j : ℕ) → coef (times (c ∷ []) q) j ≡ c * coef q j
unfolding times
number-times c q j = coef-plus (scaled c q) (0 ∷ []) j ∙ ap₂ ◌+◌ (coef-scaled c q j) (zeros 1 j) ∙ N.add-zero (c * coef q j)

single-scaled : (c d i j : ℕ) → c * coef (single d i) j ≡ coef (single (c * d) i) j
unfolding single
single-scaled c d zero zero = refl
single-scaled c d zero (suc j) = N.mul-zero c
single-scaled c d (suc i) zero = N.mul-zero c
single-scaled c d (suc i) (suc j) = single-scaled c d i j

shifted_times : (p q : List ℕ) (j : ℕ) → coef (times (0 ∷ p) q) j ≡ coef (0 ∷ times p q) j
unfolding times
shifted_times p q j = coef-plus (scaled 0 q) (0 ∷ times p q) j ∙ ap (λ (n : ℕ). n + coef (0 ∷ times p q) j) (coef-scaled 0 q j ∙ N.zero-mul (coef q j)) ∙ N.zero-add _

single-times : (c k d i : ℕ) (q : List ℕ) → ((j : ℕ) → coef q j ≡ coef (single d i) j) → (j : ℕ) → coef (times (single c k) q) j ≡ coef (single (c * d) (k + i)) j
unfolding single
single-times c zero d i q e j = number-times c q j ∙ ap (λ (n : ℕ). c * n) (e j) ∙ single-scaled c d i j ∙ rw (N.zero-add i) refl
single-times c (suc k) d i q e zero = shifted_times (single c k) q zero ∙ rw (N.suc-add k i) refl
single-times c (suc k) d i q e (suc j) = shifted_times (single c k) q (suc j) ∙ single-times c k d i q e j ∙ rw (N.suc-add k i) refl

pub single-power : (c k p j : ℕ) → coef (power (single c k) p) j ≡ coef (single (c ^ p) (k * p)) j
unfolding power single
single-power c k zero j = rw (N.pow-zero c, N.mul-zero k) refl
single-power c k (suc p) j = single-times c k (c ^ p) (k * p) (power (single c k) p) (single-power c k p) j ∙ rw (N.pow-succ' c p, N.mul-suc k p, N.add_comm (k * p) k) refl

-- c·x^i, as a number times a power of x
pub x_term : (c i j : ℕ) → c * coef (power (0 ∷ 1 ∷ []) i) j ≡ coef (single c i) j
unfolding single
x_term c i j = ap (λ (n : ℕ). c * n) (single-power 1 1 i j ∙ rw (one-pow i, N.one-mul i) refl) ∙ single-scaled c 1 i j ∙ rw (N.mul-one c) refl

-- ---- the limit

-- zeros above it
pub zero_low : {m : ℕ} {f : List ℕ} → ((j : ℕ) → limit < j → coef f j ≡ 0) → Low m f
zero_low {m} z = record { above = λ j h. ap (λ (n : ℕ). n % m) (z j h) ∙ N.zero-mod m }

pub single-high : (c k j : ℕ) → k ≤ limit → limit < j → coef (single c k) j ≡ 0
single-high c k j l h = single-other c k j (λ e. omega arith)

pub single-low : {m : ℕ} (c k : ℕ) → k ≤ limit → Low m (single c k)
single-low c k l = zero_low (λ j h. single-high c k j l h)

-- ---- as it is stored

pub single-ends : (x k : ℕ) → k ≤ limit → Ends k (set (replicate terms 0) k x)
single-ends x k l =
    record {
      long = length-set (replicate terms 0) k x ∙ length-replicate terms 0;
      past = λ j b. get_or-set_other (replicate terms 0) k j x 0 (omega arith) ∙ zeros terms j;
      inside = l;
    }

room : (k : ℕ) → k ≤ limit → k < terms
unfolding terms
room k l = omega arith

pub single-is : (m c k : ℕ) → k ≤ limit → set (replicate terms 0) k (c % m) ≡ reduced m (single c k)
unfolding reduced
single-is m c k l = filled-all {i = terms} (N.le_refl terms) (record { long = (single-ends (c % m) k l).long; is = λ j b. go j (ℕ_discrete j k) })
  where
    go : (j : ℕ) → Dec (j ≡ k) → coef (set (replicate terms 0) k (c % m)) j ≡ coef (single c k) j % m
    go j (yes e) = rw e (get_or-set_same (replicate terms 0) k (c % m) 0 (let n : length (replicate {A = ℕ} terms 0) ≡ terms = length-replicate terms 0 in rw n (room k l)) ∙ sym (ap (λ (n : ℕ). n % m) (single-same c k)))
    go j (no e) = get_or-set_other (replicate terms 0) k j (c % m) 0 e ∙ zeros terms j ∙ sym (ap (λ (n : ℕ). n % m) (single-other c k j (λ q. e (sym q))) ∙ N.zero-mod m)

-- ---- a polynomial that is a single term

pub shifts_single : {n p : ℕ} (x : List ℕ) → Measured n x → Shifts n p x → (j : ℕ) → coef x j ≡ coef (single (coef x n) n) j
shifts_single {n} x d s j = go (ℕ_discrete n j) (dec_lt j n)
  where
    go : Dec (n ≡ j) → Dec (j < n) → coef x j ≡ coef (single (coef x n) n) j
    go (yes e) l = rw (← e) (sym (single-same (coef x n) n))
    go (no e) (yes l) = s.below j l ∙ sym (single-other (coef x n) n j e)
    go (no e) (no l) = degree-above x j (omega (arith, d.is)) ∙ sym (single-other (coef x n) n j e)
