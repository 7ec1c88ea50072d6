-- The coefficients of what is built.
--
--   measured_ends                a polynomial ends at its degree
--   inside                       what is built keeps the limit
--   Front f r i                  r is f's first i numbers, and zeros after them
--   front_none, front_more, front_all    before the first store, after one more, and where f ends
--   ending_degree                the degree is found below where a polynomial ends
--   mixed_at, mixed_past, mixed_all    a place of x + k·y; where it ends; all its places
--   larger_left, larger_right    two polynomials end at the larger of their degrees
--   product_zero, product_at     a place of a product: past the degrees, and within them
--   product_places               the places that its sum asks for are there
--   product-past, product-all    where it ends; all its places
--   Searched m f k               above x^k there is nothing
--   searched_none, searched_low, not_low      a search for it from the top
use mathlib.Core.Path.{◌≡◌, sym, ap, ap₂, ◌∙◌}
use mathlib.Core.List.{List}
use Prim.Native.Nat.{ℕ, suc, ◌+◌, ◌-◌, ◌*◌, ◌%◌, ◌≤◌, ◌<◌, min, max}
use native.Mathlib.Nat as N
use native.Mathlib.Omega.{arith}
use native.Mathlib.Decide.{dec_lt}
use lib.ListN.{length, set, replicate, take, length-replicate, get_or-eq_default}
use lib.Seq.{get_or-set_other, get_or-take, length-take-le}
use Rattle.algebra.specs.Number.{sum, table}
use Rattle.algebra.specs.Polynomial.{coef, plus, scaled, times, limit, terms, reduced, degree}
use Rattle.algebra.proofs.Coefficients.{coef-plus, coef-scaled, coef-times}
use Rattle.algebra.proofs.Numbers.{sum_split, sum_zeros}
use Rattle.algebra.proofs.Highest.{degree-above, degree-below, degree-same}
use Rattle.polynomial.specs.Checks.{Measured}
use Rattle.polynomial.proofs.Filling.{Filled, filled_none, filled_more, filled-all, zeros}
use Rattle.inner.specs.Inner.{inner, Within}
use Rattle.composition.specs.Composition.{Ends}
use Rattle.built.specs.declared.Built.{Built}
use Rattle.built.specs.Built.{Low}

-- ---- where a polynomial ends

pub measured_ends : {n : ℕ} {f : List ℕ} → Measured n f → Ends n f
unfolding terms
measured_ends {n} {f} c =
    record {
      long = c.long;
      past = λ k l. degree-above f k (omega (arith, c.is));
      inside = omega (arith, c.is, c.long, degree-below f (omega (arith, c.long)));
    }

-- what is built keeps the limit
pub inside : (v : Built) → v.degree ≤ limit
inside v = (measured_ends v.measured).inside

-- what stands below where it ends has the same degree
pub ending_degree : {d n : ℕ} {f : List ℕ} → Ends d f → n ≡ degree (take (d + 1) f) → n ≡ degree f
unfolding terms
ending_degree {d} {n} {f} e is = is ∙ degree-same (take (d + 1) f) f (λ i. go i (dec_lt i (d + 1)))
  where
    go : (i : ℕ) → Dec (i < d + 1) → coef (take (d + 1) f) i ≡ coef f i
    go i (yes l) = get_or-take (d + 1) f i 0 l
    go i (no l) = get_or-eq_default (take (d + 1) f) 0 (omega (arith, length-take-le (d + 1) f (omega (arith, e.long, e.inside)))) ∙ sym (e.past i (omega arith))

-- ---- a list of zeros that is filled from the front

pub record Front (f : ℕ → ℕ) (r : List ℕ) (i : ℕ) : Type 0 where
  pub filled : Filled terms f r i
  pub rest : (j : ℕ) → i ≤ j → coef r j ≡ 0

pub front_none : {f : ℕ → ℕ} → Front f (replicate terms 0) 0
front_none = record { filled = filled_none (length-replicate terms 0); rest = λ j l. zeros terms j }

pub front_more : {f : ℕ → ℕ} {r : List ℕ} {i x : ℕ} → i < terms → x ≡ f i → Front f r i → Front f (set r i x) (i + 1)
front_more {f} {r} {i} {x} h e c = record { filled = filled_more h e c.filled; rest = λ j l. get_or-set_other r i j x 0 (omega arith) ∙ c.rest j (omega arith) }

pub front_all : {f : ℕ → ℕ} {r : List ℕ} {i : ℕ} → ((j : ℕ) → i ≤ j → j < terms → f j ≡ 0) → Front f r i → r ≡ table terms f
front_all {f} {r} {i} z c = filled-all {i = terms} (N.le_refl terms) (record { long = c.filled.long; is = λ k l. go k l (dec_lt k i) })
  where
    go : (k : ℕ) → k < terms → Dec (k < i) → coef r k ≡ f k
    go k l (yes b) = c.filled.is k b
    go k l (no b) = c.rest k (omega arith) ∙ sym (z k (omega arith) l)

-- ---- a sum

module _ (m : ℕ) (x y : List ℕ) (k : ℕ) where
  pub mixed_at : (i r : ℕ) → r ≡ (1 * coef x i + k * coef y i) % m → r ≡ coef (plus x (scaled k y)) i % m
  mixed_at i r e = e ∙ ap (λ (n : ℕ). n % m) (ap₂ ◌+◌ (N.one-mul (coef x i)) (sym (coef-scaled k y i)) ∙ sym (coef-plus x (scaled k y) i))

  pub mixed_past : {d : ℕ} → Ends d x → Ends d y → (i : ℕ) → d < i → coef (plus x (scaled k y)) i % m ≡ 0
  mixed_past a b i l = ap (λ (n : ℕ). n % m) (coef-plus x (scaled k y) i ∙ ap₂ ◌+◌ (a.past i l) (coef-scaled k y i ∙ ap (λ (n : ℕ). k * n) (b.past i l) ∙ N.mul-zero k)) ∙ N.zero-mod m

  -- filled to where both end
  pub mixed_all : {d i : ℕ} {c : List ℕ} → Ends d x → Ends d y → d < i → Front (λ j. coef (plus x (scaled k y)) j % m) c i → c ≡ reduced m (plus x (scaled k y))
  unfolding reduced
  mixed_all a b l f = front_all (λ j h t. mixed_past a b j (omega arith)) f

-- two that end at their degrees end at the larger one
module _ {n s d : ℕ} {x y : List ℕ} (a : Measured n x) (b : Measured s y) (e : d ≡ max n s) where
  pub larger_left : Ends d x
  larger_left = record { long = a.long; past = λ k l. (measured_ends a).past k (omega arith); inside = omega (arith, (measured_ends a).inside, (measured_ends b).inside) }

  pub larger_right : Ends d y
  larger_right = record { long = b.long; past = λ k l. (measured_ends b).past k (omega arith); inside = omega (arith, (measured_ends a).inside, (measured_ends b).inside) }

-- ---- a product

module _ (x y : List ℕ) (k : ℕ) where
  pub product_zero : degree x + degree y < k → coef (times x y) k ≡ 0
  product_zero h = coef-times x y k ∙ sum_zeros (suc k) _ (λ i l. go i l (dec_lt (degree x) i))
    where
      go : (i : ℕ) → i < suc k → Dec (degree x < i) → coef x i * coef y (k - i) ≡ 0
      go i l (yes d) = ap (λ (n : ℕ). n * coef y (k - i)) (degree-above x i d) ∙ N.zero-mul (coef y (k - i))
      go i l (no d) = ap (λ (n : ℕ). coef x i * n) (degree-above y (k - i) (omega arith)) ∙ N.mul-zero (coef x i)

  -- only the places within the degrees count
  pub product_at : (lo hi : ℕ) → lo ≤ hi → hi ≤ suc k → lo ≡ k - degree y → hi ≡ min k (degree x) + 1 → inner x y k lo (hi - lo) ≡ coef (times x y) k
  unfolding inner
  product_at lo hi a b e f =
      sym (coef-times x y k
      ∙ ap (λ (n : ℕ). sum n f0) all
      ∙ sum_split lo ((hi - lo) + (suc k - hi)) f0
      ∙ ap₂ ◌+◌ (sum_zeros lo f0 low) (sum_split (hi - lo) (suc k - hi) (λ i. f0 (lo + i)) ∙ ap (λ (n : ℕ). sum (hi - lo) (λ i. f0 (lo + i)) + n) (sum_zeros (suc k - hi) (λ i. f0 (lo + (hi - lo + i))) high))
      ∙ N.zero-add _ ∙ N.add-zero _)
    where
      f0 : ℕ → ℕ
      f0 i = coef x i * coef y (k - i)

      all : suc k ≡ lo + ((hi - lo) + (suc k - hi))
      all = omega arith

      low : (i : ℕ) → i < lo → f0 i ≡ 0
      low i l = ap (λ (n : ℕ). coef x i * n) (degree-above y (k - i) (omega arith)) ∙ N.mul-zero (coef x i)

      high : (i : ℕ) → i < suc k - hi → f0 (lo + (hi - lo + i)) ≡ 0
      high i l = ap (λ (n : ℕ). n * coef y (k - (lo + (hi - lo + i)))) (degree-above x (lo + (hi - lo + i)) (omega arith)) ∙ N.zero-mul (coef y (k - (lo + (hi - lo + i))))

-- where the product or the limit ends
pub product-past : (m : ℕ) {n s : ℕ} (x y : List ℕ) → Measured n x → Measured s y → (j : ℕ) → n + s < j → coef (times x y) j % m ≡ 0
product-past m x y a b j l = ap (λ (n : ℕ). n % m) (product_zero x y j (omega (arith, a.is, b.is))) ∙ N.zero-mod m

-- filled to where it ends
pub product-all : (m : ℕ) {n s d i : ℕ} (x y : List ℕ) {c : List ℕ} → Measured n x → Measured s y → d ≡ min (n + s) limit → d < i → Front (λ j. coef (times x y) j % m) c i → c ≡ reduced m (times x y)
unfolding reduced terms
product-all m x y a b e l f = front_all (λ j h t. product-past m x y a b j (omega arith)) f

-- the places that the sum asks for are there
pub product_places : (x y : List ℕ) (k lo hi : ℕ) → length x ≡ terms → length y ≡ terms → k ≤ degree x + degree y → lo ≡ k - degree y → hi ≡ min k (degree x) + 1
    → Within (length x) (length y) k lo hi
unfolding terms limit
product_places x y k lo hi a b l e f =
    let c = degree-below x (omega arith) in
    let d = degree-below y (omega arith) in
    record { order = omega arith; first = omega arith; down = omega arith; second = omega arith; few = omega arith }

-- ---- above the limit, from the top

pub record Searched (m : ℕ) (f : List ℕ) (k : ℕ) : Type 0 where
  pub none : (i : ℕ) → k < i → coef f i % m ≡ 0

pub searched_none : (m : ℕ) (x y : List ℕ) (k : ℕ) → k ≡ degree x + degree y → Searched m (times x y) k
searched_none m x y k e = record { none = λ i l. ap (λ (n : ℕ). n % m) (product_zero x y i (omega arith)) ∙ N.zero-mod m }

pub searched_low : {m : ℕ} {f : List ℕ} {k : ℕ} → k ≤ limit → Searched m f k → Low m f
searched_low l s = record { above = λ i h. s.none i (omega arith) }

-- one that is not zero
pub not_low : {m : ℕ} {f : List ℕ} {k r : ℕ} → limit < k → r ≡ coef f k % m → (r ≡ 0 → ⊥) → Low m f → ⊥
not_low {k = k} l e n low = n (e ∙ low.above k l)
