-- What was built, through sums, products and powers.
--
--   low_same, reduced_alike        polynomials that are the same modulo m are low together, and are held alike
--   reduced-low                    a low polynomial is the same as it is held
--   reduced-ends, sum-ends, product-ends     where what is held ends
--   sum_low                        a sum is low
--   Powered m f i v                the powers so far are low, and v is the i-th
--   powered-none, powered-more, powered-high, powered-all     a power, a factor at a time
--   shifts_powers                  the power of a single term
--   as_single, as_plus, as_less, as_times, as_scaled, as_power     with what was built on the way
use mathlib.Core.Path.{◌≡◌, refl, sym, ap, ◌∙◌}
use Rattle.std.specs.Prelude.{Option, Some, None}
use mathlib.Core.List.{List, [], ◌∷◌}
use Prim.Native.Nat.{ℕ, zero, suc, ◌+◌, ◌*◌, ◌%◌, ◌^◌, ◌≤◌, ◌<◌, min}
use native.Mathlib.Nat as N
use native.Mathlib.Omega.{arith}
use native.Mathlib.Numerals.{add-one}
use native.Mathlib.Decide.{dec_lt}
use lib.ListN.{get_or-eq_default}
use Rattle.algebra.specs.Polynomial.{coef, plus, scaled, times, power, limit, terms, reduced, Same}
use Rattle.algebra.proofs.Numbers.{table_ext, mul-mod-mod}
use Rattle.algebra.proofs.Coefficients.{coef-scaled}
use Rattle.algebra.proofs.Reduction.{reduced-same, reduced-reduced, reduced-place}
use Rattle.algebra.proofs.Polynomials.{same_refl, same_sym, ◌⨾◌, plus-same, times-same, scaled-same, scaled-one, power-same, plus-nothing}
use Rattle.polynomial.specs.Checks.{Measured}
use Rattle.polynomial.proofs.Filling.{zeros}
use Rattle.composition.specs.Composition.{Ends}
use Rattle.built.specs.declared.Built.{Built}
use Rattle.built.specs.Built.{Low, LowPowers, single, BuiltAs, within, beyond, Settles, low, high, Joins, left, right, both, Shifts, Powers, Raises, base, free}
use Rattle.built.specs.Built as built-specs
use Rattle.built.proofs.Building.{mixed_past, product-past}
use Rattle.built.proofs.Singles.{zero_low, single-low, single-power, shifts_single}

low_same : {m : ℕ} {f g : List ℕ} → Same m f g → Low m f → Low m g
low_same s l = record { above = λ i h. sym (s.at i) ∙ l.above i h }

reduced_alike : {m : ℕ} {f g : List ℕ} → Same m f g → reduced m f ≡ reduced m g
unfolding reduced
reduced_alike s = table_ext terms _ _ (λ i l. s.at i)

pub reduced-low : {m : ℕ} {f : List ℕ} → 0 < m → Low m f → Same m (reduced m f) f
unfolding terms
reduced-low {m} {f} pos l = same_sym (reduced-same m pos f (λ i h. l.above i (omega arith) ∙ sym (N.zero-mod m)))

-- ---- one step

-- said of a polynomial that is the same
settles_same : {m : ℕ} {f g : List ℕ} {v : Option Built} → Same m f g → Settles m f v → Settles m g v
settles_same s (low l e) = low (low_same s l) (e ∙ reduced_alike s)
settles_same s (high n) = high (λ l. n (low_same (same_sym s) l))

-- where it ends
reduced-ends : (m : ℕ) {d : ℕ} (f : List ℕ) {c : List ℕ} → 0 < m → d ≤ limit → ((i : ℕ) → d < i → i ≤ limit → coef f i % m ≡ 0) → c ≡ reduced m f → Ends d c
unfolding terms
reduced-ends m {d} f {c} pos l z e = rw e (record { long = (reduced-reduced m pos f).long; past = λ k b. go k b (dec_lt k terms); inside = l })
  where
    go : (k : ℕ) → d < k → Dec (k < terms) → coef (reduced m f) k ≡ 0
    go k b (yes t) = reduced-place m f k t ∙ z k b (omega arith)
    go k b (no t) = get_or-eq_default (reduced m f) 0 (omega (arith, (reduced-reduced m pos f).long))

-- a sum is low
pub sum-ends : (m k : ℕ) {d : ℕ} {x y c : List ℕ} → 0 < m → Ends d x → Ends d y → c ≡ reduced m (plus x (scaled k y)) → Ends d c
sum-ends m k {d} {x} {y} pos a b e = reduced-ends m (plus x (scaled k y)) pos a.inside (λ i l h. mixed_past m x y k a b i l) e

pub sum_low : (m k : ℕ) {d : ℕ} {x y : List ℕ} → Ends d x → Ends d y → Low m (plus x (scaled k y))
sum_low m k {d} {x} {y} a b = record { above = λ i h. mixed_past m x y k a b i (omega (arith, a.inside)) }

pub product-ends : (m : ℕ) {n s d : ℕ} {x y c : List ℕ} → 0 < m → Measured n x → Measured s y → d ≡ min (n + s) limit → c ≡ reduced m (times x y) → Ends d c
product-ends m {x = x} {y} pos a b o e = reduced-ends m (times x y) pos (omega arith) (λ i l h. product-past m x y a b i (omega arith)) e

-- ---- powers, a factor at a time

pub record Powered (m : ℕ) (f : List ℕ) (i : ℕ) (v : Built) : Type 0 where
  pub low : LowPowers m f i
  pub is : v.coefficients ≡ reduced m (power f i)

pub powered-none : {m : ℕ} (f : List ℕ) {v : Built} → v.coefficients ≡ reduced m (single 1 0) → Powered m f 0 v
unfolding power single
powered-none f e = record { low = record { all = λ k a b. absurd (omega arith) }; is = e }

-- the powers so far are low, f^0 too
pub low-power : {m : ℕ} {f : List ℕ} (i : ℕ) → LowPowers m f i → Low m (power f i)
unfolding power single
low-power zero l = single-low 1 0 (omega arith)
low-power (suc i) l = l.all (suc i) (omega arith) (N.le_refl (suc i))

next_power : {m : ℕ} {f : List ℕ} {i : ℕ} {v : Built} → 0 < m → Powered m f i v → Same m (times f v.coefficients) (power f (suc i))
unfolding power
next_power {m} {f} {i} pos p = times-same m pos (same_refl f) (rw p.is (reduced-low pos (low-power i p.low)))

module _ {m : ℕ} {f : List ℕ} {i : ℕ} {v : Built} (pos : 0 < m) (p : Powered m f i v) where
  pub powered-more : {w : Built} → Settles m (times f v.coefficients) (Some w) → Powered m f (i + 1) w
  powered-more {w} s = rw (add-one i) (go (settles_same (next_power pos p) s))
    where
      go : Settles m (power f (suc i)) (Some w) → Powered m f (suc i) w
      go (low l e) = record { low = record { all = λ k a b. step l k a (dec_lt i k) b }; is = e }
        where
          step : Low m (power f (suc i)) → (k : ℕ) → 1 ≤ k → Dec (i < k) → k ≤ suc i → Low m (power f k)
          step l k a (yes h) b = let q : k ≡ suc i = omega arith in rw q l
          step l k a (no h) b = p.low.all k a (omega arith)

  -- one of them is not low
  pub powered-high : {n : ℕ} → Settles m (times f v.coefficients) None → i < n → Powers m n f None
  powered-high {n} s l = go (settles_same (next_power pos p) s)
    where
      go : Settles m (power f (suc i)) None → Powers m n f None
      go (high k) = built-specs.high (λ a. k (a.all (suc i) (omega arith) (omega arith)))

pub powered-all : {m n : ℕ} {f : List ℕ} {i : ℕ} {v : Built} → i ≡ n → Powered m f i v → Powers m n f (Some v)
powered-all e p = rw (← e) (built-specs.low p.low p.is)

-- a number and what it is modulo m
single-mod : (m a k : ℕ) → Same m (single (a % m) k) (single a k)
unfolding single
single-mod m a zero = record { at = one }
  where
    one : (j : ℕ) → coef ((a % m) ∷ []) j % m ≡ coef (a ∷ []) j % m
    one zero = N.mod-mod a m
    one (suc j) = refl
single-mod m a (suc k) = record { at = up (single-mod m a k) }
  where
    up : Same m (single (a % m) k) (single a k) → (j : ℕ) → coef (0 ∷ single (a % m) k) j % m ≡ coef (0 ∷ single a k) j % m
    up r zero = refl
    up r (suc j) = r.at j

-- the power of a single term
pub shifts_powers : {m n p c : ℕ} {x : List ℕ} {v : Built} → 0 < m → Measured n x → Shifts n p x → c ≡ coef x n ^ p % m → v.coefficients ≡ reduced m (single c (n * p)) → Powers m p x (Some v)
shifts_powers {m} {n} {p} {c} {x} pos d s e is =
    built-specs.low
    (record { all = λ k a b. low_same (same_sym (at k)) (single-low (coef x n ^ k) (n * k) (N.le_trans (N.mul-le-mul_left n b) s.within)) })
    (is ∙ reduced_alike (rw e (single-mod m (coef x n ^ p) (n * p)) ⨾ same_sym (at p)))
  where
    at : (k : ℕ) → Same m (power x k) (single (coef x n ^ k) (n * k))
    at k = power-same m pos k (record { at = λ j. ap (λ (i : ℕ). i % m) (shifts_single x d s j) }) ⨾ record { at = λ j. ap (λ (i : ℕ). i % m) (single-power (coef x n) n k j) }

-- ---- with what was built on the way

-- what it is
as_same : {m : ℕ} {f c : List ℕ} → 0 < m → Low m f → c ≡ reduced m f → Same m c f
as_same pos l e = rw e (reduced-low pos l)

pub as_single : (m c k : ℕ) {v : Built} → k ≤ limit → v.coefficients ≡ reduced m (single c k) → BuiltAs m (single c k) Unit (Some v)
as_single m c k l e = within tt (single-low c k l) e

-- a and b joined as c of them, which is the same as h where a and b are f and g
as_join : {m : ℕ} {f g h : List ℕ} (c : List ℕ → List ℕ → List ℕ) {W U : Type 0} {a b v : Option Built} → 0 < m → BuiltAs m f W a → BuiltAs m g U b → Joins m c a b v
    → ((x y : List ℕ) → Same m x f → Same m y g → Same m (c x y) h) → BuiltAs m h (W × U × Low m h) v
as_join c pos (beyond n) q left s = beyond (λ z. n z.0)
as_join c pos (beyond n) q right s = beyond (λ z. n z.0)
as_join c pos (within w l e) (beyond n) right s = beyond (λ z. n z.1)
as_join {m} {h = h} c {W} {U} pos (within {v = a} w l e) (within {v = b} u k i) (both t) s = go (settles_same (s a.coefficients b.coefficients (as_same pos l e) (as_same pos k i)) t)
  where
    go : {v : Option Built} → Settles m h v → BuiltAs m h (W × U × Low m h) v
    go (low a b) = within (w, u, a) a b
    go (high a) = beyond (λ z. a z.2)

module _ {m : ℕ} (pos : 0 < m) {f g : List ℕ} {W U : Type 0} {a b v : Option Built} (p : BuiltAs m f W a) (q : BuiltAs m g U b) where
  pub as_plus : Joins m (λ x y. plus x (scaled 1 y)) a b v → BuiltAs m (plus f g) (W × U × Low m (plus f g)) v
  as_plus j = as_join (λ x y. plus x (scaled 1 y)) pos p q j (λ c d x y. plus-same m pos x (scaled-one m pos d ⨾ y))

  pub as_less : (k : ℕ) → Joins m (λ x y. plus x (scaled k y)) a b v → BuiltAs m (plus f (scaled k g)) (W × U × Low m (plus f (scaled k g))) v
  as_less k j = as_join (λ x y. plus x (scaled k y)) pos p q j (λ c d x y. plus-same m pos x (scaled-same m pos k y))

  pub as_times : Joins m times a b v → BuiltAs m (times f g) (W × U × Low m (times f g)) v
  as_times j = as_join times pos p q j (λ c d x y. times-same m pos x y)

pub low-scaled : {m : ℕ} (k : ℕ) {f : List ℕ} → Low m f → Low m (scaled k f)
low-scaled {m} k {f} l = record { above = λ i h. ap (λ (n : ℕ). n % m) (coef-scaled k f i) ∙ sym (mul-mod-mod k (coef f i) m) ∙ ap (λ (n : ℕ). k * n % m) (l.above i h) ∙ ap (λ (n : ℕ). n % m) (N.mul-zero k) ∙ N.zero-mod m }

nought : {m : ℕ} {c : List ℕ} → 0 < m → c ≡ reduced m (single 0 0) → Same m c []
unfolding single
nought {m} pos e = as_same pos (zero_low (λ j h. zeros 1 j)) e ⨾ record { at = λ j. ap (λ (n : ℕ). n % m) (zeros 1 j) }

-- k times b, as nothing and k times b
pub as_scaled : {m : ℕ} (pos : 0 < m) (k : ℕ) {g : List ℕ} {U : Type 0} {a : Built} {b v : Option Built} → a.coefficients ≡ reduced m (single 0 0) → BuiltAs m g U b
    → Joins m (λ x y. plus x (scaled k y)) (Some a) b v → BuiltAs m (scaled k g) U v
as_scaled pos k e (beyond n) right = beyond n
as_scaled {m} pos k {g} {U} e (within u l i) (both t) = go (settles_same (plus-same m pos (nought pos e) (scaled-same m pos k (as_same pos l i)) ⨾ plus-nothing m pos (scaled k g)) t)
  where
    go : {v : Option Built} → Settles m (scaled k g) v → BuiltAs m (scaled k g) U v
    go (low a b) = within u a b
    go (high a) = absurd (a (low-scaled k l))

pub as_power : {m : ℕ} (pos : 0 < m) {p : ℕ} {f : List ℕ} {W : Type 0} {a v : Option Built} → BuiltAs m f W a → Raises m p a v → BuiltAs m (power f p) (W × LowPowers m f p) v
as_power pos (beyond n) base = beyond (λ z. n z.0)
as_power {m} pos {p} {f} {W} (within {v = a} w l e) (free r) = go r
  where
    same : (k : ℕ) → Same m (power a.coefficients k) (power f k)
    same k = power-same m pos k (as_same pos l e)

    go : {v : Option Built} → Powers m p a.coefficients v → BuiltAs m (power f p) (W × LowPowers m f p) v
    go (built-specs.low c is) = let c' : LowPowers m f p = record { all = λ k x y. low_same (same k) (c.all k x y) } in within (w, c') (low-power p c') (is ∙ reduced_alike (same p))
    go (built-specs.high c) = beyond (λ z. c (record { all = λ k x y. low_same (same_sym (same k)) (z.1.all k x y) }))
