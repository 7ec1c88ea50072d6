-- The degree, by a walk from the top down.
--
--   highest-start, highest-none   the walk starts with the degree, and ends at 0
--   highest_zero, highest-here    a power whose coefficient is 0 is passed; at the first other the walk ends
--   degree-below                  the degree of a list that is not empty is below its length
--   degree-above                  the coefficients above the degree are 0
--   degree-leads                  that of the degree is not, where the degree is above 0
--   degree-top                    a coefficient that is not 0, with only zeros above, is that of the degree
--   degree-same                   lists with the same coefficients have the same degree, however long they are
use mathlib.Core.Path.{◌≡◌, refl, sym, ◌∙◌}
use mathlib.Core.Logic.{⊎_elim}
use mathlib.Core.List.{List}
use Prim.Native.Nat.{ℕ, zero, suc, ◌-◌, ◌≤◌, ◌<◌}
use native.Mathlib.Nat.{not-suc-le-zero, eq-or-lt_of_le, le_antisymm}
use native.Mathlib.Decide.{dec_lt}
use native.Mathlib.Omega.{arith}
use lib.ListN.{length, get_or-eq_default}
use Rattle.algebra.specs.Polynomial.{coef, highest, degree}

module _ (f : List ℕ) where
  -- the walk starts with the degree
  pub highest-start : highest (length f) f ≡ degree f
  unfolding degree
  highest-start = refl

  -- nothing is below x^0
  pub highest-none : highest 0 f ≡ 0
  unfolding highest
  highest-none = refl

  -- a power whose coefficient is 0 is passed
  pub highest_zero : {d k : ℕ} → d ≡ suc k → coef f k ≡ 0 → highest d f ≡ highest k f
  unfolding highest
  highest_zero o e = rw (o, highest, e)

  -- at the first other coefficient the walk ends
  pub highest-here : {d k : ℕ} → d ≡ suc k → ¬ (coef f k ≡ 0) → highest d f ≡ k
  unfolding highest
  highest-here {d} {k} o h = rw o (go (coef f k) refl)
    where
      go : (c : ℕ) → coef f k ≡ c → highest (suc k) f ≡ k
      go zero e = absurd (h e)
      go (suc c) e = rw (highest, e)

  -- what the walk down from x^k finds at x^d
  record Found (k d : ℕ) : Type 0 where
    below : d ≤ k - 1
    above : (i : ℕ) → d < i → i < k → coef f i ≡ 0
    leads : 0 < d → ¬ (coef f d ≡ 0)

  found : (k : ℕ) → Found k (highest k f)
  found zero = rw highest-none (record { below = omega arith; above = λ i h l. absurd (not-suc-le-zero l); leads = λ h. absurd (not-suc-le-zero h) })
  found (suc k) = go (found k) (dec_lt 0 (coef f k))
    where
      go : Found k (highest k f) → Dec (0 < coef f k) → Found (suc k) (highest (suc k) f)
      go p (yes n) =
          rw (highest-here {k = k} refl (omega arith))
          (record { below = omega arith; above = λ i h l. absurd (omega arith); leads = λ h z. omega arith })
      go p (no n) =
          rw (highest_zero {k = k} refl (omega arith))
          (record {
            below = omega arith;
            above = λ i h l.
                ⊎_elim (λ (e : i ≡ k). rw e (omega arith)) (λ (b : i < k). p.above i h b) (eq-or-lt_of_le (omega arith));
            leads = p.leads;
          })

  at-degree : Found (length f) (degree f)
  at-degree = rw (← highest-start) (found (length f))

  -- the degree of a list that is not empty is below its length
  pub degree-below : 0 < length f → degree f < length f
  degree-below l = omega (arith, at-degree.below)

  -- the coefficients above the degree are 0
  pub degree-above : (i : ℕ) → degree f < i → coef f i ≡ 0
  degree-above i h = go (dec_lt i (length f))
    where
      go : Dec (i < length f) → coef f i ≡ 0
      go (yes l) = at-degree.above i h l
      go (no l) = get_or-eq_default f 0 (omega arith)

  -- a degree above 0 has a coefficient that is not 0
  pub degree-leads : 0 < degree f → ¬ (coef f (degree f) ≡ 0)
  degree-leads = at-degree.leads

  -- a coefficient that is not 0, with only zeros above, is that of the degree
  pub degree-top : (n : ℕ) → ¬ (coef f n ≡ 0) → ((i : ℕ) → n < i → coef f i ≡ 0) → degree f ≡ n
  degree-top n t z = le_antisymm (under (dec_lt n (degree f))) (over (dec_lt (degree f) n))
    where
      under : Dec (n < degree f) → degree f ≤ n
      under (yes l) = absurd (at-degree.leads (omega arith) (z (degree f) l))
      under (no l) = omega arith

      over : Dec (degree f < n) → n ≤ degree f
      over (yes l) = absurd (t (degree-above n l))
      over (no l) = omega arith

-- the coefficients tell the degree
pub degree-same : (f g : List ℕ) → ((i : ℕ) → coef f i ≡ coef g i) → degree f ≡ degree g
degree-same f g e = le_antisymm (half f g e) (half g f (λ i. sym (e i)))
  where
    half : (f g : List ℕ) → ((i : ℕ) → coef f i ≡ coef g i) → degree f ≤ degree g
    half f g e = go (dec_lt (degree g) (degree f))
      where
        go : Dec (degree g < degree f) → degree f ≤ degree g
        go (yes l) = absurd ((at-degree f).leads (omega arith) (e (degree f) ∙ degree-above g (degree f) l))
        go (no l) = omega arith
