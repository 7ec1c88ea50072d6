-- 01's Right part rule.
--
--   monomial, monomial_monic              x^r
--   power_at                              how the place j + (r-1)s of h^r knows the coefficient of x^j
--   after-power                           the leading terms of g(h) are those of h^r
--   right-term                            the two sides of 01's equation, for any monic g and h
--   pair-forced                           every normal pair obeys the rule
--   forced-leading                        what obeys it agrees with f at the leading terms, whatever the monic g
--   forced-terms                          it looks at the leading terms of f only
--   forced_unique                         and tells h, where r has an inverse
use mathlib.Core.Path.{◌≡◌, refl, sym, ap, ap₂, subst, ◌∙◌}
use mathlib.Core.List.{List, [], ◌∷◌}
use Prim.Native.Nat.{ℕ, zero, suc, ◌+◌, ◌*◌, ◌-◌, ◌%◌, ◌≤◌, ◌<◌}
use native.Mathlib.Nat as N
use native.Mathlib.Omega.{arith}
use Rattle.algebra.specs.Polynomial.{coef, power, after, Same, Monic}
use Rattle.algebra.specs.Number.{Invertible}
use Rattle.algebra.specs.Pair.{Pair, Normal, ForcedRight, terms_from}
use Rattle.algebra.proofs.Ring as A
use Rattle.algebra.proofs.Series as S
use Rattle.algebra.proofs.Evaluation.{⟦◌⟧, nat, nat_add, nat_mul, nat_zero, eval-power, pow, series_coef}
use Rattle.algebra.proofs.Residues.{residues, Res, red, nat_red}
use Rattle.algebra.proofs.Degrees.{Deg}
use Rattle.algebra.proofs.Forced.{pow-top, lead-at}
use Rattle.algebra.proofs.Polynomials.{after-compose, monic_series, residue_at, at_residue}
use Rattle.algebra.proofs.Coefficients.{after-monic}
use Rattle.algebra.proofs.Leading.{right-part-leading}
use Rattle.algebra.proofs.ForcedPair.{leading}
use Rattle.algebra.proofs.Residues

terms_from_below : (j : ℕ) (h : List ℕ) (i : ℕ) → i < j → coef (terms_from j h) i ≡ 0
unfolding terms_from
terms_from_below zero h i l = absurd (N.not-suc-le-zero l)
terms_from_below (suc j) [] i l = refl
terms_from_below (suc j) (a ∷ h) zero l = refl
terms_from_below (suc j) (a ∷ h) (suc i) l = terms_from_below j h i (N.le_of_suc-le-suc l)

terms_from_above : (j : ℕ) (h : List ℕ) (i : ℕ) → j ≤ i → coef (terms_from j h) i ≡ coef h i
unfolding terms_from
terms_from_above zero h i l = refl
terms_from_above (suc j) [] i l = refl
terms_from_above (suc j) (a ∷ h) zero l = absurd (N.not-suc-le-zero l)
terms_from_above (suc j) (a ∷ h) (suc i) l = terms_from_above j h i (N.le_of_suc-le-suc l)

-- x^r
unfoldable pub monomial : ℕ → List ℕ
monomial zero = 1 ∷ []
monomial (suc r) = 0 ∷ monomial r

pub monomial_monic : (m r : ℕ) → Monic m r (monomial r)
unfolding monomial
monomial_monic m zero = record { top = refl; above = far }
  where
    far : (i : ℕ) → 0 < i → coef (1 ∷ []) i % m ≡ 0 % m
    far zero l = absurd (N.not-suc-le-zero l)
    far (suc i) l = refl
monomial_monic m (suc r) = up (monomial_monic m r)
  where
    up : Monic m r (monomial r) → Monic m (suc r) (0 ∷ monomial r)
    up k = record { top = k.top; above = far }
      where
        far : (i : ℕ) → suc r < i → coef (0 ∷ monomial r) i % m ≡ 0 % m
        far zero l = absurd (N.not-suc-le-zero l)
        far (suc i) l = k.above i (N.le_of_suc-le-suc l)

module _ (m : ℕ) (pos : 0 < m) where
  abbrev Z : A.Ring
  Z = residues m pos

  terms_from_monic : {s : ℕ} (j : ℕ) {h : List ℕ} → j ≤ s → Monic m s h → Monic m s (terms_from j h)
  terms_from_monic {s} j {h} l mon = record { top = ap (λ (x : ℕ). x % m) (terms_from_above j h s l) ∙ mon.top; above = λ i b. ap (λ (x : ℕ). x % m) (terms_from_above j h i (omega arith)) ∙ mon.above i b }

  -- the place j + r s of h^(r+1) knows h's coefficient of x^j only by (r + 1) c_j
  pub power_at : {s : ℕ} (r j : ℕ) {h : List ℕ} → j < s → Monic m s h
      → coef (power h (suc r)) (j + r * s) % m ≡ (coef (power (terms_from (suc j) h) (suc r)) (j + r * s) + suc r * coef h j) % m
  unfolding red S.◌⊞◌ S.sneg
  power_at {s} r j {h} l mon = at_residue m pos (power h (suc r)) i _ (at h ∙ pow-top Z (monic_series m pos mon) (monic_series m pos (terms_from_monic (suc j) l mon)) r split low
      ∙ ap₂ (Residues.radd m pos) (sym (at k) ∙ series_coef Z (power k (suc r)) i) (ap (λ (x : Res m pos). Residues.rmul m pos x (nat Z (suc r))) here ∙ A.mul_comm Z _ _ ∙ sym (nat_mul Z (suc r) (coef h j)))
      ∙ sym (nat_add Z _ _) ∙ nat_red m pos _)
    where
      i : ℕ
      i = j + r * s

      k : List ℕ
      k = terms_from (suc j) h

      at : (p : List ℕ) → ⟦ Z ⟧ (power p (suc r)) i ≡ pow (S.series Z) (⟦ Z ⟧ p) (suc r) i
      at p = ap (λ (q : ℕ → Res m pos). q i) (eval-power (S.series Z) p (suc r) (S.X Z))

      D : ℕ → Res m pos
      D = S.◌⊞◌ Z (⟦ Z ⟧ h) (S.sneg Z (⟦ Z ⟧ k))

      split : ⟦ Z ⟧ h ≡ S.◌⊞◌ Z (⟦ Z ⟧ k) D
      split = sym (A.add-sub (S.series Z) (⟦ Z ⟧ h) (⟦ Z ⟧ k))

      low : Deg Z j D
      low = record { above = λ x b. A.sub_self Z (series_coef Z h x ∙ ap (nat Z) (sym (terms_from_above (suc j) h x b)) ∙ sym (series_coef Z k x)) }

      here : D j ≡ nat Z (coef h j)
      here = ap₂ (Residues.radd m pos) (series_coef Z h j) (ap (Residues.rneg m pos) (series_coef Z k j ∙ ap (nat Z) (terms_from_below (suc j) h j (N.le_refl (suc j))) ∙ nat_zero Z) ∙ A.neg_zero Z) ∙ A.add-zero Z _

  -- the leading terms of g(h) are those of h^r
  pub after-power : {s : ℕ} (r : ℕ) {g h : List ℕ} → Monic m (suc r) g → Monic m s h → (i : ℕ) → r * s < i → coef (after g h) i % m ≡ coef (power h (suc r)) i % m
  after-power {s} r {g} {h} mg mh i l = at_residue m pos (after g h) i _ (ap (λ (q : ℕ → Res m pos). q i) (after-compose m pos (suc (suc r)) g h (monic_series m pos mg).deg.above)
      ∙ lead-at Z (monic_series m pos mh).deg r (⟦ Z ⟧ g) (monic_series m pos mg).top i l ∙ sym (ap (λ (q : ℕ → Res m pos). q i) (eval-power (S.series Z) h (suc r) (S.X Z))) ∙ residue_at m pos (power h (suc r)) i _ refl)

  -- the two sides of 01's equation, for any monic g and h
  pub right-term : {r s : ℕ} {g h : List ℕ} → 0 < r → Monic m r g → Monic m s h → (k : ℕ) → 0 < k → k < s
      → coef (after g h) (r * s - k) % m ≡ (coef (power (terms_from (suc (s - k)) h) r) (r * s - k) + r * coef h (s - k)) % m
  right-term {r = zero} rp mg mh k a b = absurd (N.not-suc-le-zero rp)
  right-term {r = suc r} {s = s} {g = g} {h = h} rp mg mh k a b =
      subst (λ (i : ℕ). coef (after g h) i % m ≡ (coef (power (terms_from (suc (s - k)) h) (suc r)) i + suc r * coef h (s - k)) % m) place
      (after-power r mg mh (s - k + r * s) (omega arith) ∙ power_at r (s - k) (omega arith) mh)
    where
      place : s - k + r * s ≡ suc r * s - k
      place = omega arith

  -- every normal pair obeys 01's rule
  pub pair-forced : {r s : ℕ} {f g h : List ℕ} → 0 < r → Pair m f r s g h → Normal m h → ForcedRight m r s f h
  pair-forced {r} {s} rp p z = record { monic = p.right; normal = z; forced = λ k a b. sym (p.whole.at (r * s - k) ∙ right-term rp p.left p.right k a b) }

  -- what obeys it agrees with f at the leading terms, whatever the monic g
  pub forced-leading : {r s : ℕ} {f g h : List ℕ} → 0 < r → ForcedRight m r s f h → Monic m r g
      → (k : ℕ) → 0 < k → k < s → coef f (r * s - k) % m ≡ coef (after g h) (r * s - k) % m
  forced-leading rp c mg k a b = sym (right-term rp mg c.monic k a b ∙ c.forced k a b)

  -- it looks at the leading terms of f only (request No. 11)
  pub forced-terms : {r s : ℕ} {f f' h : List ℕ} → ((k : ℕ) → 0 < k → k < s → coef f (r * s - k) % m ≡ coef f' (r * s - k) % m) → ForcedRight m r s f h → ForcedRight m r s f' h
  forced-terms e c = record { monic = c.monic; normal = c.normal; forced = λ k a b. c.forced k a b ∙ e k a b }

  -- and tells h, where r has an inverse
  pub forced_unique : {r s : ℕ} {f h h' : List ℕ} → 0 < r → 0 < s → Invertible m r → ForcedRight m r s f h → ForcedRight m r s f h' → Same m h h'
  forced_unique {r} rp sp i c d = right-part-leading m pos rp i mx mx c.monic d.monic c.normal d.normal
      (leading m pos sp refl (after-monic m pos sp mx c.monic) mx d.monic (λ k a b. sym (forced-leading rp c mx k a b) ∙ forced-leading rp d mx k a b))
    where
      mx : Monic m r (monomial r)
      mx = monomial_monic m r
