-- The rows that the loops fill are those of the right part that 01's rule forces.
--
--   rows_root      row 0, from the top, is the right part of f as far as place s - 1; its place s + 1 tells whether x^(n-s-1) is the report
use mathlib.Core.Path.{◌≡◌, refl, sym, ◌∙◌, ap, ap₂}
use mathlib.Core.List.{List, [], ◌∷◌}
use lib.Dec.{eqb}
use borrow.Author.Tests.{eqb-true, eqb-false}
use Prim.Native.Nat.{ℕ, zero, suc, min, ◌+◌, ◌*◌, ◌-◌, ◌%◌, ◌≤◌, ◌<◌}
use native.Mathlib.Nat.{mul-le-mul_right, mod-mod, mod-eq_of_lt, zero-mod, not-suc-le-zero}
use native.Mathlib.Omega.{arith}
use Rattle.algebra.specs.Number.{choose, table}
use Rattle.algebra.specs.Polynomial.{coef, power, Monic}
use Rattle.algebra.specs.Pair.{ForcedRight, Report, terms_from}
use Rattle.algebra.proofs.Ring.{Ring}
use Rattle.algebra.proofs.Ring as A
use Rattle.algebra.proofs.Series as S
use Rattle.algebra.proofs.Sums.{sum, sum-suc, sum_zero, sum_ext, sum_last}
use Rattle.algebra.proofs.Evaluation.{nat, nat_zero, nat_add, nat_mul, pow, pow-zero, pow-suc, eval-power, ⟦◌⟧, series_coef}
use Rattle.algebra.proofs.Residues
use Rattle.algebra.proofs.Residues.{Res, red, red_eq, nat_red}
use Rattle.algebra.proofs.Degrees.{deg_const}
use Rattle.algebra.proofs.Binomials.{choose_one}
use Rattle.algebra.proofs.Tops.{rev, rev_at, rev_past, top-power, order-pow, row_step, sum_clip}
use Rattle.algebra.proofs.Polynomials.{Z, monic_series, at_residue}
use Rattle.algebra.proofs.RightPart.{power_at, forced-terms}
use Rattle.algebra.proofs.Agreement.{forced-left-exists}
use Rattle.algebra.proofs.Roots.{root_differs, root_closes}
use Rattle.algebra.proofs.Numbers.{table_below}
use Rattle.inner.specs.Inner.{strided}
use Rattle.inner.proofs.Inner.{inner-none, inner-more, strided-none, strided-more}
use Rattle.polynomial.specs.Degrees.{Degrees}
use Rattle.right.specs.Right.{RightPart, Root}
use Rattle.right.specs.Rows.{Scaled, Rows, Upside}
use Rattle.right.proofs.Columns.{unscaled}
use Rattle.right.proofs.Turning.{upside_below}

-- a sum of products, one more at a time, in a ring
module _ (R : Ring) where
  open R use {El, ◌⊕◌, ◌⊗◌}

  nat_total : (F a b : ℕ → ℕ) → F 0 ≡ 0 → ((n : ℕ) → F (suc n) ≡ F n + a n * b n) → (n : ℕ) → nat R (F n) ≡ sum R n (λ j. nat R (a j) ⊗ nat R (b j))
  nat_total F a b z e zero = ap (nat R) z ∙ nat_zero R ∙ sym (sum_zero R _)
  nat_total F a b z e (suc n) = ap (nat R) (e n) ∙ nat_add R _ _ ∙ ap₂ ◌⊕◌ (nat_total F a b z e n) (nat_mul R _ _) ∙ sym (sum_last R n _)

-- the two sides of 01's equation: that place of h^r knows h's own coefficient only by r times it
power-term : {m : ℕ} (pos : 0 < m) (r : ℕ) {s : ℕ} {h : List ℕ} → 0 < r → Monic m s h → (k : ℕ) → 0 < k → k < s
    → coef (power h r) (r * s - k) % m ≡ (coef (power (terms_from (suc (s - k)) h) r) (r * s - k) + r * coef h (s - k)) % m
power-term pos zero rp mon k kp ks = absurd (not-suc-le-zero rp)
power-term {m} pos (suc r) {s} rp mon k kp ks =
    let place : s - k + r * s ≡ suc r * s - k = omega arith in
    rw place at (power_at m pos r (s - k) (omega arith) mon)

-- row 0 of a list, from the top, is h
record Reads (s : ℕ) (a h : List ℕ) : Type 0 where
  pub lead : coef h s ≡ 1
  pub origin : coef h 0 ≡ 0
  pub past : (i : ℕ) → s < i → coef h i ≡ 0
  pub is : (k : ℕ) → 0 < k → k < s → coef h (s - k) ≡ coef a k

module _ (m : ℕ) (pos : 0 < m) {f : List ℕ} {n r s w u top K : ℕ} {b a h : List ℕ} (two : 2 ≤ r) (sw : s ≤ w) (sK : s ≤ K) (most : min r (s - 1) ≤ top)
    (B : Scaled m r u top b) (unit : u * r % m ≡ 1 % m) (T : Rows m f n r w b K a) (U : Reads s a h) where
  abbrev R : Ring
  R = Z m pos

  abbrev H : ℕ → Res m pos
  H = ⟦ R ⟧ h

  nat_mod : (x : ℕ) → nat R (x % m) ≡ nat R x
  nat_mod x = nat_red m pos (x % m) ∙ red_eq m pos (x % m) x (mod-mod x m) ∙ sym (nat_red m pos x)

  -- h from the top, without its leading 1
  t : ℕ → Res m pos
  t zero = red m pos 0
  t (suc k) = rev R s H (suc k)

  t_zero : t 0 ≡ red m pos 0
  unfolding t
  t_zero = refl

  t_at : (k : ℕ) → 0 < k → k ≤ s → t k ≡ H (s - k)
  unfolding t
  t_at zero l g = absurd (not-suc-le-zero l)
  t_at (suc k) l g = rev_at R s H (suc k) g

  t_past : (k : ℕ) → s < k → t k ≡ red m pos 0
  unfolding t
  t_past zero l = refl
  t_past (suc k) l = rev_past R s H (suc k) l

  t_is : (k : ℕ) → 0 < k → k < s → t k ≡ nat R (coef a k)
  t_is k l g = t_at k l (omega arith) ∙ series_coef R h (s - k) ∙ ap (nat R) (U.is k l g)

  monic-h : Monic m s h
  monic-h = record { top = ap (λ (x : ℕ). x % m) U.lead; above = λ i l. ap (λ (x : ℕ). x % m) (U.past i l) }

  abbrev pw : ℕ → ℕ → Res m pos
  pw i k = pow (S.series R) t i k

  pw_one : (k : ℕ) → pw 1 k ≡ t k
  pw_one k = ap (λ (p : ℕ → Res m pos). p k) (pow-suc (S.series R) t 0 ∙ ap (S.◌⊠◌ R t) (pow-zero (S.series R) t) ∙ A.mul-one (S.series R) t)

  -- row i of the list holds t^(i+1)
  row : (i k : ℕ) → suc i ≤ k → k < s → suc i ≤ r → pw (suc i) k ≡ nat R (coef a (i * w + k))
  row zero k l ks lr =
      let e : k ≡ 0 * w + k = omega arith in
      pw_one k ∙ t_is k (omega arith) ks ∙ ap (λ (j : ℕ). nat R (coef a j)) e
  row (suc i) k l ks lr =
      row_step R t t_zero (suc i) k (omega arith)
      ∙ sum_ext R (k - suc i) _ _
      (λ j g.
      let e : suc j ≡ 1 + j = omega arith in
      let q : i * w + (k - suc j) ≡ i * w + k - (1 + j) = omega arith in
      ap₂ (Residues.rmul m pos) (t_is (suc j) (omega arith) (omega arith) ∙ ap (λ (x : ℕ). nat R (coef a x)) e)
      (row i (k - suc j) (omega arith) (omega arith) (omega arith) ∙ ap (λ (x : ℕ). nat R (coef a x)) q))
      ∙ sym (nat_total R _ _ _ (inner-none a a (i * w + k) 1) (inner-more a a (i * w + k) 1) (k - suc i)) ∙ sym (nat_mod _) ∙ ap (nat R) (sym (T.is k i (omega arith) (omega arith)))

  binomials : List ℕ
  binomials = table (suc r) (choose r)

  binomials-at : (i : ℕ) → i ≤ r → coef binomials i ≡ choose r i
  unfolding binomials
  binomials-at i l = table_below (suc r) (choose r) i (omega arith)

  -- column k: the terms of the binomial theorem at x^(rs-k)
  module _ (k : ℕ) (kp : 0 < k) (ks : k < s) where
    abbrev term : ℕ → Res m pos
    term i = Residues.rmul m pos (nat R (choose r i)) (pw i k)

    first : term 0 ≡ red m pos 0
    first = ap (Residues.rmul m pos (nat R (choose r 0))) (ap (λ (p : ℕ → Res m pos). p k) (pow-zero (S.series R) t) ∙ (deg_const R 0 _).above k kp) ∙ A.mul-zero R _

    second : term 1 ≡ nat R (r * coef a k)
    second = ap₂ (λ (x : ℕ) (y : Res m pos). Residues.rmul m pos (nat R x) y) (choose_one r) (pw_one k ∙ t_is k kp ks) ∙ sym (nat_mul R r _)

    later : (i : ℕ) → i < min r k - 1 → term (suc (suc i)) ≡ Residues.rmul m pos (nat R (coef binomials (2 + i))) (nat R (coef a (k + w + i * w)))
    later i g =
        let e : suc i * w + k ≡ k + w + i * w = omega arith in
        let q : suc (suc i) ≡ 2 + i = omega arith in
        ap₂ (Residues.rmul m pos) (ap (nat R) (sym (binomials-at (suc (suc i)) (omega arith))) ∙ ap (λ (x : ℕ). nat R (coef binomials x)) q)
        (row (suc i) k (omega arith) ks (omega arith) ∙ ap (λ (x : ℕ). nat R (coef a x)) e)

    -- t^i has no place k where i is above k
    beyond : (i : ℕ) → min r k - 1 ≤ i → i < min r k - 1 + (r - min r k) → term (suc (suc i)) ≡ red m pos 0
    beyond i g u = ap (Residues.rmul m pos (nat R (choose r (suc (suc i))))) (order-pow R t t_zero (suc (suc i)) k (omega arith)) ∙ A.mul-zero R _

    total : sum R (suc r) term ≡ nat R (r * coef a k + strided binomials a 2 (k + w) w (min r k - 1))
    total =
        let e : r ≡ suc (r - 1) = omega arith in
        let q : r - 1 ≡ min r k - 1 + (r - min r k) = omega arith in
        sum-suc R r term ∙ ap (λ (x : Res m pos). Residues.radd m pos x (sum R r (λ i. term (suc i)))) first ∙ A.zero-add R _
        ∙ ap (λ (x : ℕ). sum R x (λ i. term (suc i))) e ∙ sum-suc R (r - 1) (λ i. term (suc i))
        ∙ ap₂ (Residues.radd m pos) second
        (ap (λ (x : ℕ). sum R x (λ i. term (suc (suc i)))) q ∙ sum_clip R (min r k - 1) (r - min r k) (λ i. term (suc (suc i))) beyond
        ∙ sum_ext R (min r k - 1) _ _ later ∙ sym (nat_total R _ _ _ (strided-none binomials a 2 (k + w) w) (strided-more binomials a 2 (k + w) w) (min r k - 1)))
        ∙ sym (nat_add R _ _)

    leading : coef (power h r) (r * s - k) % m ≡ coef f (n - k) % m
    leading =
        at_residue m pos (power h r) (r * s - k) (coef f (n - k))
        (ap (λ (p : ℕ → Res m pos). p (r * s - k)) (eval-power (S.series R) h r (S.X R))
        ∙ top-power R (monic_series m pos monic-h) t_zero t_at t_past r k (omega (arith, mul-le-mul_right {m = 1} {n = r} s (omega arith)))
        ∙ total ∙ nat_red m pos _ ∙ red_eq m pos _ _ (unscaled binomials B unit T k kp (omega arith) (omega arith) binomials-at))

  rows-forced : {F : List ℕ} → ((k : ℕ) → 0 < k → k < s → coef F (r * s - k) % m ≡ coef f (n - k) % m) → ForcedRight m r s F h
  rows-forced e = record { monic = monic-h; normal = record { constant = ap (λ (x : ℕ). x % m) U.origin }; forced = λ k l g. sym (power-term pos r (omega arith) monic-h k l g) ∙ leading k l g ∙ sym (e k l g) }

-- row 0 read from the top, as a list
unfoldable down : ℕ → List ℕ → List ℕ
down zero a = 1 ∷ []
down (suc j) a = coef a (suc j) ∷ down j a

down-lead : (j : ℕ) (a : List ℕ) → coef (down j a) j ≡ 1
unfolding down
down-lead zero a = refl
down-lead (suc j) a = down-lead j a

down-past : (j : ℕ) (a : List ℕ) (i : ℕ) → j < i → coef (down j a) i ≡ 0
unfolding down
down-past zero a zero l = absurd (not-suc-le-zero l)
down-past zero a (suc i) l = refl
down-past (suc j) a zero l = absurd (not-suc-le-zero l)
down-past (suc j) a (suc i) l = down-past j a i (omega arith)

down_is : (j : ℕ) (a : List ℕ) (i : ℕ) → i < j → coef (down j a) i ≡ coef a (j - i)
unfolding down
down_is zero a i l = absurd (not-suc-le-zero l)
down_is (suc j) a zero l = ap (coef a) (omega arith)
down_is (suc j) a (suc i) l = down_is j a i (omega arith) ∙ ap (coef a) (omega arith)

down_reads : (j : ℕ) (a : List ℕ) → Reads (suc j) a (0 ∷ down j a)
down_reads j a = record { lead = down-lead j a; origin = refl; past = far; is = near }
  where
    far : (i : ℕ) → suc j < i → coef (0 ∷ down j a) i ≡ 0
    far zero l = refl
    far (suc i) l = down-past j a i (omega arith)

    near : (k : ℕ) → 0 < k → k < suc j → coef (0 ∷ down j a) (suc j - k) ≡ coef a k
    near k l g =
        let e : suc j - k ≡ suc (j - k) = omega arith in
        let d : j - (j - k) ≡ k = omega arith in
        ap (coef (0 ∷ down j a)) e ∙ down_is j a (j - k) (omega arith) ∙ ap (coef a) d

upside_reads : {s : ℕ} {a h : List ℕ} → Upside s a h → Reads s a h
upside_reads U = record { lead = U.lead; origin = U.origin; past = U.past; is = U.is }

module _ {m : ℕ} (one : 1 < m) {f : List ℕ} {n r s u : ℕ} {b a : List ℕ} (D : Degrees n r s)
    (B : Scaled m r u (min r (s + 1)) b) (unit : u * r % m ≡ 1 % m) (T : Rows m f n r (s + 2) b (s + 2) a) where
  pos : 0 < m
  pos = omega arith

  -- what reads row 0 as far as place s - 1 is the right part
  rows-read : {h : List ℕ} → Reads s a h → ForcedRight m r s f h
  rows-read U = rows-forced m pos D.two_left (omega arith) (omega arith) (omega arith) B unit T U (λ k l g. ap (λ (x : ℕ). coef f (x - k) % m) D.product)

  rows_right : {h : List ℕ} → Upside s a h → RightPart m f r s h
  rows_right U = record {
    reduced = record { long = U.long; below = λ i l. upside_below one U T.room.small i };
    forced = rows-read (upside_reads U);
    leading = λ f' e. forced-terms m pos (λ k l g. ap (λ (x : ℕ). x % m) (e k g)) (rows-read (upside_reads U));
  }

  -- row 0 as far as place s + 1, from the top
  abbrev top-row : List ℕ
  top-row = 0 ∷ down (s + 1) a

  whole : Reads (s + 2) a top-row
  whole = let wide : suc (s + 1) ≡ s + 2 = omega arith in rw wide at (down_reads (s + 1) a)

  lead : (k : ℕ) → 0 < k → k < s + 2 → coef (power top-row r) (r * (s + 2) - k) % m ≡ coef f (n - k) % m
  lead k l g = leading m pos D.two_left (omega arith) (omega arith) (omega arith) B unit T whole k l g

  lead-product : (k : ℕ) → 0 < k → k < s + 2 → coef (power top-row r) (r * (s + 2) - k) % m ≡ coef f (r * s - k) % m
  lead-product k l g = lead k l g ∙ ap (λ (x : ℕ). coef f (x - k) % m) (sym D.product)

  root : ForcedRight m r (s + 2) (power top-row r) top-row
  root = rows-forced m pos D.two_left (omega arith) (omega arith) (omega arith) B unit T whole {F = power top-row r} lead

  last : coef a (s + 1) ≡ coef top-row 1
  last = sym (down_is (s + 1) a 0 (omega arith) ∙ ap (coef a) (omega arith))

  -- place s + 1 of the root is not 0
  rows_gap : ¬ (coef a (s + 1) ≡ 0) → Monic m (r * s) f → Report m r s f (r * s - s - 1)
  rows_gap bad mf =
      let (g, L) = forced-left-exists m pos (omega arith) right.monic mf in
      record {
        g = g;
        h = 0 ∷ down (s - 1) a;
        forced = record { right = right; left = L };
        differs = root_differs m pos {F = power top-row r} D.two_left D.two_right (record { inverse = u; unit = unit }) root lead-product mf (record { right = right; left = L }) gap;
      }
    where
      narrow : suc (s - 1) ≡ s
      narrow = omega arith

      right : ForcedRight m r s f (0 ∷ down (s - 1) a)
      right = rows-read (rw narrow at (down_reads (s - 1) a))

      gap : ¬ (coef (0 ∷ down (s + 1) a) 1 % m ≡ 0 % m)
      gap z = bad (sym (mod-eq_of_lt (T.room.small (s + 1))) ∙ ap (λ (x : ℕ). x % m) last ∙ z ∙ zero-mod m)

  -- and where it is 0
  rows_open : coef a (s + 1) ≡ 0 → Monic m (r * s) f → Report m r s f (r * s - s - 1) → ⊥
  rows_open z mf = root_closes m pos {F = power top-row r} D.two_left D.two_right (record { inverse = u; unit = unit }) root lead-product mf (ap (λ (x : ℕ). x % m) (sym last ∙ z))

-- what the leaf answers
pub rows_root : {m : ℕ} {f : List ℕ} {n r s u top K : ℕ} {b a : List ℕ} → 1 < m → Degrees n r s → top ≡ min r (s + 1) → K ≡ s + 2
    → Scaled m r u top b → u * r % m ≡ 1 % m → Rows m f n r (s + 2) b K a → Root m f r s a (eqb (coef a (s + 1)) 0)
rows_root {m} {f} {n} {r} {s} {u} {top} {K} {b} {a} one D te ke B unit T =
    let B' : Scaled m r u (min r (s + 1)) b = rw te at B in
    let T' : Rows m f n r (s + 2) b (s + 2) a = rw ke at T in
    record { room = T.room; part = rows_right one D B' unit T'; no = λ t. rows_gap one D B' unit T' (eqb-false _ _ t); yes = λ t. rows_open one D B' unit T' (eqb-true _ _ t) }
