-- The r-th root of f from the top, past the right part: what a pair says of its next places.
--
--   root_gap         if f = g(h) then the place s + 1 of the root is 0
--   root_differs     where it is not, the forced pair and f differ at x^(n-s-1), and not above
--   root_closes      and where it is, that is not the report
use mathlib.Core.Path.{◌≡◌, refl, sym, ap, ap₂, ◌∙◌}
use mathlib.Core.List.{List, [], ◌∷◌}
use Prim.Native.Nat.{ℕ, zero, suc, ◌+◌, ◌*◌, ◌-◌, ◌%◌, ◌≤◌, ◌<◌}
use native.Mathlib.Nat as N
use native.Mathlib.Omega.{arith}
use native.Mathlib.Decide.{dec_lt}
use lib.ListN.{drop}
use lib.Seq.{get_or-drop}
use Rattle.algebra.specs.Number.{Invertible}
use Rattle.algebra.specs.Polynomial.{coef, times, power, after, Same, Monic}
use Rattle.algebra.specs.Pair.{Pair, ForcedRight, ForcedPair, Differs, Report, terms_from}
use Rattle.algebra.proofs.Ring as A
use Rattle.algebra.proofs.Series as S
use Rattle.algebra.proofs.Evaluation.{⟦◌⟧, nat_zero, eval_cons, eval-power, eval-after, pow, pow-zero, pow-suc}
use Rattle.algebra.proofs.Residues.{Res, equal→same}
use Rattle.algebra.proofs.Lines.{pow-mul}
use Rattle.algebra.proofs.Numbers.{mod-mul-mod}
use Rattle.algebra.proofs.Coefficients.{coef-times_zero, coef-times-suc, after-monic, power-monic}
use Rattle.algebra.proofs.Polynomials.{Z, Q, ◌⨾◌, same_refl, same_sym, power-same, x_after, residue_at, at_residue}
use Rattle.algebra.proofs.RightPart.{monomial, monomial_monic, power_at, after-power, pair-forced, forced-leading, forced-terms, forced_unique}
use Rattle.algebra.proofs.Agreement.{after_agree, tops}
use Rattle.algebra.proofs.Report.{one_less, forced-top, nearest}

nothing : (q : List ℕ) (k : ℕ) → coef (times [] q) k ≡ 0
unfolding times
nothing q k = refl

-- 1·p is p, place by place
one_at : (p : List ℕ) (k : ℕ) → coef (times (1 ∷ []) p) k ≡ coef p k
one_at p zero = coef-times_zero (1 ∷ []) p ∙ N.one-mul _
one_at p (suc k) = coef-times-suc (1 ∷ []) p k ∙ ap₂ ◌+◌ (N.one-mul (coef p (suc k))) (nothing p k) ∙ N.add-zero _

-- x·p has the places of p, one higher
x_up : (p : List ℕ) (k : ℕ) → coef (times (0 ∷ 1 ∷ []) p) (suc k) ≡ coef p k
x_up p k = coef-times-suc (0 ∷ 1 ∷ []) p k ∙ ap₂ ◌+◌ (N.zero-mul (coef p (suc k))) (one_at p k) ∙ N.zero-add _

-- x^(n+1) has nothing at x^n
x_power : (n : ℕ) → coef (power (0 ∷ 1 ∷ []) (suc n)) n ≡ 0
unfolding power
x_power zero = coef-times_zero (0 ∷ 1 ∷ []) (1 ∷ []) ∙ N.zero-mul 1
x_power (suc n) = x_up (power (0 ∷ 1 ∷ []) (suc n)) n ∙ x_power n

module _ (m : ℕ) (pos : 0 < m) where
  raised : (q : ℕ → Res m pos) (r i : ℕ) → S.◌⊠◌ (Z m pos) (pow (Q m pos) (S.X (Z m pos)) r) q (r + i) ≡ q i
  raised q zero i = ap₂ (λ (p : ℕ → Res m pos) (k : ℕ). S.◌⊠◌ (Z m pos) p q k) (pow-zero (Q m pos) _) (N.zero-add i) ∙ ap (λ (p : ℕ → Res m pos). p i) (A.one-mul (Q m pos) q)
  raised q (suc r) i = ap₂ (λ (p : ℕ → Res m pos) (k : ℕ). S.◌⊠◌ (Z m pos) p q k) (pow-suc (Q m pos) _ r) (N.suc-add r i)
      ∙ ap (λ (p : ℕ → Res m pos). p (suc (r + i))) (A.mul_assoc (Q m pos) _ _ q) ∙ S.X_mul-suc (Z m pos) _ (r + i) ∙ raised q r i

  -- (x·p)^r is x^r·p^r
  power-raised : (p : List ℕ) (r i : ℕ) → coef (power (0 ∷ p) r) (r + i) % m ≡ coef (power p r) i % m
  power-raised p r i = at_residue m pos (power (0 ∷ p) r) (r + i) _
      (ap (λ (q : ℕ → Res m pos). q (r + i)) (eval-power (Q m pos) (0 ∷ p) r _ ∙ ap (λ (q : ℕ → Res m pos). pow (Q m pos) q r) up ∙ pow-mul (Q m pos) _ _ r)
      ∙ raised _ r i ∙ ap (λ (q : ℕ → Res m pos). q i) (sym (eval-power (Q m pos) p r _)) ∙ residue_at m pos (power p r) i _ refl)
    where
      up : ⟦ Z m pos ⟧ (0 ∷ p) ≡ S.◌⊠◌ (Z m pos) (S.X (Z m pos)) (⟦ Z m pos ⟧ p)
      up = eval_cons (Q m pos) 0 p _ ∙ ap (λ (q : ℕ → Res m pos). S.◌⊞◌ (Z m pos) q (S.◌⊠◌ (Z m pos) (S.X (Z m pos)) (⟦ Z m pos ⟧ p))) (nat_zero (Q m pos)) ∙ A.zero-add (Q m pos) _

  line-monic : (c : ℕ) → Monic m 1 (c ∷ 1 ∷ [])
  line-monic c = record { top = refl; above = far }
    where
      far : (i : ℕ) → 1 < i → coef (c ∷ 1 ∷ []) i % m ≡ 0 % m
      far zero l = absurd (N.not-suc-le-zero l)
      far (suc zero) l = absurd (N.lt_irrefl 1 l)
      far (suc (suc i)) l = refl

  -- (x + c)^(n+1) has (n + 1)·c at x^n
  line_second : (c n : ℕ) → coef (power (c ∷ 1 ∷ []) (suc n)) n % m ≡ suc n * c % m
  unfolding terms_from
  line_second c n =
      let e : 0 + n * 1 ≡ n = omega arith in
      (rw e at (power_at m pos n 0 (omega arith) (line-monic c))) ∙ ap (λ (x : ℕ). (x + suc n * c) % m) (x_power n) ∙ ap (λ (x : ℕ). x % m) (N.zero-add _)

  -- a power of h + c, as a polynomial in h
  line-power : (c n : ℕ) (h : List ℕ) → Same m (power (after (c ∷ 1 ∷ []) h) n) (after (power (c ∷ 1 ∷ []) n) h)
  line-power c n h = equal→same m pos (simp (eval-power (Q m pos), eval-after (Q m pos)))

  line-power-monic : (c n : ℕ) → Monic m n (power (c ∷ 1 ∷ []) n)
  line-power-monic c n = let e : n * 1 ≡ n = omega arith in rw e at (power-monic m pos (line-monic c) n)

  -- g and (x + c)^r agree at their two highest places, where r·c is g's second
  same_left : {q : ℕ} {g : List ℕ} (c : ℕ) → Monic m (suc (suc q)) g → suc (suc q) * c % m ≡ coef g (suc q) % m
      → (i : ℕ) → q < i → coef (power (c ∷ 1 ∷ []) (suc (suc q))) i % m ≡ coef g i % m
  same_left {q} {g} c mg e i l = go (dec_lt i (suc (suc q))) (dec_lt (suc (suc q)) i)
    where
      mon : Monic m (suc (suc q)) (power (c ∷ 1 ∷ []) (suc (suc q)))
      mon = line-power-monic c (suc (suc q))

      go : Dec (i < suc (suc q)) → Dec (suc (suc q) < i) → coef (power (c ∷ 1 ∷ []) (suc (suc q))) i % m ≡ coef g i % m
      go (yes a) b = let w : i ≡ suc q = omega arith in rw w (line_second c (suc q) ∙ e)
      go (no a) (yes b) = mon.above i b ∙ sym (mg.above i b)
      go (no a) (no b) = let w : i ≡ suc (suc q) = omega arith in rw w (mon.top ∙ sym mg.top)

  -- f = g(h) and (h + c)^r agree past x^((r-2)s)
  same-top : {q s : ℕ} {f g h : List ℕ} (c : ℕ) → 0 < s → Pair m f (suc (suc q)) s g h → suc (suc q) * c % m ≡ coef g (suc q) % m
      → (i : ℕ) → q * s < i → coef (power (after (c ∷ 1 ∷ []) h) (suc (suc q))) i % m ≡ coef f i % m
  same-top {q} {g = g} {h = h} c sp p e i l = (line-power c (suc (suc q)) h).at i ∙ after_agree m pos q (power (c ∷ 1 ∷ []) (suc (suc q))) g sp p.right (same_left c p.left e) i l ∙ sym (p.whole.at i)

  twice_raised-monic : {s : ℕ} {k : List ℕ} → Monic m s k → Monic m (s + 2) (0 ∷ 0 ∷ k)
  twice_raised-monic {s} {k} mk = record { top = ap (λ (i : ℕ). coef (0 ∷ 0 ∷ k) i % m) two ∙ mk.top; above = far }
    where
      two : s + 2 ≡ suc (suc s)
      two = omega arith

      far : (i : ℕ) → s + 2 < i → coef (0 ∷ 0 ∷ k) i % m ≡ 0 % m
      far zero l = refl
      far (suc zero) l = refl
      far (suc (suc i)) l = mk.above i (omega arith)

  -- H is the r-th root of f from the top, as far as place s + 1
  root_gap : {r s : ℕ} {f F g h H : List ℕ} → 2 ≤ r → 2 ≤ s → Invertible m r → ForcedRight m r (s + 2) F H
      → ((k : ℕ) → 0 < k → k < s + 2 → coef F (r * (s + 2) - k) % m ≡ coef f (r * s - k) % m) → Pair m f r s g h → coef H 1 % m ≡ 0 % m
  root_gap {r = zero} a b inv c e p = absurd (omega arith)
  root_gap {r = suc zero} a b inv c e p = absurd (omega arith)
  root_gap {r = suc (suc q)} {s = s} {f = f} {F = F} {g = g} {h = h} {H = H} a b inv c e p =
      (forced_unique m pos (omega arith) (omega arith) inv c (forced-terms m pos lead (pair-forced m pos (omega arith) whole (record { constant = refl })))).at 1
    where
      r : ℕ
      r = suc (suc q)

      d : ℕ
      d = inv.inverse * coef g (suc q)

      flat : suc (suc q) * (inv.inverse * coef g (suc q)) ≡ inv.inverse * suc (suc q) * coef g (suc q)
      flat = omega arith

      unit : suc (suc q) * (inv.inverse * coef g (suc q)) % m ≡ coef g (suc q) % m
      unit = ap (λ (x : ℕ). x % m) flat ∙ sym (mod-mul-mod (inv.inverse * suc (suc q)) (coef g (suc q)) m)
          ∙ ap (λ (x : ℕ). x * coef g (suc q) % m) inv.unit ∙ mod-mul-mod 1 (coef g (suc q)) m ∙ ap (λ (x : ℕ). x % m) (N.one-mul _)

      k : List ℕ
      k = after (d ∷ 1 ∷ []) h

      K : List ℕ
      K = 0 ∷ 0 ∷ k

      monic_k : Monic m s k
      monic_k = let w : 1 * s ≡ s = N.one-mul s in rw w at (after-monic m pos (omega arith) (line-monic d) p.right)

      monic_K : Monic m (s + 2) K
      monic_K = twice_raised-monic monic_k

      whole : Pair m (after (monomial r) K) r (s + 2) (monomial r) K
      whole = record { left = monomial_monic m r; right = monic_K; whole = same_refl _ }

      lead : (j : ℕ) → 0 < j → j < s + 2 → coef (after (monomial r) K) (r * (s + 2) - j) % m ≡ coef F (r * (s + 2) - j) % m
      lead j l u =
          let t : suc (suc q) * 2 ≤ suc (suc q) * s = N.mul-le-mul_left (suc (suc q)) b in
          let w : suc (suc q) * (s + 2) - j ≡ suc (suc q) + (suc (suc q) + (suc (suc q) * s - j)) = omega arith in
          after-power m pos (suc q) (monomial_monic m r) monic_K (r * (s + 2) - j) (omega arith)
          ∙ ap (λ (i : ℕ). coef (power K r) i % m) w ∙ power-raised (0 ∷ k) r (r + (r * s - j)) ∙ power-raised k r (r * s - j)
          ∙ same-top d (omega arith) p unit (r * s - j) (omega arith) ∙ sym (e j l u)

  pub root_differs : {r s : ℕ} {f F g h H : List ℕ} → 2 ≤ r → 2 ≤ s → Invertible m r → ForcedRight m r (s + 2) F H
      → ((k : ℕ) → 0 < k → k < s + 2 → coef F (r * (s + 2) - k) % m ≡ coef f (r * s - k) % m) → Monic m (r * s) f → ForcedPair m r s f g h
      → ¬ (coef H 1 % m ≡ 0 % m) → Differs m f (after g h) (r * s - s - 1)
  root_differs {r} {s} {f} {F} {g} {h} a b inv c e mf P ne = record { above = above; here = λ w. ne (root_gap {f = after g h} a b inv c (λ k l u. e k l u ∙ same k l u w) pair) }
    where
      pair : Pair m (after g h) r s g h
      pair = record { left = P.left.monic; right = P.right.monic; whole = same_refl (after g h) }

      top : (i : ℕ) → r * s < i + s → coef f i % m ≡ coef (after g h) i % m
      top = forced-top pos (omega arith) (omega arith) mf P.right P.left.monic

      -- x^(n-s) is a power x^(is)
      next : coef f (r * s - s) % m ≡ coef (after g h) (r * s - s) % m
      next = let w : (r - 1) * s ≡ r * s - s = one_less r s in sym (rw w at (P.left.forced (r - 1)))

      above : (i : ℕ) → r * s - s - 1 < i → coef f i % m ≡ coef (after g h) i % m
      above i l = go (dec_lt (r * s) (i + s))
        where
          go : Dec (r * s < i + s) → coef f i % m ≡ coef (after g h) i % m
          go (yes d) = top i d
          go (no d) = let w : r * s - s ≡ i = omega (arith, N.mul-le-mul_right {m = 2} {n = r} s a) in rw w at next

      same : (k : ℕ) → 0 < k → k < s + 2 → coef f (r * s - s - 1) % m ≡ coef (after g h) (r * s - s - 1) % m → coef f (r * s - k) % m ≡ coef (after g h) (r * s - k) % m
      same k l u w = go (dec_lt k (s + 1))
        where
          go : Dec (k < s + 1) → coef f (r * s - k) % m ≡ coef (after g h) (r * s - k) % m
          go (yes d) = above (r * s - k) (omega (arith, N.mul-le-mul_right {m = 2} {n = r} s a))
          go (no d) = let v : r * s - s - 1 ≡ r * s - k = omega arith in rw v at w

  -- H without its two lowest places, which are 0: then f and its r-th power agree as far as x^(n-s-1), so that no report is there
  pub root_closes : {r s : ℕ} {f F H : List ℕ} → 2 ≤ r → 2 ≤ s → Invertible m r → ForcedRight m r (s + 2) F H
      → ((k : ℕ) → 0 < k → k < s + 2 → coef F (r * (s + 2) - k) % m ≡ coef f (r * s - k) % m) → Monic m (r * s) f
      → coef H 1 % m ≡ 0 % m → Report m r s f (r * s - s - 1) → ⊥
  root_closes {r = zero} a b inv c e mf z R = absurd (omega arith)
  root_closes {r = suc zero} a b inv c e mf z R = absurd (omega arith)
  root_closes {r = suc (suc q)} {s = s} {f = f} {F = F} {H = H} a b inv c e mf z R =
      let l = nearest pos {k = suc (suc q) * s - s - 2} (omega arith) (omega arith) inv mf R (line-power-monic 0 (suc (suc q))) monic agree in
      omega (arith, l, N.mul-le-mul_right {m = 2} {n = suc (suc q)} s a)
    where
      monic : Monic m s (drop 2 H)
      monic = record { top = ap (λ (x : ℕ). x % m) (get_or-drop 2 H s 0 ∙ ap (coef H) (N.add_comm 2 s)) ∙ c.monic.top; above = λ i l. ap (λ (x : ℕ). x % m) (get_or-drop 2 H i 0) ∙ c.monic.above (2 + i) (omega arith) }

      raised_again : Same m H (0 ∷ 0 ∷ drop 2 H)
      raised_again = record { at = at }
        where
          at : (i : ℕ) → coef H i % m ≡ coef (0 ∷ 0 ∷ drop 2 H) i % m
          at zero = c.normal.constant
          at (suc zero) = z
          at (suc (suc i)) = ap (λ (x : ℕ). x % m) (sym (get_or-drop 2 H i 0 ∙ ap (coef H) (omega arith)))

      whole : Same m (after (power (0 ∷ 1 ∷ []) (suc (suc q))) (drop 2 H)) (power (drop 2 H) (suc (suc q)))
      whole = same_sym (line-power 0 (suc (suc q)) (drop 2 H)) ⨾ power-same m pos (suc (suc q)) (x_after m pos (drop 2 H))

      lead : (j : ℕ) → 0 < j → j < s + 2 → coef f (suc (suc q) * s - j) % m ≡ coef (after (power (0 ∷ 1 ∷ []) (suc (suc q))) (drop 2 H)) (suc (suc q) * s - j) % m
      lead j l u =
          let t : suc (suc q) * 2 ≤ suc (suc q) * s = N.mul-le-mul_left (suc (suc q)) b in
          let w : suc (suc q) * (s + 2) - j ≡ suc (suc q) + (suc (suc q) + (suc (suc q) * s - j)) = omega arith in
          sym (e j l u) ∙ forced-leading m pos (omega arith) c (monomial_monic m (suc (suc q))) j l u
          ∙ after-power m pos (suc q) (monomial_monic m (suc (suc q))) c.monic (suc (suc q) * (s + 2) - j) (omega arith)
          ∙ (power-same m pos (suc (suc q)) raised_again).at _ ∙ ap (λ (i : ℕ). coef (power (0 ∷ 0 ∷ drop 2 H) (suc (suc q))) i % m) w
          ∙ power-raised (0 ∷ drop 2 H) (suc (suc q)) (suc (suc q) + (suc (suc q) * s - j)) ∙ power-raised (drop 2 H) (suc (suc q)) (suc (suc q) * s - j) ∙ sym (whole.at _)

      agree : (i : ℕ) → suc (suc q) * s - s - 2 < i → coef f i % m ≡ coef (after (power (0 ∷ 1 ∷ []) (suc (suc q))) (drop 2 H)) i % m
      agree i l = go (dec_lt i (suc (suc q) * s))
        where
          go : Dec (i < suc (suc q) * s) → coef f i % m ≡ coef (after (power (0 ∷ 1 ∷ []) (suc (suc q))) (drop 2 H)) i % m
          go (yes d) = let w : suc (suc q) * s - (suc (suc q) * s - i) ≡ i = omega arith in rw w at (lead (suc (suc q) * s - i) (omega arith) (omega (arith, N.mul-le-mul_right {m = 2} {n = suc (suc q)} s a)))
          go (no d) = tops m pos mf (after-monic m pos (omega arith) (line-power-monic 0 (suc (suc q))) monic) i (omega arith)
