-- Refuting: what agrees with f at the leading terms and at the powers x^(js) is the only candidate.
--
--   minus, coef-minus, after_minus        p - q modulo m
--   no_difference, all_round, level, equal     it is 0 exactly where p and q agree
--   left_agree, left-forced               left parts, where what they compose to agrees at the powers x^(js), from x^k on or at all
--   forced-pair                           every normal pair of f is the forced one
--   leading                               of the leading terms only x^(n-1), .., x^(n-s+1) need a look
--   forced_refutes                        a place where the forced pair differs from f shows that there is no pair at all
--   left_refutes                          and for a given h that there is no left part
use mathlib.Core.Path.{◌≡◌, sym, ap, subst, ◌∙◌}
use mathlib.Core.List.{List}
use Prim.Native.Nat.{ℕ, zero, suc, ◌+◌, ◌*◌, ◌-◌, ◌%◌, ◌≤◌, ◌<◌}
use native.Mathlib.Nat as N
use native.Mathlib.Omega.{arith}
use native.Mathlib.Decide.{dec_lt}
use mathlib.Core.Logic.{⊎_elim}
use lib.ListN.{length, get_or-eq_default}
use Rattle.algebra.specs.Polynomial.{coef, plus, scaled, after, Same, Monic, terms}
use Rattle.algebra.specs.Number.{Invertible}
use Rattle.algebra.specs.Pair.{Pair, Normal, NormalPair, NoPair}
use Rattle.algebra.proofs.Evaluation.{eval-plus, eval-scaled, eval-after}
use Rattle.algebra.proofs.Residues.{equal→same}
use Rattle.algebra.proofs.Polynomials.{Q, same_refl, ◌⨾◌, after_same}
use Rattle.algebra.proofs.Coefficients.{coef-plus, coef-scaled, after-end, after-monic}
use Rattle.algebra.proofs.Leading.{right-part-leading}
use Rattle.algebra.proofs.Pairs.{no-normal-pair}

module _ (m : ℕ) (pos : 0 < m) where
  -- p - q, modulo m
  abbrev pub minus : List ℕ → List ℕ → List ℕ
  minus p q = plus p (scaled (m - 1) q)

  pub coef-minus : (p q : List ℕ) (i : ℕ) → coef (minus p q) i ≡ coef p i + (m - 1) * coef q i
  coef-minus p q i = coef-plus p (scaled (m - 1) q) i ∙ ap (λ (x : ℕ). coef p i + x) (coef-scaled (m - 1) q i)

  times-all : (k y : ℕ) → m ≡ suc k → y + k * y ≡ y * m
  times-all k y e = rw e (omega arith)

  pub no_difference : (x y : ℕ) → (x + (m - 1) * y) % m ≡ 0 % m → x % m ≡ y % m
  no_difference x y e = sym (N.add-mul-mod_self_right x y m) ∙ ap (λ (z : ℕ). z % m) (turn (m - 1) (omega arith)) ∙ sym (N.mod-add-mod (x + (m - 1) * y) m y) ∙ ap (λ (z : ℕ). (z + y) % m) e ∙ N.mod-add-mod 0 m y ∙ ap (λ (z : ℕ). z % m) (N.zero-add y)
    where
      turn : (k : ℕ) → m ≡ suc k → x + y * m ≡ x + k * y + y
      turn k e = rw e (omega arith)

  pub all_round : (x y : ℕ) → x % m ≡ y % m → (x + (m - 1) * y) % m ≡ 0 % m
  all_round x y e = sym (N.mod-add-mod x m ((m - 1) * y)) ∙ ap (λ (z : ℕ). (z + (m - 1) * y) % m) e ∙ N.mod-add-mod y m ((m - 1) * y) ∙ ap (λ (z : ℕ). z % m) (whole y) ∙ N.mul-mod_left y m ∙ sym (N.zero-mod m)
    where
      whole : (y : ℕ) → y + (m - 1) * y ≡ y * m
      whole y = times-all (m - 1) y (omega arith)

  pub after_minus : (p q h : List ℕ) → Same m (after (minus p q) h) (minus (after p h) (after q h))
  after_minus p q h = equal→same m pos (simp (eval-after (Q m pos), eval-plus (Q m pos), eval-scaled (Q m pos)))

  -- p - q is 0 exactly where they agree
  pub level : (p q : List ℕ) (i : ℕ) → coef p i % m ≡ coef q i % m → coef (minus p q) i % m ≡ 0 % m
  level p q i e = ap (λ (x : ℕ). x % m) (coef-minus p q i) ∙ all_round _ _ e

  pub equal : (p q : List ℕ) (i : ℕ) → coef (minus p q) i % m ≡ 0 % m → coef p i % m ≡ coef q i % m
  equal p q i e = no_difference _ _ (ap (λ (x : ℕ). x % m) (sym (coef-minus p q i)) ∙ e)

  -- where what left parts compose to agrees at the powers x^(js) from x^k on, they agree at these j
  pub left_agree : (k : ℕ) {s : ℕ} (g g' : List ℕ) {h : List ℕ} → 0 < s → Monic m s h
      → ((j : ℕ) → k ≤ j * s → coef (after g h) (j * s) % m ≡ coef (after g' h) (j * s) % m) → (j : ℕ) → k ≤ j * s → coef g j % m ≡ coef g' j % m
  left_agree k {s} g g' {h} sp mh e j l = equal g g' j (down (length w) (λ i b. ap (λ (x : ℕ). x % m) (get_or-eq_default w 0 b)) j l)
    where
      w : List ℕ
      w = minus g g'

      -- from the top down, as long as x^(ns) is not below x^k
      down : (n : ℕ) → ((i : ℕ) → n ≤ i → coef w i % m ≡ 0 % m) → (j : ℕ) → k ≤ j * s → coef w j % m ≡ 0 % m
      down zero z j b = z j (omega arith)
      down (suc n) z j b = step (dec_lt (n * s) k) (λ y. down n y j b)
        where
          step : Dec (n * s < k) → (((i : ℕ) → n ≤ i → coef w i % m ≡ 0 % m) → coef w j % m ≡ 0 % m) → coef w j % m ≡ 0 % m
          step (no c) rest = rest (λ i l. ⊎_elim (λ (q : n ≡ i). rw (← q) (sym (after-end m pos w sp mh z).0 ∙ (after_minus g g' h).at (n * s) ∙ level (after g h) (after g' h) (n * s) (e n (omega arith)))) (z i) (N.eq-or-lt_of_le l))
          step (yes c) rest = z j (above (dec_lt n j))
            where
              above : Dec (n < j) → n < j
              above (yes d) = d
              above (no d) = absurd (omega (arith, N.mul-le-mul_right {m = j} {n = n} s (omega arith)))

  -- left parts that agree at all powers x^(js) are the same
  pub left-forced : {s : ℕ} {g g' h : List ℕ} → 0 < s → Monic m s h → ((j : ℕ) → coef (after g h) (j * s) % m ≡ coef (after g' h) (j * s) % m) → Same m g g'
  left-forced {g = g} {g' = g'} sp mh e = record { at = λ i. left_agree 0 g g' sp mh (λ j l. e j) i (omega arith) }

  -- the forced pair: (g, h), monic and normal, agrees with f at the s leading terms and at the powers x^(j s)
  -- then every normal pair of f is (g, h)
  pub forced-pair : {r s : ℕ} {f g h g' h' : List ℕ} → 0 < r → 0 < s → Invertible m r → Monic m r g → Monic m s h → Normal m h
      → ((i : ℕ) → r * s < i + s → coef f i % m ≡ coef (after g h) i % m) → ((j : ℕ) → j < r → coef f (j * s) % m ≡ coef (after g h) (j * s) % m)
      → Pair m f r s g' h' → Normal m h' → Same m g' g × Same m h' h
  forced-pair {r} {s} {f} {g} {h} {g'} {h'} rp sp i mg mh z top low p z' = (left, right)
    where
      right : Same m h' h
      right = right-part-leading m pos rp i p.left mg p.right mh z' z (λ i l. sym (p.whole.at i) ∙ top i l)

      left : Same m g' g
      left = left-forced sp mh (λ j. sym ((p.whole ⨾ after_same m pos (same_refl g') right).at (j * s)) ∙ go j (dec_lt j r))
        where
          go : (j : ℕ) → Dec (j < r) → coef f (j * s) % m ≡ coef (after g h) (j * s) % m
          go j (yes l) = low j l
          go j (no l) = top (j * s) (omega (arith, N.mul-le-mul_right {m = r} {n = j} s (omega arith)))

  -- of the leading terms only those of x^(n-1), .., x^(n-s+1) need a look
  pub leading : {n r s : ℕ} {f g h : List ℕ} → 0 < s → r * s ≡ n → Monic m n f → Monic m r g → Monic m s h
      → ((k : ℕ) → 0 < k → k < s → coef f (n - k) % m ≡ coef (after g h) (n - k) % m)
      → (i : ℕ) → r * s < i + s → coef f i % m ≡ coef (after g h) i % m
  leading {n} {r} {s} {f} {g} {h} sp e mf mg mh a i l = go (dec_lt n i) (dec_lt i n)
    where
      whole : Monic m n (after g h)
      whole = subst (λ (k : ℕ). Monic m k (after g h)) e (after-monic m pos sp mg mh)

      go : Dec (n < i) → Dec (i < n) → coef f i % m ≡ coef (after g h) i % m
      go (yes b) c = mf.above i b ∙ sym (whole.above i b)
      go (no b) (yes c) = subst (λ (k : ℕ). coef f k % m ≡ coef (after g h) k % m) back (a (n - i) (omega arith) (omega (arith, e)))
        where
          back : n - (n - i) ≡ i
          back = omega arith
      go (no b) (no c) = subst (λ (k : ℕ). coef f k % m ≡ coef (after g h) k % m) here (mf.top ∙ sym whole.top)
        where
          here : n ≡ i
          here = omega arith

  -- a place where the forced pair differs from f shows that there is no pair at all
  pub forced_refutes : {n r s : ℕ} {f g h : List ℕ} → 0 < r → 0 < s → r < terms → s < terms → r * s ≡ n → Invertible m r
      → Monic m n f → Monic m r g → Monic m s h → Normal m h
      → ((k : ℕ) → 0 < k → k < s → coef f (n - k) % m ≡ coef (after g h) (n - k) % m)
      → ((j : ℕ) → j < r → coef f (j * s) % m ≡ coef (after g h) (j * s) % m)
      → (i : ℕ) → ¬ (coef f i % m ≡ coef (after g h) i % m) → NoPair m f r s
  forced_refutes {r = r} {s = s} {f = f} {g = g} {h = h} rp sp rl sl e inv mf mg mh z top low i ne = (no-normal-pair pos rp sp rl sl).0 differs
    where
      differs : (g' h' : List ℕ) → NormalPair m f r s g' h' → ⊥
      differs g' h' p = let (a, b) = forced-pair rp sp inv mg mh z (leading sp e mf mg mh top) low p.pair p.normal in ne (p.pair.whole.at i ∙ (after_same m pos a b).at i)

  -- the left part for a given h, with no inverse: the monic g that agrees with f at the powers x^(j s) is the only candidate
  pub left_refutes : {n r s : ℕ} {f g h : List ℕ} → 0 < s → r * s ≡ n → Monic m n f → Monic m r g → Monic m s h
      → ((j : ℕ) → j < r → coef f (j * s) % m ≡ coef (after g h) (j * s) % m)
      → (i : ℕ) → ¬ (coef f i % m ≡ coef (after g h) i % m) → (g' : List ℕ) → Monic m r g' → Same m f (after g' h) → ⊥
  left_refutes {n} {r} {s} {f} {g} {h} sp e mf mg mh low i ne g' mg' w = ne (w.at i ∙ (after_same m pos (left-forced sp mh (λ j. sym (w.at (j * s)) ∙ go j (dec_lt j r))) (same_refl h)).at i)
    where
      whole : Monic m n (after g h)
      whole = subst (λ (k : ℕ). Monic m k (after g h)) e (after-monic m pos sp mg mh)

      go : (j : ℕ) → Dec (j < r) → coef f (j * s) % m ≡ coef (after g h) (j * s) % m
      go j (yes l) = low j l
      go j (no l) = high (dec_lt n (j * s))
        where
          up : n ≤ j * s
          up = let k : r ≤ j = omega arith in let b : r * s ≤ j * s = N.mul-le-mul_right s k in subst (λ (x : ℕ). x ≤ j * s) e b

          high : Dec (n < j * s) → coef f (j * s) % m ≡ coef (after g h) (j * s) % m
          high (yes b) = mf.above (j * s) b ∙ sym (whole.above (j * s) b)
          high (no b) = subst (λ (k : ℕ). coef f k % m ≡ coef (after g h) k % m) here (mf.top ∙ sym whole.top)
            where
              here : n ≡ j * s
              here = omega (arith, up)
