-- Horner's rule: g(h) from g's highest coefficient down, one product with h for each.
--
--   product-place, product-past  a place of h·p, as one inner product that ends where h does; where h·p ends
--   step-first, step_next        the places of c + h·p, which is one step
--   step_line                    the same for a line h, by two products
--   step_past                    where it ends
--   Partly m r s g h i d p       p is g's terms from x^i on, divided by x^i, after h, and the next step ends at x^d
--   partly_none, partly_next     before the first step, and after one more
--   partly_room                  the next step is within the limit
--   partly_all                   after the last: the composition
--   after-past                   where g and h end, g(h) does
--   composition-reduced, composition-same     the composition is reduced, and g(h) modulo m
--   held-ends                    a polynomial that a leaf is given ends at its degree
use mathlib.Core.Path.{◌≡◌, refl, sym, ap, ◌∙◌}
use mathlib.Core.Logic.{◌⊎◌, inl, inr, ⊎_elim}
use mathlib.Core.List.{List, [], ◌∷◌}
use Prim.Native.Nat.{ℕ, zero, suc, ◌+◌, ◌*◌, ◌-◌, ◌%◌, ◌≤◌, ◌<◌, min}
use native.Mathlib.Nat as N
use native.Mathlib.Numerals.{add-one}
use native.Mathlib.Omega.{arith}
use native.Mathlib.Decide.{dec_lt}
use lib.ListN.{length, drop, replicate, length-replicate, get_or-eq_default}
use lib.Seq.{drop-cons, get_or-drop}
use Rattle.algebra.specs.Polynomial.{coef, plus, times, after, limit, terms, reduced, Same, Reduced, Held}
use Rattle.algebra.proofs.Numbers.{sum_ext, sum_clip, sum_zeros}
use Rattle.algebra.proofs.Coefficients.{coef-plus, coef-times, coef-times_zero}
use Rattle.algebra.proofs.Polynomials.{◌⨾◌, same_refl, same_sym, plus-same, times-same, after_same}
use Rattle.algebra.proofs.Reduction.{reduced-reduced, reduced-same, reduced-place, reduced_equal, reduced-above}
use Rattle.inner.specs.Inner.{inner}
use Rattle.inner.proofs.Inner.{inner-none, inner-more, inner_extensional}
use Rattle.polynomial.proofs.Filling.{zeros}
use Rattle.composition.specs.Composition.{composition, Ends, Composable, Room}

-- above x^s the coefficients of h are 0, so that the sum ends there
pub product-place : {s : ℕ} {h : List ℕ} → Ends s h → (p : List ℕ) (k : ℕ) → inner h p k 0 (min k s + 1) ≡ coef (times h p) k
unfolding inner
product-place {s} {h} e p k =
    sum_ext (min k s + 1) _ _ (λ i l. rw (N.zero-add i))
    ∙ sym (coef-times h p k ∙ sum_clip (min k s + 1) (suc k) _ (omega arith) (λ i l b. ap (λ (x : ℕ). x * coef p (k - i)) (e.past i (omega arith)) ∙ N.zero-mul _))

-- where p ends early enough, h·p has nothing above x^d
product-past : {s d : ℕ} {h : List ℕ} (p : List ℕ) → Ends s h → ((k : ℕ) → d < k + s → coef p k ≡ 0) → (k : ℕ) → d < k → coef (times h p) k ≡ 0
product-past {s} {d} {h} p e z k l = coef-times h p k ∙ sum_zeros (suc k) _ (λ i b. go i b (dec_lt s i))
  where
    go : (i : ℕ) → i < suc k → Dec (s < i) → coef h i * coef p (k - i) ≡ 0
    go i b (yes c) = rw (e.past i c) (N.zero-mul _)
    go i b (no c) = rw (z (k - i) (omega arith)) (N.mul-zero _)

module _ (m c : ℕ) {s d : ℕ} {h p : List ℕ} (room : Room s d h p) where
  -- the coefficients of a step
  abbrev step : ℕ → ℕ
  step k = coef (plus (c ∷ []) (times h p)) k % m

  -- its constant
  pub step-first : {x y : ℕ} → y ≡ coef p 0 → x ≡ (coef h 0 * y + c * 1) % m → x ≡ step 0
  step-first here e = e ∙ rw here (ap (λ (y : ℕ). y % m) (sym (coef-plus (c ∷ []) (times h p) 0 ∙ omega (arith, coef-times_zero h p))))

  -- and its other places, by what p still is up to x^k
  pub step_next : (k : ℕ) {n x : ℕ} (l : List ℕ) → 0 < k → n ≡ min k s + 1 → ((j : ℕ) → j ≤ k → coef l j ≡ coef p j) → x ≡ inner h l k 0 n % m → x ≡ step k
  step_next zero l q e still is = absurd (N.not-suc-le-zero q)
  step_next (suc k) {n} l q e still is =
      is ∙ ap (λ (y : ℕ). y % m) (inner_extensional h h l p (suc k) 0 n (λ i a b. refl) (λ i a b. still (suc k - i) (omega arith))
      ∙ ap (inner h p (suc k) 0) e ∙ product-place room.right p (suc k) ∙ sym (coef-plus (c ∷ []) (times h p) (suc k) ∙ N.zero-add _))

  -- where h is a line, by two products
  pub step_line : (k : ℕ) {x : ℕ} (l : List ℕ) → s ≡ 1 → 0 < k → ((j : ℕ) → j ≤ k → coef l j ≡ coef p j) → x ≡ (coef h 0 * coef l k + coef h 1 * coef l (k - 1)) % m → x ≡ step k
  step_line k l o q still e = step_next k {n = 2} l q (omega arith) still (e ∙ ap (λ (y : ℕ). y % m) (sym (inner-more h l k 0 1 ∙ ap (λ (y : ℕ). y + coef h 1 * coef l (k - 1)) first)))
    where
      first : inner h l k 0 1 ≡ coef h 0 * coef l k
      first = inner-more h l k 0 0 ∙ rw (inner-none h l k 0, N.sub-zero k) (N.zero-add _)

  -- nothing above x^d
  pub step_past : (k : ℕ) → d < k → step k ≡ 0
  step_past zero l = absurd (N.not-suc-le-zero l)
  step_past (suc k) l = ap (λ (y : ℕ). y % m) (coef-plus (c ∷ []) (times h p) (suc k) ∙ N.zero-add _ ∙ product-past p room.right room.past (suc k) l) ∙ N.zero-mod m

-- x + h·p, where p ends one s earlier
module _ {s : ℕ} {h : List ℕ} (e : Ends s h) (x w : ℕ) (p : List ℕ) (none : w ≡ 0 → x ≡ 0) (rest : (k : ℕ) → (w - 1) * s < k + s → coef p k ≡ 0) where
  -- w·s, with its last s apart
  last : (w : ℕ) → ((w - 1) * s + s ≡ w * s) ⊎ ((w ≡ 0) × ((w - 1) * s ≡ 0))
  last zero = inr (refl, N.zero-mul s)
  last (suc w) = let o : suc w - 1 ≡ w = omega arith in inl (rw o (sym (N.suc-mul w s)))

  sum_past : (k : ℕ) → w * s < k + s → coef (plus (x ∷ []) (times h p)) k ≡ 0
  sum_past zero q = ⊎_elim
      (λ (l : (w - 1) * s + s ≡ w * s). absurd (omega arith))
      (λ (l : (w ≡ 0) × ((w - 1) * s ≡ 0)). coef-plus (x ∷ []) (times h p) 0 ∙ rw (none l.0, coef-times_zero h p, rest 0 (omega arith)) (N.zero-add _ ∙ N.mul-zero (coef h 0)))
      (last w)
  sum_past (suc k) q = coef-plus (x ∷ []) (times h p) (suc k) ∙ N.zero-add _ ∙ product-past p e rest (suc k) (⊎_elim
      (λ (l : (w - 1) * s + s ≡ w * s). omega arith)
      (λ (l : (w ≡ 0) × ((w - 1) * s ≡ 0)). omega arith)
      (last w))

-- where g has nothing from x^w on, g(h) has nothing above x^((w-1)s)
after-past : {s : ℕ} {h : List ℕ} → Ends s h → (g : List ℕ) (w : ℕ) → ((k : ℕ) → w ≤ k → coef g k ≡ 0) → (k : ℕ) → w * s < k + s → coef (after g h) k ≡ 0
unfolding after
after-past e [] w z k l = refl
after-past {s} {h} e (x ∷ g) w z k l = sum_past e x w (after g h) (λ n. z 0 (omega arith)) (after-past e g (w - 1) (λ k b. z (suc k) (omega arith))) k l

-- what the rule has after the terms from x^i on
pub record Partly (m r s : ℕ) (g h : List ℕ) (i d : ℕ) (p : List ℕ) : Type 0 where
  pub reduced : Reduced m p
  pub same : Same m p (after (drop i g) h)
  pub past : (k : ℕ) → d < k + s → coef p k ≡ 0
  pub degree : d + i * s ≡ (r + 1) * s

-- the next step is within the limit
pub partly_room : {m r s i d : ℕ} {g h p : List ℕ} → Ends s h → r * s ≤ limit → 0 < i → Partly m r s g h i d p → Room s d h p
partly_room {s = s} {i} e l q c =
    record { right = e; long = c.reduced.long; past = c.past; within = omega (arith, c.degree, N.mul-le-mul_right {m = 1} {n = i} s q) }

module _ {m : ℕ} (pos : 0 < m) where
  -- no term yet: zeros
  pub partly_none : {r s i : ℕ} {g : List ℕ} (h : List ℕ) → Ends r g → i ≡ r + 1 → Partly m r s g h i 0 (replicate terms 0)
  unfolding after
  partly_none {r} {s} {i} {g} h e q = record {
    reduced = record { long = length-replicate terms 0; below = λ k l. rw (zeros terms k) pos };
    same = record { at = λ k. ap (λ (x : ℕ). x % m) (zeros terms k) } ⨾ after_same m pos {g = []} {g' = drop i g} (record { at = λ k. ap (λ (x : ℕ). x % m) (sym (get_or-drop i g k 0 ∙ e.past (i + k) (omega arith))) }) (same_refl h);
    past = λ k l. zeros terms k;
    degree = rw q (omega arith);
  }

  -- one term more
  pub partly_next : {r s i j d : ℕ} {g h p q : List ℕ} → Room s d h p → i ≡ j + 1 → j < length g
      → q ≡ reduced m (plus (coef g j ∷ []) (times h p)) → Partly m r s g h i d p → Partly m r s g h j (d + s) q
  unfolding after terms
  partly_next {r} {s} {i} {j} {d} {g} {h} {p} {q} room q-i l is c = rw is (record {
    reduced = reduced-reduced m pos _;
    same = same_sym (reduced-same m pos _ (λ k b. step_past m (coef g j) room k (omega (arith, room.within)) ∙ sym (N.zero-mod m)))
        ⨾ rw (drop-cons g j 0 l) (plus-same m pos (same_refl (coef g j ∷ [])) (times-same m pos (same_refl h) (rw (q-i, add-one j) at c.same)));
    past = λ k b. go k (omega arith) (dec_lt k terms);
    degree = let f = rw q-i at c.degree in omega arith;
  })
    where
      go : (k : ℕ) → d < k → Dec (k < terms) → coef (reduced m (plus (coef g j ∷ []) (times h p))) k ≡ 0
      go k b (yes t) = reduced-place m _ k t ∙ step_past m (coef g j) room k b
      go k b (no t) = let f = (reduced-reduced m pos (plus (coef g j ∷ []) (times h p))).long in get_or-eq_default (reduced m (plus (coef g j ∷ []) (times h p))) 0 (omega arith)

  -- all terms
  pub partly_all : {r s i d : ℕ} {g h p : List ℕ} → i ≡ 0 → Partly m r s g h i d p → p ≡ composition m g h
  unfolding composition
  partly_all {r} {s} {i} {d} {g} {h} {p} e c = reduced_equal c.reduced (reduced-reduced m pos _) (record { at = λ k. go k (dec_lt k terms) })
    where
      go : (k : ℕ) → Dec (k < terms) → coef p k % m ≡ coef (reduced m (after g h)) k % m
      go k (yes l) = (rw e at c.same).at k ∙ sym (ap (λ (x : ℕ). x % m) (reduced-place m _ k l) ∙ N.mod-mod _ m)
      go k (no l) =
          let a = c.reduced.long in
          let b = (reduced-reduced m pos (after g h)).long in
          ap (λ (x : ℕ). x % m) (get_or-eq_default p 0 (omega arith) ∙ sym (get_or-eq_default (reduced m (after g h)) 0 (omega arith)))

  pub composition-reduced : (g h : List ℕ) → Reduced m (composition m g h)
  unfolding composition
  composition-reduced g h = reduced-reduced m pos (after g h)

  -- within the limit nothing is cut off
  pub composition-same : {r s : ℕ} {g h : List ℕ} → Composable r s g h → Same m (composition m g h) (after g h)
  unfolding composition terms
  composition-same {r} {s} {g} {h} c = same_sym (reduced-same m pos (after g h) (λ i l.
      ap (λ (x : ℕ). x % m) (after-past c.right g (r + 1) (λ k b. c.left.past k (omega arith)) i (omega (arith, c.within)))))

-- a polynomial that a leaf is given ends at its degree
pub held-ends : {m n : ℕ} {p : List ℕ} → Held m n p → Ends n p
held-ends c = record { long = c.reduced.long; past = reduced-above c.reduced c.monic; inside = c.within }
