-- The used places composed, one after the other.
--
--   parts_skip, parts-take          a place that is not used, and one that is
--   factor_skip, factor-take        what it does to the product of the degrees
--   risen                           the product does not fall
--   above-product, within-product   No. 10, by the test on the product
--   product-none                    no used place: the product is 1
--   parted_rising                   parts have a degree of 1 or more
--   composed-monic, composed-same   the composition is monic, and its reduced list is the same modulo m
--   composed-none                   x, before the first place
--   composed_asks                   what the next composition asks
--   composed_skip, composed-more    one place more
use mathlib.Core.Path.{◌≡◌, refl, sym, ap, ap₂, subst, ◌∙◌}
use mathlib.Core.Bool.{Bool, true, false}
use mathlib.Core.Logic.{⊎_elim}
use mathlib.Core.List.{List, [], ◌∷◌}
use Prim.Native.Nat.{ℕ, zero, suc, ◌+◌, ◌*◌, ◌-◌, ◌%◌, ◌≤◌, ◌<◌}
use native.Mathlib.Nat as N
use native.Mathlib.Omega.{arith}
use native.Mathlib.Numerals.{add-one}
use borrow.Author.Tests.{lt-ltb, le-ltb}
use lib.ListN.{length, replicate, length-replicate}
use lib.Seq.{ext_get_or}
use Rattle.algebra.specs.Number.{table}
use Rattle.algebra.specs.Polynomial.{coef, limit, terms, degree, reduced, Same, Monic, Held}
use Rattle.algebra.specs.Chain.{composed, degrees, product}
use Rattle.algebra.proofs.Numbers.{table-length, table_below, table_ext}
use Rattle.algebra.proofs.Highest.{degree-below}
use Rattle.algebra.proofs.Polynomials.{same_refl, same_sym, after_same, monic-same}
use Rattle.algebra.proofs.Reduction.{reduced-reduced, monic-reduced}
use Rattle.algebra.proofs.Chains as C
use Rattle.refusal.specs.Refusal.{refusal}
use Rattle.refusal.specs.declared.Concerns.TheVariants.{Neither}
use Rattle.refusal.specs.declared.Reason.TheVariants.{Limit}
use Rattle.refusal.specs.Refusal.{Answered}
use Rattle.polynomial.proofs.Filling.{zeros}
use Rattle.composition.specs.Composition.{composition, Composable}
use Rattle.composition.proofs.Horner.{held-ends}
use Rattle.area.specs.Area.{most_parts}
use Rattle.sheet.specs.Sheet.{used, parts_in, Parted}
use Rattle.sheet.specs.Checks.{check_product}
use Rattle.sheet.specs.Steps.{Rising, Composes, ComposedTo}

module _ (g : ℕ → List ℕ) where
  -- a place that is not used
  pub parts_skip : (n : ℕ) → used (g n) ≡ false → parts_in g (suc n) ≡ parts_in g n
  unfolding parts_in
  parts_skip n e = simp e

  -- and one that is
  pub parts-take : (n : ℕ) → used (g n) ≡ true → parts_in g (suc n) ≡ g n ∷ parts_in g n
  unfolding parts_in
  parts-take n e = simp e

  -- the degrees of the used ones of the first n, multiplied
  abbrev product_of : ℕ → ℕ
  product_of n = product (degrees (parts_in g n))

  product_skip : (n : ℕ) → used (g n) ≡ false → product_of (suc n) ≡ product_of n
  product_skip n e = ap (λ (l : List (List ℕ)). product (degrees l)) (parts_skip n e)

  product-take : (n : ℕ) → used (g n) ≡ true → product_of (suc n) ≡ degree (g n) * product_of n
  unfolding product degrees
  product-take n e = ap (λ (l : List (List ℕ)). product (degrees l)) (parts-take n e)

  pub factor_skip : (n : ℕ) → used (g n) ≡ false → product_of (n + 1) ≡ 1 * product_of n
  factor_skip n e = rw (add-one n) (product_skip n e ∙ sym (N.one-mul _))

  pub factor-take : (n : ℕ) {d : ℕ} → used (g n) ≡ true → d ≡ degree (g n) → product_of (n + 1) ≡ d * product_of n
  factor-take n e z = rw (add-one n, z) (product-take n e)

  module _ (r : Rising g) where
    rises : (n : ℕ) → n < most_parts → (t : Bool) → used (g n) ≡ t → product_of n ≤ product_of (suc n)
    rises n l true e = let d = r.some n l e in omega (arith, product-take n e, N.mul-le-mul_right {m = 1} {n = degree (g n)} (product_of n) d)
    rises n l false e = omega (arith, product_skip n e)

    -- the product does not fall
    pub risen : (i n : ℕ) → i ≤ n → n ≤ most_parts → product_of i ≤ product_of n
    risen i zero l k = let e : i ≡ 0 = omega arith in rw e (N.le_refl _)
    risen i (suc n) l k =
        ⊎_elim
        (λ (e : i ≡ suc n). rw e (N.le_refl _))
        (λ (b : i < suc n). N.le_trans (risen i n (omega arith) (omega arith)) (rises n (omega arith) (used (g n)) refl))
        (N.eq-or-lt_of_le l)

    -- No. 10, at the first place where the product is above the limit
    pub above-product : (i : ℕ) {n : ℕ} → i ≤ most_parts → n ≡ product_of i → limit < n → refusal Neither Limit ≡ check_product g
    unfolding check_product
    above-product i l e h = simp (lt-ltb limit (product_of most_parts) (omega (arith, risen i most_parts l (omega arith))))

  -- and if it is not at the end
  pub within-product : {i n : ℕ} → most_parts ≤ i → i ≤ most_parts → n ≡ product_of i → n ≤ limit → Answered ≡ check_product g
  unfolding check_product
  within-product {i} l k e h = let z : i ≡ most_parts = omega arith in simp (le-ltb limit (product_of most_parts) (rw (← z, ← e) h))

-- no used place: the product is 1
pub product-none : (g : ℕ → List ℕ) → 1 ≡ product (degrees (parts_in g 0))
unfolding parts_in degrees product
product-none g = refl

-- parts have a degree of 2 or more, within the limit
pub parted_rising : {m : ℕ} {g : ℕ → List ℕ} → Parted m g → Rising g
unfolding terms
parted_rising {m} {g} p = record {
  some = λ i l e. let z = (p.is i l e).two in omega arith;
  most = λ i l e. let z = (p.is i l e).reduced.long in omega (arith, degree-below (g i) (omega arith));
}

-- x, as the desk holds it
abbrev x_held : List ℕ
x_held = 0 ∷ 1 ∷ replicate (limit - 1) 0

limit-some : 1 ≤ limit
unfolding limit
limit-some = omega arith

module _ {m : ℕ} (two : 1 < m) where
  pos : 0 < m
  pos = omega arith

  -- the composition of the used ones of the first n is monic, of the product of their degrees
  pub composed-monic : {g : ℕ → List ℕ} → Parted m g → (n : ℕ) → n ≤ most_parts → Monic m (product (degrees (parts_in g n))) (composed (parts_in g n))
  unfolding parts_in composed degrees product
  composed-monic {g} p zero l = C.composed-none pos
  composed-monic {g} p (suc n) l = go (composed-monic p n (omega arith)) (used (g n)) refl
    where
      go : Monic m (product (degrees (parts_in g n))) (composed (parts_in g n)) → (t : Bool) → used (g n) ≡ t → Monic m (product (degrees (parts_in g (suc n)))) (composed (parts_in g (suc n)))
      go k true e =
          subst (λ (ps : List (List ℕ)). Monic m (product (degrees ps)) (composed ps)) (sym (parts-take g n e)) (C.composed-more pos (g n) (parts_in g n) (p.is n (omega arith) e) k)
      go k false e = subst (λ (ps : List (List ℕ)). Monic m (product (degrees ps)) (composed ps)) (sym (parts_skip g n e)) k

  -- its reduced list is the same modulo m
  pub composed-same : {g : ℕ → List ℕ} → Parted m g → (n : ℕ) → n ≤ most_parts → product (degrees (parts_in g n)) ≤ limit
      → Same m (composed (parts_in g n)) (reduced m (composed (parts_in g n)))
  unfolding terms
  composed-same p n l f = monic-reduced m pos (omega arith) (composed-monic p n l)

  module _ {g : ℕ → List ℕ} (p : Composes m g) {i : ℕ} (inside : i < most_parts) where
    fits : (n : ℕ) → n ≤ most_parts → product (degrees (parts_in g n)) ≤ limit
    fits n l = N.le_trans (risen g (parted_rising p.parts) n most_parts l (omega arith)) p.within

    same_here : Same m (composed (parts_in g i)) (reduced m (composed (parts_in g i)))
    same_here = composed-same p.parts i (omega arith) (fits i (omega arith))

    module _ {f : List ℕ} {r : ℕ} (c : ComposedTo m g i f r) where
      -- a place that is not used changes nothing
      pub composed_skip : used (g i) ≡ false → ComposedTo m g (i + 1) f r
      composed_skip e =
          let q : parts_in g i ≡ parts_in g (i + 1) = sym (rw (add-one i) (parts_skip g i e)) in
          record { polynomial_is = c.polynomial_is ∙ ap (λ (l : List (List ℕ)). reduced m (composed l)) q; degree_is = c.degree_is ∙ ap (λ (l : List (List ℕ)). product (degrees l)) q }

      module _ (u : used (g i) ≡ true) {h : List ℕ} {s : ℕ} (h_is : h ≡ g i) (s_is : s ≡ degree h) where
        product-here : r * s ≡ product (degrees (parts_in g (i + 1)))
        product-here = N.mul_comm r s ∙ ap₂ ◌*◌ {x = s} {y = degree (g i)} (s_is ∙ ap degree h_is) c.degree_is ∙ sym (factor-take g i u refl)

        left-held : Held m r f
        left-held = rw (c.polynomial_is, c.degree_is) (record { reduced = reduced-reduced m pos _; monic = monic-same m pos same_here (composed-monic p.parts i (omega arith)); within = fits i (omega arith) })

        right-held : Held m s h
        right-held =
            let q = p.parts.is i inside u in
            rw (s_is, h_is) (record { reduced = q.reduced; monic = q.monic; within = (parted_rising p.parts).most i inside u })

        -- what the composition of f and h asks
        pub composed_asks : Composable r s f h
        composed_asks = record { left = held-ends left-held; right = held-ends right-held; within = rw product-here (fits (i + 1) (omega arith)) }

        -- the part of the next place
        pub composed-more : {q : List ℕ} → q ≡ composition m f h → ComposedTo m g (i + 1) q (r * s)
        unfolding composition reduced composed
        composed-more {q} e = record {
          polynomial_is = e ∙ ap₂ (composition m) c.polynomial_is h_is ∙ table_ext terms _ _ (λ k l. (after_same m pos (same_sym same_here) (same_refl (g i))).at k)
              ∙ ap (λ (l : List (List ℕ)). reduced m (composed l)) {x = g i ∷ parts_in g i} {y = parts_in g (i + 1)} (sym (rw (add-one i) (parts-take g i u)));
          degree_is = product-here;
        }

  -- before the first place
  pub composed-none : (g : ℕ → List ℕ) {x : List ℕ} → x ≡ 0 ∷ 1 ∷ replicate (limit - 1) 0 → ComposedTo m g 0 x 1
  unfolding parts_in composed degrees product reduced terms
  composed-none g {x} e = record { polynomial_is = e ∙ ext_get_or 0 _ _ long go; degree_is = refl }
    where
      long : length x_held ≡ length (table terms (λ k. coef (0 ∷ 1 ∷ []) k % m))
      long = omega (arith, limit-some, length-replicate (limit - 1) zero, table-length terms (λ k. coef (0 ∷ 1 ∷ []) k % m))

      each-is : (k : ℕ) → coef x_held k ≡ coef (0 ∷ 1 ∷ []) k % m
      each-is zero = sym (N.zero-mod m)
      each-is (suc zero) = sym (N.mod-eq_of_lt two)
      each-is (suc (suc k)) = zeros (limit - 1) k ∙ sym (N.zero-mod m)

      go : (k : ℕ) → k < length x_held → coef x_held k ≡ coef (table terms (λ k. coef (0 ∷ 1 ∷ []) k % m)) k
      go k l = each-is k ∙ sym (table_below terms (λ k. coef (0 ∷ 1 ∷ []) k % m) k (omega (arith, long, table-length terms (λ k. coef (0 ∷ 1 ∷ []) k % m))))
