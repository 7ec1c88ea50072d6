-- Complete chains, taken apart from the right.
--
--   Cut m n f parts                       a complete chain, built part by part
--   complete-product                      the degrees multiply to n
--   complete-length, complete-price       so many parts as 2^parts <= n allows; the price is at most n
--   complete-one, complete-more           f alone; a right part before a chain of the left part
--   cut_complete                          what is built so is complete
--   right-degree                          the degree of a right part
--   chain-is-complete                     01's chain is complete
--   Chainable m n f, low, degree_is       an f as the chain takes it, of a degree n below `terms`: the hypothesis of what follows
--   left_chainable, right_chainable       the parts of a pair are as the chain takes them
--   split_normal                          a split has its normal pair
--   complete_cut                          a complete chain is built part by part
--   complete-some, complete_unique        there is a part; the degrees tell the chain
--   chain_earliest                        no complete chain is earlier than 01's
--   complete-changed                      the changed f has the chain with the change carried along it, and the degrees stay
use mathlib.Core.Path.{◌≡◌, refl, sym, ap, ap₂, subst, ◌∙◌}
use mathlib.Core.List.{List, [], ◌∷◌}
use Prim.Native.Nat.{ℕ, zero, suc, ◌*◌, ◌^◌, ◌%◌, ◌≤◌, ◌<◌}
use native.Mathlib.Nat as N
use native.Mathlib.Omega.{arith}
use mathlib.Core.Logic.{◌⊎◌, inl, inr}
use lib.ListN.{length}
use Rattle.algebra.specs.Number.{Invertible}
use Rattle.algebra.specs.Polynomial.{coef, plus, scaled, value, degree, Same, Monic, Reduced, reduced, Held, terms}
use Rattle.algebra.specs.Pair.{Pair, Normal, NormalPair, SplitsRight, Unsplit}
use Rattle.algebra.specs.Change.{Changed, ChangedRight}
use Rattle.algebra.specs.Chain.{Part, Chain, whole, step, composed, part, degrees, product, price, Carried, leftmost, hand_on}
use Rattle.algebra.specs.Every.{CompleteChain, Earlier}
use Rattle.algebra.proofs.Numbers.{mul-same}
use Rattle.algebra.proofs.Polynomials.{same_refl, same_sym, ◌⨾◌, after_same, after_plus, constant-after, constant-same, plus-same, scaled-plus, x_after, monic-same}
use Rattle.algebra.proofs.Coefficients.{coef-plus}
use Rattle.algebra.proofs.Reduction.{reduced-reduced, monic-reduced, monic-degree, degree-monic, reduced_equal}
use Rattle.algebra.proofs.Factors.{invertible-left, invertible-pow}
use Rattle.algebra.proofs.Changes.{changed-monic, splits-unchanged}
use Rattle.algebra.proofs.Pairs.{changed-pair-exists, normalised}
use Rattle.algebra.proofs.Chains as C
use Rattle.algebra.proofs.Lists.{earlier_not, earlier_apart}

-- one: f does not split. more: h does not split, and g has the chain of the others.
pub data Cut (m : ℕ) : ℕ → List ℕ → List (List ℕ) → Type 0 where
  one : {n : ℕ} {f : List ℕ} → 2 ≤ n → Monic m n f → Reduced m f → Unsplit m f → Cut m n f (f ∷ [])
  more : {n r s : ℕ} {f g h : List ℕ} {parts : List (List ℕ)} → 2 ≤ r → 2 ≤ s → r * s ≡ n
      → NormalPair m f r s g h → Unsplit m h → Cut m r g parts → Cut m n f (h ∷ parts)

module _ {m : ℕ} (two : 2 ≤ m) where
  pos : 0 < m
  pos = omega arith

  composed-monic : (parts : List (List ℕ)) → C.EachPart m parts → Monic m (product (degrees parts)) (composed parts)
  unfolding product degrees
  composed-monic [] p = C.composed-none pos
  composed-monic (h ∷ parts) p = C.composed-more pos h parts (p 0 (omega arith)) (composed-monic parts (λ i l. p (suc i) (omega arith)))

  -- the degrees multiply to n
  pub complete-product : {n : ℕ} {f : List ℕ} {parts : List (List ℕ)} → Monic m n f → CompleteChain m f parts → product (degrees parts) ≡ n
  complete-product {parts = parts} mon c = monic-degree two (monic-same m pos (same_sym c.composes) (composed-monic parts c.is_part)) mon

  -- so many parts of degree 2 or more fit under n
  pub complete-length : {n : ℕ} {f : List ℕ} {parts : List (List ℕ)} → Monic m n f → CompleteChain m f parts → 2 ^ length parts ≤ n
  complete-length {parts = parts} mon c = rw (← complete-product mon c) (C.parts-length parts c.is_part)

  -- and the price is at most n
  pub complete-price : {n : ℕ} {f : List ℕ} {parts : List (List ℕ)} → Monic m n f → CompleteChain m f parts → price parts ≤ n
  complete-price {parts = parts} mon c = rw (← complete-product mon c) (C.parts-price parts c.is_part)

  -- f alone, if it does not split
  pub complete-one : {n : ℕ} {f : List ℕ} → 2 ≤ n → Monic m n f → Reduced m f → Unsplit m f → CompleteChain m f (f ∷ [])
  unfolding composed
  complete-one {f = f} tn mon red u = record { is_part = is_part; unsplit = unsplit; normal = λ i l. absurd (omega arith); composes = same_sym (x_after m pos f) }
    where
      is_part : (i : ℕ) → i < 1 → Part m (part (f ∷ []) i)
      is_part zero l = C.monic-part two tn mon red
      is_part (suc i) l = absurd (N.not-suc-le-zero (N.le_of_suc-le-suc l))

      unsplit : (i : ℕ) → i < 1 → Unsplit m (part (f ∷ []) i)
      unsplit zero l = u
      unsplit (suc i) l = absurd (N.not-suc-le-zero (N.le_of_suc-le-suc l))

  -- a right part that does not split, before a complete chain of the left part
  pub complete-more : {r s : ℕ} {f g h : List ℕ} {parts : List (List ℕ)} → 2 ≤ s → NormalPair m f r s g h → Unsplit m h → CompleteChain m g parts → CompleteChain m f (h ∷ parts)
  unfolding composed
  complete-more {h = h} {parts = parts} b p u c = record { is_part = is_part; unsplit = unsplit; normal = normal; composes = p.pair.whole ⨾ after_same m pos c.composes (same_refl h) }
    where
      is_part : (i : ℕ) → i < length (h ∷ parts) → Part m (part (h ∷ parts) i)
      is_part zero l = C.monic-part two b p.pair.right p.reduced_right
      is_part (suc i) l = c.is_part i (N.le_of_suc-le-suc l)

      unsplit : (i : ℕ) → i < length (h ∷ parts) → Unsplit m (part (h ∷ parts) i)
      unsplit zero l = u
      unsplit (suc i) l = c.unsplit i (N.le_of_suc-le-suc l)

      normal : (i : ℕ) → suc i < length (h ∷ parts) → Normal m (part (h ∷ parts) i)
      normal zero l = p.normal
      normal (suc i) l = c.normal i (N.le_of_suc-le-suc l)

  -- what is built part by part is complete
  pub cut_complete : {n : ℕ} {f : List ℕ} {parts : List (List ℕ)} → Cut m n f parts → CompleteChain m f parts
  cut_complete (one tn mon red u) = complete-one tn mon red u
  cut_complete (more a b e p u k) = complete-more b p u (cut_complete k)

  -- the left part of a longer chain is what the others compose to, reduced
  complete-rest : {f h : List ℕ} {parts : List (List ℕ)} → product (degrees parts) < terms → CompleteChain m f (h ∷ parts) → CompleteChain m (reduced m (composed parts)) parts
  complete-rest {parts = parts} l c = record {
    is_part = λ i b. c.is_part (suc i) (omega arith);
    unsplit = λ i b. c.unsplit (suc i) (omega arith);
    normal = λ i b. c.normal (suc i) (omega arith);
    composes = same_sym (monic-reduced m pos l (composed-monic parts (λ i b. c.is_part (suc i) (omega arith))));
  }

  complete-pair : {f h p : List ℕ} {parts : List (List ℕ)} → product (degrees (p ∷ parts)) < terms → CompleteChain m f (h ∷ p ∷ parts)
      → NormalPair m f (product (degrees (p ∷ parts))) (degree h) (reduced m (composed (p ∷ parts))) h
  unfolding composed
  complete-pair {h = h} {p = p} {parts = parts} l c = record {
    pair = record { left = monic-same m pos low mon; right = (c.is_part 0 (omega arith)).monic; whole = c.composes ⨾ after_same m pos low (same_refl h) };
    normal = c.normal 0 (omega arith);
    reduced_left = reduced-reduced m pos _;
    reduced_right = (c.is_part 0 (omega arith)).reduced;
  }
    where
      mon : Monic m (product (degrees (p ∷ parts))) (composed (p ∷ parts))
      mon = composed-monic (p ∷ parts) (λ i b. c.is_part (suc i) (omega arith))

      low : Same m (composed (p ∷ parts)) (reduced m (composed (p ∷ parts)))
      low = monic-reduced m pos l mon

  -- its degrees
  complete-degrees : {n : ℕ} {f h p : List ℕ} {parts : List (List ℕ)} → Monic m n f → CompleteChain m f (h ∷ p ∷ parts)
      → (2 ≤ product (degrees (p ∷ parts))) × (2 ≤ degree h) × (product (degrees (p ∷ parts)) * degree h ≡ n) × (product (degrees (p ∷ parts)) ≤ n)
  unfolding product degrees
  complete-degrees {n} {f} {h} {p} {parts} mon c = (more_than_one, s2, all, omega (arith, N.mul-le-mul_right (product (degrees (p ∷ parts))) s2, all))
    where
      s2 : 2 ≤ degree h
      s2 = (c.is_part 0 (omega arith)).two

      rest : (i : ℕ) → i < length parts → Part m (part parts i)
      rest i b = c.is_part (suc (suc i)) (omega arith)

      more_than_one : 2 ≤ degree p * product (degrees parts)
      more_than_one = N.mul-le-mul (c.is_part 1 (omega arith)).two (N.le_trans (N.pow-le-pow_right {n = 2} (omega arith) {i = 0} {j = length parts} (omega arith)) (C.parts-length parts rest))

      all : degree p * product (degrees parts) * degree h ≡ n
      all = N.mul_comm _ (degree h) ∙ complete-product mon c

  no_parts : {n : ℕ} {f : List ℕ} → 2 ≤ n → Monic m n f → CompleteChain m f [] → ⊥
  unfolding product degrees
  no_parts tn mon c = omega (arith, complete-product mon c)

  alone : {f p : List ℕ} → Reduced m f → CompleteChain m f (p ∷ []) → f ≡ p
  unfolding composed
  alone {f} {p} red c = reduced_equal red (c.is_part 0 (omega arith)).reduced (c.composes ⨾ x_after m pos p)

  -- and a complete chain is built part by part
  cut_of : {n : ℕ} {f : List ℕ} (parts : List (List ℕ)) → 2 ≤ n → n < terms → Monic m n f → Reduced m f → CompleteChain m f parts → Cut m n f parts
  cut_of {n} [] tn l mon red c = absurd (no_parts tn mon c)
  cut_of {n} {f} (p ∷ []) tn l mon red c = subst (λ (q : List ℕ). Cut m n f (q ∷ [])) is (one tn mon red (rw is (c.unsplit 0 (omega arith))))
    where
      is : f ≡ p
      is = alone red c
  cut_of {n} {f} (h ∷ p ∷ parts) tn l mon red c =
      let (a, b, e, k) = complete-degrees mon c in
      let q = complete-pair (omega arith) c in
      more {parts = p ∷ parts} a b e q (c.unsplit 0 (omega arith)) (cut_of {n = product (degrees (p ∷ parts))} (p ∷ parts) a (omega arith) q.pair.left q.reduced_left (complete-rest (omega arith) c))

  -- the degree of a right part
  pub right-degree : {r s : ℕ} {f g h : List ℕ} → NormalPair m f r s g h → degree h ≡ s
  right-degree p = degree-monic two p.reduced_right p.pair.right

  -- the degrees tell the chain
  cut_unique : {n : ℕ} {f : List ℕ} {x y : List (List ℕ)} → Invertible m n → Cut m n f x → Cut m n f y → degrees x ≡ degrees y → x ≡ y
  unfolding degrees
  cut_unique i (one tn mon red u) (one tn' mon' red' u') d = refl
  cut_unique i (one {f = f} tn mon red u) (more {h = h} a b e p v k) d =
      let w : degree f ≡ degree h = cc d in
      absurd (omega (arith, w, degree-monic two red mon, right-degree p, C.sum-within a b e, a))
  cut_unique i (more {f = f} {h = h} a b e p v k) (one tn mon red u) d =
      let w : degree h ≡ degree f = cc d in
      absurd (omega (arith, w, degree-monic two red mon, right-degree p, C.sum-within a b e, a))
  cut_unique {n} i (more {r = r} {s = s} {f = f} {g = g} {h = h} {parts = x} a b e p v k) (more {r = r'} {s = s'} {g = g'} {h = h'} {parts = y} a' b' e' p' v' k') d =
      let w : degree h ≡ degree h' = cc d in
      let o : degrees x ≡ degrees y = cc d in
      let (q, z, t) = C.pairs_equal pos i a b e e' (sym (right-degree p') ∙ sym w ∙ right-degree p) p p' in
      ap₂ ◌∷◌ (sym t) (cut_unique (invertible-left s i e) k (subst (λ (l : List ℕ). Cut m r l y) z (subst (λ (l : ℕ). Cut m l g' y) q k')) o)

  -- 01's chain is complete
  pub chain-is-complete : {n t : ℕ} {f : List ℕ} {parts : List (List ℕ)} → 2 ≤ n → Chain m n f parts t → CompleteChain m f parts
  chain-is-complete tn k = record { is_part = C.chain-part two tn k; unsplit = C.chain-unsplit two k; normal = C.chain-normal k; composes = C.chain-composed pos k }

  -- and no complete chain is earlier
  chain_first : {n t : ℕ} {f : List ℕ} {parts x : List (List ℕ)} → Invertible m n → Chain m n f parts t → Cut m n f x → Earlier x parts → ⊥
  chain_first i (whole a b none) (one tn mon red u) l = earlier_not _ l
  chain_first i (whole a b none) (more {s = s} c d e p u k) l = none s (C.splits c d e p.pair)
  chain_first i (step {s = s} a b e first p k) (one tn mon red u) l = C.split_at two red mon u s (C.splits a b e p.pair)
  chain_first {n} i (step {r = r} {s = s} {f = f} {g = g} {h = h} {parts = parts} a b e first p k) (more {r = r'} {s = s'} {g = g'} {h = h'} {parts = x} a' b' e' p' u' k') l =
      go (λ q z o. chain_first (invertible-left s i e) k (subst (λ (l : List ℕ). Cut m r l x) z (subst (λ (l : ℕ). Cut m l g' x) q k')) o) (earlier_apart l)
    where
      go : (r' ≡ r → g' ≡ g → Earlier x parts → ⊥) → (degree h' < degree h) ⊎ ((degree h' ≡ degree h) × Earlier x parts) → ⊥
      go back (inl w) = first s' (omega (arith, w, right-degree p, right-degree p')) (C.splits a' b' e' p'.pair)
      go back (inr (w, o)) = let (q, z, t) = C.pairs_equal pos i a b e e' (sym (right-degree p') ∙ w ∙ right-degree p) p p' in back q z o

  -- a constant added on the left changes no degree of 2 or more
  monic-raised : {r : ℕ} {u : List ℕ} (c : ℕ) → 2 ≤ r → Monic m r u → Monic m r (plus (c ∷ []) u)
  monic-raised {r} {u} c a mon = record { top = ap (λ (x : ℕ). x % m) (raised r (omega arith)) ∙ mon.top; above = λ i l. ap (λ (x : ℕ). x % m) (raised i (omega arith)) ∙ mon.above i l }
    where
      zeros : (i : ℕ) → 0 < i → coef (c ∷ []) i ≡ 0
      zeros zero l = absurd (omega arith)
      zeros (suc i) l = refl

      raised : (i : ℕ) → 0 < i → coef (plus (c ∷ []) u) i ≡ coef u i
      raised i l = omega (arith, coef-plus (c ∷ []) u i, zeros i l)

  pair-raised : {r s : ℕ} {k u w : List ℕ} (c : ℕ) → 2 ≤ r → Pair m k r s u w → Pair m (plus (c ∷ []) k) r s (plus (c ∷ []) u) w
  pair-raised {k = k} {u = u} {w = w} c a p = record {
    left = monic-raised c a p.left;
    right = p.right;
    whole = plus-same m pos (same_sym (constant-after m pos c w)) p.whole ⨾ same_sym (after_plus m pos (c ∷ []) u w);
  }

  -- a changed right part and a constant are the changed polynomial
  raised-changed : {s a b : ℕ} {h h' : List ℕ} → Invertible m a → ChangedRight m s a b h h' → (c : ℕ) × Changed m s a b h (plus (c ∷ []) h')
  unfolding scaled
  raised-changed {s} {a} {b} {h} {h'} i k = (u * value h b, record { same = scaled-plus m pos (a ^ s) ((u * value h b) ∷ []) h' ⨾ plus-same m pos (constant-same m pos _ _ unit) (same_refl _) ⨾ k.same })
    where
      u : ℕ
      u = (invertible-pow i s).inverse

      unit : a ^ s * (u * value h b) % m ≡ value h b % m
      unit = ap (λ (x : ℕ). x % m) (turned (a ^ s) u (value h b)) ∙ mul-same m (u * a ^ s) (value h b) 1 (value h b) (invertible-pow i s).unit refl ∙ ap (λ (x : ℕ). x % m) (N.one-mul _)
        where
          turned : (x y z : ℕ) → x * (y * z) ≡ y * x * z
          turned x y z = omega arith

  -- what splits only where f does, and has its degree, does not split if f does not
  unsplit_as : {n : ℕ} {f f' : List ℕ} → degree f ≡ n → degree f' ≡ n → ((s : ℕ) → SplitsRight m n f' s → SplitsRight m n f s) → Unsplit m f → Unsplit m f'
  unsplit_as {n} {f} d d' back u = record { none = λ r s x y e g h p. go (back s (C.splits x y (e ∙ d') p)) }
    where
      go : {s : ℕ} → SplitsRight m n f s → ⊥
      go {s} w = u.none w.r s w.two_left w.two_right (w.degrees ∙ sym d) w.g w.h w.pair

  -- a change keeps that a right part does not split: the changed polynomial is the changed right part and a constant
  raised-splits : {s t a b : ℕ} {h h' : List ℕ} → Invertible m a → ChangedRight m s a b h h' → SplitsRight m s h' t → SplitsRight m s h t
  raised-splits i c w =
      let (k, ch) = raised-changed i c in
      splits-unchanged pos i ch (C.splits w.two_left w.two_right w.degrees (pair-raised k w.two_left w.pair))

  -- the changed polynomial has the chain with the change carried along its parts, and the degrees stay
  cut_changed : {n a b : ℕ} {f f' : List ℕ} {parts : List (List ℕ)} → n < terms → Invertible m a → Cut m n f parts → Reduced m f' → Changed m n a b f f'
      → (parts' : List (List ℕ)) × Cut m n f' parts' × Carried m a b parts parts' × (degrees parts ≡ degrees parts')
  unfolding degrees
  cut_changed {f' = f'} l i (one tn mon red u) red' c =
      let mon' = changed-monic pos (omega arith) i mon c in
      let d = degree-monic two red mon in
      let d' = degree-monic two red' mon' in
      (f' ∷ [], one tn mon' red' (unsplit_as d d' (λ s w. splits-unchanged pos i c w) u), leftmost mon red' c, ap (λ (k : ℕ). k ∷ []) (d ∙ sym d'))
  cut_changed {n} {f' = f'} l i (more {r = r} {s = s} a b e p u k) red' c =
      let z = C.sum-within a b e in
      let (g', h', d, q) = changed-pair-exists pos (omega arith) (omega arith) (omega arith) (omega arith) e i p.pair c in
      let (parts', k', car, deg) = cut_changed (omega arith) (invertible-pow i s) k q.reduced_left d.left in (
        h' ∷ parts',
        more {parts = parts'} a b e q (unsplit_as (right-degree p) (right-degree q) (λ t w. raised-splits i d.right w) u) k',
        hand_on {parts' = parts'} p.pair.right q.reduced_right d.right car,
        ap₂ ◌∷◌ {v = degrees parts'} (right-degree p ∙ sym (right-degree q)) deg,
      )

-- an f as the chain takes it: its degree has an inverse
pub record Chainable (m n : ℕ) (f : List ℕ) : Type 0 where
  pub modulus : 2 ≤ m
  pub whole : Held m n f
  pub two : 2 ≤ n
  pub inverse : Invertible m n

module _ {m n : ℕ} {f : List ℕ} (t : Chainable m n f) where
  pub low : n < terms
  unfolding terms
  low = omega (arith, t.whole.within)

  pub degree_is : degree f ≡ n
  degree_is = degree-monic t.modulus t.whole.reduced t.whole.monic

  module _ {r s : ℕ} {g h : List ℕ} (a : 2 ≤ r) (b : 2 ≤ s) (e : r * s ≡ n) (p : NormalPair m f r s g h) where
    -- the parts of a pair
    pub left_chainable : Chainable m r g
    left_chainable = record { modulus = t.modulus; whole = record { reduced = p.reduced_left; monic = p.pair.left; within = omega (arith, t.whole.within, C.sum-within a b e) }; two = a; inverse = invertible-left s t.inverse e }

    pub right_chainable : Chainable m s h
    right_chainable = record { modulus = t.modulus; whole = record { reduced = p.reduced_right; monic = p.pair.right; within = omega (arith, t.whole.within, C.sum-within a b e) }; two = b; inverse = invertible-left r t.inverse (N.mul_comm s r ∙ e) }

  -- a split has its normal pair, and the left part is as the chain takes it, of a smaller degree
  pub split_normal : {s : ℕ} (w : SplitsRight m n f s) → (g h : List ℕ) × NormalPair m f w.r s g h × Chainable m w.r g × (w.r < n)
  split_normal {s} w =
      let a = w.two_left in
      let b = w.two_right in
      let z = C.sum-within a b w.degrees in
      let (g, h, p) = normalised (omega (arith, t.modulus)) (omega (arith, a)) (omega (arith, b)) (omega (arith, low, z)) (omega (arith, low, z)) w.pair in
      (g, h, p, left_chainable a b w.degrees p, omega (arith, z, b))

  -- a complete chain is built part by part
  pub complete_cut : (x : List (List ℕ)) → CompleteChain m f x → Cut m n f x
  complete_cut x = cut_of t.modulus x t.two low t.whole.monic t.whole.reduced

  -- there is a part
  pub complete-some : (x : List (List ℕ)) → CompleteChain m f x → 1 ≤ length x
  complete-some [] c = absurd (no_parts t.modulus t.two t.whole.monic c)
  complete-some (h ∷ x) c = omega arith

  -- the degrees tell the chain
  pub complete_unique : (x y : List (List ℕ)) → CompleteChain m f x → CompleteChain m f y → degrees x ≡ degrees y → x ≡ y
  complete_unique x y c d = cut_unique t.modulus t.inverse (complete_cut x c) (complete_cut y d)

  -- no complete chain is earlier than 01's
  pub chain_earliest : {u : ℕ} {parts : List (List ℕ)} (x : List (List ℕ)) → Chain m n f parts u → CompleteChain m f x → Earlier x parts → ⊥
  chain_earliest x k c = chain_first t.modulus t.inverse k (complete_cut x c)

  -- the changed f has the chain with the change carried along it, and the degrees stay
  pub complete-changed : {a b : ℕ} {f' : List ℕ} (parts : List (List ℕ)) → Invertible m a → Reduced m f' → Changed m n a b f f' → CompleteChain m f parts
      → (parts' : List (List ℕ)) × CompleteChain m f' parts' × Carried m a b parts parts' × (degrees parts ≡ degrees parts')
  complete-changed parts i red c k =
      let (parts', k', car, deg) = cut_changed t.modulus low i (complete_cut parts k) red c in
      (parts', cut_complete t.modulus k', car, deg)
