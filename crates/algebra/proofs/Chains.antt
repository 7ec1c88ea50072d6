-- Chains: uniqueness, demand 2 and demand 3.
--
--   sum-within                            the degrees of a pair add up to at most n
--   splits, split_half                    a pair is a split; its right degree is at most n/2
--   unsplit-at, split_at                  that f does not split, said by right degrees, and back
--   pairs_equal                           two pairs with one right degree are equal
--   chain_unique                          f has one chain, and it costs one number of tries
--   chain-composed                        the parts compose back to f
--   chain-product                         the degrees multiply to n
--   right-unsplit                         the right part at the first right degree does not split
--   chain-unsplit                         no part splits further
--   chain-normal                          all but the leftmost have constant 0
--   monic-part, chain-part                what each part is
--   composed-none, composed-more          what parts compose to is monic: x if there is none, and one part more
--   EachPart, parts-length, parts-price   of any parts: 2^parts, and the price, are at most what the degrees multiply to
--   chain_length                          so many parts as 2^parts <= n allows
--   price-parts                           the price and the number of parts add up to the sum of the degrees
--   carried_unique                        carrying a change gives one answer
--   degrees-length, price-degrees         there is a degree for each part; the degrees tell the price
--   chain-changed, chains-changed         the chain of the changed f is the carried one, with the same degrees, tries and price
use mathlib.Core.Path.{◌≡◌, refl, sym, ap, ap₂, subst, ◌∙◌}
use mathlib.Core.List.{List, [], ◌∷◌}
use Prim.Native.Nat.{ℕ, zero, suc, ◌+◌, ◌*◌, ◌^◌, ◌%◌, ◌/◌, ◌≤◌, ◌<◌}
use native.Mathlib.Nat as N
use native.Mathlib.Omega.{arith}
use native.Mathlib.Decide.{dec_lt}
use lib.ListN.{length}
use Rattle.algebra.specs.Polynomial.{coef, after, value, degree, Same, Monic, Reduced, terms}
use Rattle.algebra.specs.Number.{sum, Invertible}
use Rattle.algebra.specs.Pair.{Pair, Normal, NormalPair, NoPair, SplitsRight, Unsplit}
use Rattle.algebra.specs.Change.{Changed, ChangedRight}
use Rattle.algebra.specs.Chain.{Part, Chain, whole, step, tested, composed, Carried, leftmost, hand_on, price, cost, part, degrees, product}
use Rattle.algebra.proofs.Numbers.{sum-none, sum_first}
use Rattle.algebra.proofs.Polynomials.{same_refl, same_sym, ◌⨾◌, after_same, after_assoc, x_after, monic-same}
use Rattle.algebra.proofs.Coefficients.{after-monic}
use Rattle.algebra.proofs.Reduction.{monic-degree, degree-monic, reduced_equal}
use Rattle.algebra.proofs.Factors.{invertible-left, invertible-pow}
use Rattle.algebra.proofs.Changes.{changed_unique, changed-right_unique, changed-monic, splits-unchanged}
use Rattle.algebra.proofs.Pairs.{pair_unique, changed-pair-exists}

-- two numbers of 2 or more multiply to no less than they add up to
pub sum-within : {r s n : ℕ} → 2 ≤ r → 2 ≤ s → r * s ≡ n → r + s ≤ n
sum-within {r} {s} a b e = omega (arith, e, N.mul-le-mul_left r b, N.mul-le-mul_right s a)

pub splits : {m n r s : ℕ} {f g h : List ℕ} → 2 ≤ r → 2 ≤ s → r * s ≡ n → Pair m f r s g h → SplitsRight m n f s
splits {r = r} {g = g} {h = h} a b e p = record { r = r; two_left = a; two_right = b; degrees = e; g = g; h = h; pair = p }

-- a right degree is at most n/2
pub split_half : {m n s : ℕ} {f : List ℕ} → SplitsRight m n f s → s ≤ n / 2
split_half {s = s} w = omega (arith, w.degrees, N.mul-le-mul_right s w.two_left)

module _ {m n : ℕ} {f : List ℕ} (two : 2 ≤ m) (red : Reduced m f) (mon : Monic m n f) where
  -- f does not split
  pub unsplit-at : ((s : ℕ) → SplitsRight m n f s → ⊥) → Unsplit m f
  unsplit-at none = record { none = λ r s a b e g h p. none s (splits a b (e ∙ degree-monic two red mon) p) }

  pub split_at : Unsplit m f → (s : ℕ) → SplitsRight m n f s → ⊥
  split_at u s w = u.none w.r s w.two_left w.two_right (w.degrees ∙ sym (degree-monic two red mon)) w.g w.h w.pair

-- the first right degree is one
first_one : {m n s s' : ℕ} {f : List ℕ} → SplitsRight m n f s → ((d : ℕ) → d < s → SplitsRight m n f d → ⊥)
    → SplitsRight m n f s' → ((d : ℕ) → d < s' → SplitsRight m n f d → ⊥) → s ≡ s'
first_one {m} {n} {s} {s'} {f} a p b q = go (dec_lt s s') (dec_lt s' s)
  where
    go : Dec (s < s') → Dec (s' < s) → s ≡ s'
    go (yes l) d = absurd (q s l a)
    go (no l) (yes k) = absurd (p s' k b)
    go (no l) (no k) = omega arith

module _ {m : ℕ} (pos : 0 < m) where
  -- two pairs with one right degree are equal
  pub pairs_equal : {n r s r' s' : ℕ} {f g h g' h' : List ℕ} → Invertible m n → 2 ≤ r → 2 ≤ s → r * s ≡ n → r' * s' ≡ n → s' ≡ s
      → NormalPair m f r s g h → NormalPair m f r' s' g' h' → (r' ≡ r) × (g' ≡ g) × (h' ≡ h)
  pairs_equal {n} {r} {s} {r'} {s'} {f} {g} {h} {g'} {h'} i a b e e' ss p p' =
      let (x, y) = pair_unique pos (omega arith) (omega arith) (invertible-left s i e) (subst (λ (k : ℕ). NormalPair m f k s g' h') rr (subst (λ (k : ℕ). NormalPair m f r' k g' h') ss p')) p in
      (rr, x, y)
    where
      rr : r' ≡ r
      rr = N.eq_of_mul-eq-mul_right s (omega arith) r' r (ap (λ (k : ℕ). r' * k) (sym ss) ∙ e' ∙ sym e)

  -- two first steps of one f are equal
  step-one : {n r s r' s' : ℕ} {f g h g' h' : List ℕ} → Invertible m n → 2 ≤ r → 2 ≤ s → r * s ≡ n → 2 ≤ r' → 2 ≤ s' → r' * s' ≡ n
      → ((d : ℕ) → d < s → SplitsRight m n f d → ⊥) → ((d : ℕ) → d < s' → SplitsRight m n f d → ⊥)
      → NormalPair m f r s g h → NormalPair m f r' s' g' h' → (r' ≡ r) × (s' ≡ s) × (g' ≡ g) × (h' ≡ h)
  step-one i a b e a' b' e' first first' p p' =
      let ss = first_one (splits a' b' e' p'.pair) first' (splits a b e p.pair) first in
      let (rr, x, y) = pairs_equal i a b e e' ss p p' in
      (rr, ss, x, y)

  -- f has one chain, and it costs one number of tries
  pub chain_unique : {n t t' : ℕ} {f : List ℕ} {parts parts' : List (List ℕ)} → Invertible m n → Chain m n f parts t → Chain m n f parts' t' → (parts ≡ parts') × (t ≡ t')
  chain_unique i (whole a b none) (whole a' b' none') = (refl, refl)
  chain_unique i (whole a b none) (step {s = s} c d e first p k) = absurd (none s (splits c d e p.pair))
  chain_unique i (step {s = s} c d e first p k) (whole a b none) = absurd (none s (splits c d e p.pair))
  chain_unique {n} i (step {r = r} {s = s} {t = t} {f = f} {g = g} {h = h} {parts = parts} a b e first p k) (step {r = r'} {s = s'} {t = t'} {g = g'} {h = h'} {parts = parts'} a' b' e' first' p' k') =
      let (x, y, z, w) = step-one i a b e a' b' e' first first' p p' in
      let (v, o) = chain_unique (invertible-left s i e) k (subst (λ (q : List ℕ). Chain m r q parts' t') z (subst (λ (q : ℕ). Chain m q g' parts' t') x k')) in
      (ap₂ ◌∷◌ (sym w) v, ap₂ ◌+◌ (ap (tested n) (sym y)) o)

chain-monic : {m n t : ℕ} {f : List ℕ} {parts : List (List ℕ)} → 0 < m → Chain m n f parts t → Monic m n f
chain-monic pos (whole a b none) = a
chain-monic {m} pos (step {r = r} {s = s} {f = f} a b e first p k) =
    subst (λ (n : ℕ). Monic m n f) e (monic-same m pos (same_sym p.pair.whole) (after-monic m pos (omega arith) p.pair.left p.pair.right))

-- the parts compose to f
pub chain-composed : {m n t : ℕ} {f : List ℕ} {parts : List (List ℕ)} → 0 < m → Chain m n f parts t → Same m f (composed parts)
unfolding composed
chain-composed {m} {f = f} pos (whole a b none) = same_sym (x_after m pos f)
chain-composed {m} pos (step {h = h} a b e first p k) = p.pair.whole ⨾ after_same m pos (chain-composed pos k) (same_refl h)

-- the degrees multiply to n
pub chain-product : {m n t : ℕ} {f : List ℕ} {parts : List (List ℕ)} → 2 ≤ m → Chain m n f parts t → product (degrees parts) ≡ n
unfolding product degrees
chain-product two (whole {n = n} a b none) = N.mul-one _ ∙ degree-monic two b a
chain-product two (step {r = r} {s = s} a b e first p k) = ap₂ ◌*◌ (degree-monic two p.reduced_right p.pair.right) (chain-product two k) ∙ N.mul_comm s r ∙ e

-- the right part at the first right degree does not split
pub right-unsplit : {m n r s : ℕ} {f g h : List ℕ} → 2 ≤ m → 2 ≤ r → 2 ≤ s → r * s ≡ n → ((d : ℕ) → d < s → SplitsRight m n f d → ⊥) → NormalPair m f r s g h → Unsplit m h
right-unsplit {m} {n} {r} {s} {f} {g} {h} two a b e first p = record { none = λ r' s' c d e' u w q. fine r' s' c d (e' ∙ degree-monic two p.reduced_right p.pair.right) u w q }
  where
    pos : 0 < m
    pos = omega arith

    fine : (r' s' : ℕ) → 2 ≤ r' → 2 ≤ s' → r' * s' ≡ s → NoPair m h r' s'
    fine r' s' c d e' u w q = first s' less (splits more d all (record {
      left = after-monic m pos (omega arith) p.pair.left q.left;
      right = q.right;
      whole = p.pair.whole ⨾ after_same m pos (same_refl g) q.whole ⨾ same_sym (after_assoc m pos g u w);
    }))
      where
        less : s' < s
        less = omega (arith, e', N.mul-le-mul_right s' c)

        more : 2 ≤ r * r'
        more = omega (arith, N.mul-le-mul a c)

        all : r * r' * s' ≡ n
        all = N.mul_assoc r r' s' ∙ ap (λ (x : ℕ). r * x) e' ∙ e

-- no part splits further
pub chain-unsplit : {m n t : ℕ} {f : List ℕ} {parts : List (List ℕ)} → 2 ≤ m → Chain m n f parts t → (i : ℕ) → i < length parts → Unsplit m (part parts i)
chain-unsplit two (whole a b none) zero l = unsplit-at two b a none
chain-unsplit two (whole a b none) (suc i) l = absurd (N.not-suc-le-zero (N.le_of_suc-le-suc l))
chain-unsplit two (step a b e first p k) zero l = right-unsplit two a b e first p
chain-unsplit two (step a b e first p k) (suc i) l = chain-unsplit two k i (N.le_of_suc-le-suc l)

-- all but the leftmost have constant term 0
pub chain-normal : {m n t : ℕ} {f : List ℕ} {parts : List (List ℕ)} → Chain m n f parts t → (i : ℕ) → suc i < length parts → Normal m (part parts i)
chain-normal (whole a b none) i l = absurd (N.not-suc-le-zero (N.le_of_suc-le-suc l))
chain-normal (step a b e first p k) zero l = p.normal
chain-normal (step a b e first p k) (suc i) l = chain-normal k i (N.le_of_suc-le-suc l)

-- what is reduced and monic of a degree of 2 or more is a part
pub monic-part : {m n : ℕ} {p : List ℕ} → 2 ≤ m → 2 ≤ n → Monic m n p → Reduced m p → Part m p
monic-part {m} {n} {p} two tn mon red = let e = degree-monic two red mon in record { reduced = red; monic = subst (λ (k : ℕ). Monic m k p) (sym e) mon; two = rw e tn }

-- every part is reduced, and monic of a degree of 2 or more
pub chain-part : {m n t : ℕ} {f : List ℕ} {parts : List (List ℕ)} → 2 ≤ m → 2 ≤ n → Chain m n f parts t → (i : ℕ) → i < length parts → Part m (part parts i)
chain-part two tn (whole a b none) zero l = monic-part two tn a b
chain-part two tn (whole a b none) (suc i) l = absurd (N.not-suc-le-zero (N.le_of_suc-le-suc l))
chain-part two tn (step a b e first p k) zero l = monic-part two b p.pair.right p.reduced_right
chain-part two tn (step a b e first p k) (suc i) l = chain-part two a k i (N.le_of_suc-le-suc l)

module _ {m : ℕ} (pos : 0 < m) where
  -- no part composes to x
  pub composed-none : Monic m 1 (composed [])
  unfolding composed
  composed-none = record { top = refl; above = go }
    where
      go : (i : ℕ) → 1 < i → coef (0 ∷ 1 ∷ []) i % m ≡ 0 % m
      go zero l = refl
      go (suc zero) l = absurd (omega arith)
      go (suc (suc i)) l = refl

  -- and one part more multiplies the degree
  pub composed-more : {k : ℕ} (h : List ℕ) (parts : List (List ℕ)) → Part m h → Monic m k (composed parts) → Monic m (degree h * k) (composed (h ∷ parts))
  unfolding composed
  composed-more {k} h parts p mon = subst (λ (j : ℕ). Monic m j (after (composed parts) h)) (N.mul_comm k (degree h)) (after-monic m pos (omega (arith, p.two)) mon p.monic)

-- each of them is a part
abbrev pub EachPart : ℕ → List (List ℕ) → Type 0
EachPart m parts = (i : ℕ) → i < length parts → Part m (part parts i)

-- so many parts of degree 2 or more fit under what their degrees multiply to
pub parts-length : {m : ℕ} (parts : List (List ℕ)) → EachPart m parts → 2 ^ length parts ≤ product (degrees parts)
unfolding product degrees
parts-length [] p = omega arith
parts-length (h ∷ parts) p = rw (N.pow-succ' 2 (length parts)) (N.mul-le-mul (p 0 (omega arith)).two (parts-length parts (λ i l. p (suc i) (omega arith))))

one_less : (d : ℕ) {k : ℕ} → 1 ≤ d → 1 ≤ k → d + k ≤ d * k + 1
one_less zero a b = absurd (omega arith)
one_less (suc d) a b = omega (arith, N.mul-le-mul_left d b)

-- and they cost no more
pub parts-price : {m : ℕ} (parts : List (List ℕ)) → EachPart m parts → price parts ≤ product (degrees parts)
unfolding product degrees price cost
parts-price [] p = omega arith
parts-price {m} (h ∷ parts) p =
    let others : EachPart m parts = λ i l. p (suc i) (omega arith) in
    let some : 1 ≤ product (degrees parts) = N.le_trans (N.pow-le-pow_right {n = 2} (omega arith) {i = 0} {j = length parts} (omega arith)) (parts-length parts others) in
    omega (arith, (p 0 (omega arith)).two, parts-price parts others, one_less (degree h) (omega (arith, (p 0 (omega arith)).two)) some)

-- so many parts of degree 2 or more fit under n
pub chain_length : {m n t : ℕ} {f : List ℕ} {parts : List (List ℕ)} → 2 ≤ n → Chain m n f parts t → 2 ^ length parts ≤ n
chain_length two (whole a b none) = two
chain_length two (step {r = r} {s = s} {parts = parts} a b e first p k) = rw (N.pow-succ' 2 (length parts), ← e) (omega (arith, N.mul-le-mul (chain_length a k) b))

carried_some : {m a b : ℕ} {y : List (List ℕ)} → Carried m a b [] y → ⊥
carried_some c = elim c [ ]

-- carrying a change gives one answer
pub carried_unique : {m a b : ℕ} {parts x y : List (List ℕ)} → 2 ≤ m → Invertible m a → Carried m a b parts x → Carried m a b parts y → x ≡ y
carried_unique {m} two i (leftmost {n = n} {a = a} {b = b} {f = f} mon red c) (leftmost {n = n'} {f' = f''} mon' red' c') =
    ap (λ (p : List ℕ). p ∷ []) (reduced_equal red red' (changed_unique (omega arith) i c (subst (λ (k : ℕ). Changed m k a b f f'') (monic-degree two mon' mon) c')))
carried_unique two i (leftmost mon red c) (hand_on mon' red' c' k) = absurd (carried_some k)
carried_unique two i (hand_on mon red c k) (leftmost mon' red' c') = absurd (carried_some k)
carried_unique {m} two i (hand_on {s = s} {a = a} {b = b} {h = h} {parts = parts} mon red c k) (hand_on {s = s'} {h' = h''} {parts' = y} mon' red' c' k') =
    let e = monic-degree two mon' mon in
    ap₂ ◌∷◌ (reduced_equal red red' (changed-right_unique (omega arith) i c (subst (λ (k : ℕ). ChangedRight m k a b h h'') e c')))
    (carried_unique two (invertible-pow i s) k (subst (λ (j : ℕ). Carried m (a ^ j) (value h b) parts y) e k'))

-- a part costs one less than its degree, so the price and the number of parts add up to the sum of the degrees
pub price-parts : {m : ℕ} (parts : List (List ℕ)) → ((i : ℕ) → i < length parts → Part m (part parts i)) → price parts + length parts ≡ sum (length parts) (λ i. degree (part parts i))
unfolding price cost
price-parts [] p = sym (sum-none _)
price-parts (h ∷ parts) p = omega (arith, (p 0 (omega arith)).two, price-parts parts (λ i l. p (suc i) (omega arith)), sum_first (length parts) (λ i. degree (part (h ∷ parts) i)))

-- a degree for each part
pub degrees-length : (parts : List (List ℕ)) → length (degrees parts) ≡ length parts
unfolding degrees
degrees-length [] = refl
degrees-length (p ∷ parts) = ap suc (degrees-length parts)

-- the price is told by the degrees
pub price-degrees : (x y : List (List ℕ)) → degrees x ≡ degrees y → price x ≡ price y
unfolding degrees price cost
price-degrees [] [] e = refl
price-degrees [] (q ∷ y) e = cc e
price-degrees (p ∷ x) [] e = cc e
price-degrees (p ∷ x) (q ∷ y) e = ap₂ ◌+◌ (cc e) (price-degrees x y (cc e))

module _ {m : ℕ} (pos : 0 < m) where
  -- the changed polynomial has the chain with the change carried along its parts, and the same tries and degrees
  pub chain-changed : {n t a b : ℕ} {f f' : List ℕ} {parts : List (List ℕ)} → 2 ≤ m → 2 ≤ n → n < terms → Invertible m a → Chain m n f parts t
      → Reduced m f' → Changed m n a b f f' → (parts' : List (List ℕ)) × Chain m n f' parts' t × Carried m a b parts parts' × (degrees parts ≡ degrees parts')
  unfolding degrees
  chain-changed {f' = f'} two tn l i (whole a b none) red c =
      let mon = changed-monic pos (omega arith) i a c in
      (f' ∷ [], whole mon red (λ s k. none s (splits-unchanged pos i c k)), leftmost a red c, ap (λ (d : ℕ). d ∷ []) (degree-monic two b a ∙ sym (degree-monic two red mon)))
  chain-changed {n} {f' = f'} two tn l i (step {r = r} {s = s} a b e first p k) red c =
      let rl : r < terms = omega (arith, e, N.mul-le-mul_left r b) in
      let sl : s < terms = omega (arith, e, N.mul-le-mul_right s a) in
      let (g', h', d, q) = changed-pair-exists pos (omega arith) (omega arith) rl sl e i p.pair c in
      let (parts', k', car, deg) = chain-changed two a rl (invertible-pow i s) k q.reduced_left d.left in (
        h' ∷ parts',
        step {parts = parts'} a b e (λ j m k. first j m (splits-unchanged pos i c k)) q k',
        hand_on {parts' = parts'} p.pair.right q.reduced_right d.right car,
        ap₂ ◌∷◌ {v = degrees parts'} (degree-monic two p.reduced_right p.pair.right ∙ sym (degree-monic two q.reduced_right q.pair.right)) deg,
      )

  -- demand 3 for chains: the chain of the changed polynomial is the carried one; parts, tries, degrees and price agree
  pub chains-changed : {n t t' a b : ℕ} {f f' : List ℕ} {parts parts' : List (List ℕ)} → 2 ≤ m → 2 ≤ n → n < terms → Invertible m n → Invertible m a
      → Changed m n a b f f' → Chain m n f parts t → Reduced m f' → Chain m n f' parts' t'
      → Carried m a b parts parts' × (t' ≡ t) × (degrees parts' ≡ degrees parts) × (price parts' ≡ price parts)
  unfolding price
  chains-changed {a = a} {b = b} {parts = parts} {parts' = parts'} two tn l j i c k red k' =
      let (q, d, car, deg) = chain-changed two tn l i k red c in
      let (x, y) = chain_unique pos j k' d in
      (rw x car, y, ap degrees x ∙ sym deg, price-degrees parts' parts (ap degrees x ∙ sym deg))
