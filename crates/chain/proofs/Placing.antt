-- Parts in the places of an area.
--
--   chain-full         every part of a chain fills its place
--   places_enough      what 2^parts <= n allows fits the places
--   parts_within       a chain has no more parts than there are places
--   chained-within     its tries and its price are at most n, so that they fit a word
--   chained-whole      f, which does not split, in the first place: its chain
--   left_less          the left part of the first split has a smaller degree
--   next_place         there is a place after the chain of the left part
--   chained_more       the right part in that place: the chain of f
use mathlib.Core.Path.{◌≡◌, refl, sym, ap, ◌∙◌}
use mathlib.Core.List.{List, [], ◌∷◌, ◌++◌}
use Prim.Native.Nat.{ℕ, suc, ◌+◌, ◌*◌, ◌^◌, ◌/◌, ◌≤◌, ◌<◌}
use native.Mathlib.Nat as N
use native.Mathlib.Omega.{arith}
use native.Mathlib.Decide.{dec_lt}
use native.Mathlib.Numerals.{add-one}
use lib.ListN.{length, drop}
use Rattle.algebra.specs.Polynomial.{terms, limit, Monic, Reduced}
use Rattle.algebra.specs.Chain.{Chain, whole, step, price, cost}
use Rattle.algebra.proofs.Chains.{sum-within, chain_length}
use Rattle.algebra.proofs.Reduction.{degree-monic}
use Rattle.area.specs.Area.{most_parts, put_at, laid}
use Rattle.area.proofs.Laying.{Full, laid_none, laid_more, put_next}
use Rattle.round.specs.Round.{FirstSplit, NoSplit}
use Rattle.chain.specs.Chaining.{ChainedIn}
use Rattle.round.proofs.Rounds.{tested-few}

-- one part more would have a degree above the limit
pub places_enough : {n k : ℕ} → n ≤ limit → 2 ^ k ≤ n → k ≤ most_parts
unfolding limit most_parts
places_enough {n} {k} l e = go (dec_lt most_parts k)
  where
    go : Dec (most_parts < k) → k ≤ most_parts
    go (yes h) = absurd (omega (arith, e, N.pow-le-pow_right {n = 2} (omega arith) {i = suc most_parts} {j = k} h))
    go (no h) = omega arith

module _ {m : ℕ} where
  -- each round has at most s tries, and the degrees s, with that of the leftmost part, add up to at most n
  tries-within : {n t : ℕ} {f : List ℕ} {parts : List (List ℕ)} → Chain m n f parts t → t ≤ n
  tries-within (whole {n = n} a b none) = omega (arith, tested-few n (n / 2))
  tries-within (step {n = n} {s = s} a b e first p k) = omega (arith, tested-few n s, tries-within k, sum-within a b e)

  price-within : {n t : ℕ} {f : List ℕ} {parts : List (List ℕ)} → 2 ≤ m → Chain m n f parts t → price parts ≤ n
  unfolding price cost
  price-within two (whole a b none) = omega (arith, degree-monic two b a)
  price-within two (step a b e first p k) = omega (arith, degree-monic two p.reduced_right p.pair.right, price-within two k, sum-within a b e)

  -- reduced parts have `terms` coefficients
  pub chain-full : {n t : ℕ} {f : List ℕ} {parts : List (List ℕ)} → Chain m n f parts t → Full parts
  chain-full (whole {f = f} a b none) = laid_more f b.long laid_none
  chain-full (step {h = h} a b e first p k) = laid_more h p.reduced_right.long (chain-full k)

  -- there is a place for each
  pub parts_within : {n t : ℕ} {f : List ℕ} {parts : List (List ℕ)} → 2 ≤ n → n ≤ limit → Chain m n f parts t → length parts ≤ most_parts
  parts_within two l k = places_enough l (chain_length two k)

  -- f in the first place
  pub chained-whole : {n t c : ℕ} {f : List ℕ} (xs : List ℕ) → Monic m n f → Reduced m f → NoSplit m n f t → c ≡ cost f → ChainedIn m n f xs (put_at xs 0 f) 1 t c
  unfolding price laid
  chained-whole {f = f} xs mon red z e = record {
    parts = f ∷ [];
    chain = rw z.tries (whole mon red z.none);
    count_is = refl;
    cost_is = omega (arith, e);
    area = ap (λ (k : ℕ). put_at (drop k xs) 0 f) (sym (N.zero-mul terms)) ∙ put_next xs f refl laid_none;
  }

  module _ {n s t : ℕ} {f g h : List ℕ} (z : FirstSplit m n f s t g h) where
    -- the left part has the smaller degree
    pub left_less : n / s < n
    left_less = omega (arith, z.two_right, sum-within z.two_left z.two_right z.product)

    -- the chain of the left part, and the right part
    split_chain : {u : ℕ} {parts : List (List ℕ)} → Chain m (n / s) g parts u → Chain m n f (h ∷ parts) (t + u)
    split_chain {u} {parts} k = rw z.tries (step {parts = parts} z.two_left z.two_right z.product z.first z.pair k)

    module _ {xs ys : List ℕ} {k u c : ℕ} (q : ChainedIn m (n / s) g xs ys k u c) where
      -- the chain of f has no more parts than there are places, so the left part's has fewer
      pub next_place : 2 ≤ n → n ≤ limit → k < most_parts
      next_place two l = omega (arith, q.count_is, parts_within two l (split_chain q.chain))

      -- the right part goes there
      pub chained_more : {d : ℕ} → d ≡ cost h → ChainedIn m n f xs (put_at ys k h) (k + 1) (t + u) (c + d)
      unfolding price
      chained_more e = record {
        parts = h ∷ q.parts;
        chain = split_chain q.chain;
        count_is = omega (arith, q.count_is);
        cost_is = omega (arith, q.cost_is, e);
        area = ap (λ (l : List ℕ). put_at l k h) q.area ∙ put_next xs h (sym q.count_is) (chain-full q.chain) ∙ ap (λ (n : ℕ). laid (h ∷ q.parts) ++ drop (n * terms) xs) (sym (add-one k));
      }

  -- its tries and its price fit a word
  pub chained-within : {n k u c : ℕ} {f xs ys : List ℕ} → 2 ≤ m → ChainedIn m n f xs ys k u c → (u ≤ n) × (c ≤ n)
  chained-within two q = (tries-within q.chain, omega (arith, q.cost_is, price-within two q.chain))
