-- The walk to the j-th chain, and its parts in the places of an area.
--
--   complete-full                    every part of a complete chain fills its place
--   Gone m f s j i                   all chains with a rightmost degree below s come before the j-th, and i more
--   gone_none, gone_pass, gone_take  none is below 2; none at s; those at s come before it too
--   nth-within                       a complete chain fits the area, and its price is at most n
--   room_next, more-price            the j-th chain of f fits the area and a word: there is a place for the right part
--   reached-more                     the i-th chain of the left part, and the right part in that place: the j-th chain of f
--   all-passed                       past n/2: those that were passed are all
--   one-passed, reached-one          none was passed, and f is its only chain: not the j-th; the j-th
use mathlib.Core.Path.{◌≡◌, refl, sym, ap, subst, ◌∙◌}
use mathlib.Core.List.{List, [], ◌∷◌, ◌++◌}
use Prim.Native.Nat.{ℕ, ◌+◌, ◌*◌, ◌-◌, ◌/◌, ◌≤◌, ◌<◌}
use native.Mathlib.Nat as N
use native.Mathlib.Omega.{arith}
use native.Mathlib.Numerals.{add-one}
use lib.ListN.{length, drop}
use Rattle.algebra.specs.Polynomial.{terms, degree}
use Rattle.algebra.specs.Chain.{part, price, cost}
use Rattle.algebra.specs.Every.{CompleteChain, NthChain}
use Rattle.algebra.proofs.Complete.{Chainable, complete-length, complete-price}
use Rattle.algebra.proofs.Every as E
use Rattle.area.specs.Area as area
use Rattle.area.specs.Area.{most_parts, put_at}
use Rattle.area.proofs.Laying.{Full, laid_none, put_next}
use Rattle.area.proofs.Reading.{part_fills, fills_full}
use Rattle.chain.proofs.Placing.{places_enough}
use Rattle.ending.specs.Ending.{Rightmost}
use Rattle.chains.specs.Walking.{HasChains, NthIn, NoNth}
use Rattle.chains.proofs.Counting.{Below, below_none, below_pass, below-take, none-listed, counted_one, counted_all}

-- every part fills its place
pub complete-full : {m : ℕ} {f : List ℕ} {parts : List (List ℕ)} → 2 ≤ m → CompleteChain m f parts → Full parts
complete-full {parts = parts} two c = fills_full parts (λ i l. part_fills two (c.is_part i l))

-- the chains below s were passed
pub record Gone (m : ℕ) (f : List ℕ) (s j i : ℕ) : Type 0 where
  pub number : ℕ
  pub below : Below m f s number
  pub is : number + i ≡ j

module _ {m n : ℕ} {f : List ℕ} (t : Chainable m n f) where
  pub gone_none : (j : ℕ) → Gone m f 2 j j
  gone_none j = record { number = 0; below = below_none t; is = omega arith }

  module _ {s j i : ℕ} (p : Gone m f s j i) where
    pub gone_pass : ((x : List (List ℕ)) → CompleteChain m f x → degree (part x 0) ≡ s → ⊥) → Gone m f (s + 1) j i
    gone_pass none = record { number = p.number; below = below_pass t p.below none; is = p.is }

    pub gone_take : {k : ℕ} {g h : List ℕ} → Rightmost m n f s g h → HasChains m g k → k ≤ i → Gone m f (s + 1) j (i - k)
    gone_take {k = k} z q l = record { number = p.number + k; below = below-take t p.below z q; is = omega (arith, p.is) }

  -- there is a place for each part
  pub nth-within : {parts : List (List ℕ)} → CompleteChain m f parts → (length parts ≤ most_parts) × (price parts ≤ n)
  nth-within c = (places_enough t.whole.within (complete-length t.modulus t.whole.monic c), complete-price t.modulus t.whole.monic c)

  -- f in the first place
  one_in : {s j c : ℕ} → n / 2 < s → Below m f s 0 → j ≤ 0 → (xs : List ℕ) → c ≡ cost f → NthIn m f j xs (put_at xs 0 f) 1 c
  unfolding price area.laid
  one_in half p l xs e = record {
    parts = f ∷ [];
    nth = subst (λ (k : ℕ). NthChain m f k (f ∷ [])) (omega arith) (E.nth_alone t half (none-listed p));
    count_is = refl;
    cost_is = omega (arith, e);
    area = ap (λ (k : ℕ). put_at (drop k xs) 0 f) (sym (N.zero-mul terms)) ∙ put_next xs f refl laid_none;
  }

module _ {m n s j i : ℕ} {f g h : List ℕ} (t : Chainable m n f) (p : Gone m f s j i) (z : Rightmost m n f s g h) {xs ys : List ℕ} {k c : ℕ} (q : NthIn m g i xs ys k c) where
  more : NthChain m f j (h ∷ q.parts)
  more = subst (λ (d : ℕ). NthChain m f d (h ∷ q.parts)) (omega (arith, p.is, p.below.is)) (E.nth-more t z.two_left z.two_right z.product z.pair z.unsplit p.below.lists q.nth)

  -- the chain of f has no more parts than there are places, so the left part's has fewer
  pub room_next : k < most_parts
  room_next = omega (arith, q.count_is, (nth-within t more.complete).0)

  -- the right part goes there
  more_in : {d : ℕ} → d ≡ cost h → NthIn m f j xs (put_at ys k h) (k + 1) (c + d)
  unfolding price
  more_in e = record {
    parts = h ∷ q.parts;
    nth = more;
    count_is = omega (arith, q.count_is);
    cost_is = omega (arith, q.cost_is, e);
    area = ap (λ (l : List ℕ). put_at l k h) q.area ∙ put_next xs h (sym q.count_is) (complete-full t.modulus q.nth.complete)
        ∙ ap (λ (d : ℕ). area.laid (h ∷ q.parts) ++ drop (d * terms) xs) (sym (add-one k));
  }

  -- and the price fits a word
  pub more-price : {d : ℕ} → d ≡ cost h → c + d ≤ n
  unfolding price
  more-price e = omega (arith, e, q.cost_is, (nth-within t more.complete).1)

  -- so the j-th chain of f is laid over the area as it was
  pub reached-more : {xs₀ zs : List ℕ} {d : ℕ} → xs ≡ xs₀ → d ≡ cost h → zs ≡ put_at ys k h → NthIn m f j xs₀ zs (k + 1) (c + d)
  reached-more {zs = zs} {d = d} same e put = subst (λ (l : List ℕ). NthIn m f j l zs (k + 1) (c + d)) same (subst (λ (l : List ℕ). NthIn m f j xs l (k + 1) (c + d)) (sym put) (more_in e))

module _ {m n s j i : ℕ} {f xs ys : List ℕ} (t : Chainable m n f) (half : n / 2 < s) (p : Gone m f s j i) (same : ys ≡ xs) where
  -- those that were passed are all
  pub all-passed : i < j → NoNth m f j xs ys (j - i)
  all-passed l = record { has = counted_all t half (omega arith) (subst (λ (k : ℕ). Below m f s k) (omega (arith, p.is)) p.below); most = omega arith; area = same }

  -- none was passed
  pub one-passed : j ≤ i → 0 < j → NoNth m f j xs ys 1
  one-passed l k = record { has = counted_one t half (subst (λ (k : ℕ). Below m f s k) (omega (arith, p.is)) p.below); most = omega arith; area = same }

  -- and f itself is the first
  pub reached-one : {zs : List ℕ} {d : ℕ} → j ≤ i → j ≤ 0 → d ≡ cost f → zs ≡ put_at ys 0 f → NthIn m f j xs zs 1 d
  reached-one {zs} {d} l z e put = subst (λ (l : List ℕ). NthIn m f j l zs 1 d) same (subst (λ (l : List ℕ). NthIn m f j ys l 1 d) (sym put) (one_in t half none z ys e))
    where
      none : Below m f s 0
      none = subst (λ (k : ℕ). Below m f s k) (omega (arith, p.is)) p.below
