-- Every complete chain of f: how a loop over the right degrees makes the list, and what holds of the j-th.
--
--   RightAt, RightBelow                the complete chains of f whose rightmost part has degree s; a degree below s
--   every_unique                       there is one list
--   below_none                         no rightmost degree is below 2
--   at_none, at_split, at_before       those with rightmost degree s: f does not split there; h splits; h before each chain of g
--   below_over, below_more             from the right degrees below s to those below s + 1: none at s; those at s follow
--   some                               f is not without a complete chain
--   every_some                         so the list has one
--   every_one, every-below             after n/2: none was found, and f is its only chain; or those that were found are all
--   nth_alone, nth-more                the j-th: f, its only chain; h before the i-th of g, after all chains below s
--   at-nth, nth-place, nth-at          what stands at place j of the list is it; for one j; and it stands there
--   chain-nth                          the first is 01's chain
use mathlib.Core.Path.{◌≡◌, refl, sym, ap, subst, ◌∙◌}
use mathlib.Core.Logic.{◌⊎◌, inl, inr, ⊎_elim}
use mathlib.Core.List.{List, [], ◌∷◌, ◌++◌, map}
use Prim.Native.Nat.{ℕ, zero, suc, ◌+◌, ◌*◌, ◌/◌, ◌≤◌, ◌<◌}
use native.Mathlib.Nat as N
use native.Mathlib.Omega.{arith}
use native.Mathlib.Decide.{dec_lt}
use lib.ListN.{length, take, length-append, length-map}
use lib.Seq.{length-take-le}
use Rattle.algebra.specs.Polynomial.{degree}
use Rattle.algebra.specs.Pair.{NormalPair, SplitsRight, Unsplit}
use Rattle.algebra.specs.Chain.{Chain, part}
use Rattle.algebra.specs.Every.{CompleteChain, Earlier, chain_at, Lists, EveryChain, NthChain}
use Rattle.algebra.proofs.Reduction.{degree-monic}
use Rattle.algebra.proofs.Chains as C
use Rattle.algebra.proofs.Lists.{earlier_first, earlier_more, earlier_apart, earlier_here, lists_unique, lists_as, lists-none, lists-one, lists-append, lists-before, lists_earlier}
use Rattle.algebra.proofs.Complete.{Chainable, degree_is, split_normal, Cut, one, more, cut_complete, complete_cut, complete-one, complete-more, right-degree, chain-is-complete, chain_earliest}

-- the complete chains whose rightmost part has degree s
abbrev pub RightAt : ℕ → List ℕ → ℕ → List (List ℕ) → Type 0
RightAt m f s x = CompleteChain m f x × (degree (part x 0) ≡ s)

-- and those where its degree is below s
abbrev pub RightBelow : ℕ → List ℕ → ℕ → List (List ℕ) → Type 0
RightBelow m f s x = CompleteChain m f x × (degree (part x 0) < s)

-- h before a complete chain of g that is earlier than y
abbrev Begun : ℕ → List ℕ → List ℕ → List (List ℕ) → List (List ℕ) → Type 0
Begun m g h y x = (w : List (List ℕ)) × (CompleteChain m g w × Earlier w y) × (h ∷ w ≡ x)

module _ {m n : ℕ} {f : List ℕ} (t : Chainable m n f) where
  unsplit : ((s : ℕ) → SplitsRight m n f s → ⊥) → Unsplit m f
  unsplit = C.unsplit-at t.modulus t.whole.reduced t.whole.monic

  whole-splits : Unsplit m f → (s : ℕ) → SplitsRight m n f s → ⊥
  whole-splits = C.split_at t.modulus t.whole.reduced t.whole.monic

  -- a chain is f alone, or f splits at the degree of its rightmost part
  alone_or_split : (x : List (List ℕ)) → CompleteChain m f x → ((x ≡ f ∷ []) × Unsplit m f) ⊎ (SplitsRight m n f (degree (part x 0)))
  alone_or_split x c = go (complete_cut t x c)
    where
      go : {x : List (List ℕ)} → Cut m n f x → ((x ≡ f ∷ []) × Unsplit m f) ⊎ (SplitsRight m n f (degree (part x 0)))
      go (one tn mon red u) = inl (refl, u)
      go (more a b e p u k) = inr (subst (λ (d : ℕ). SplitsRight m n f d) (sym (right-degree t.modulus p)) (C.splits a b e p.pair))

  -- the rightmost degree is 2 or more
  right-two : (x : List (List ℕ)) → CompleteChain m f x → 2 ≤ degree (part x 0)
  right-two x c = go (complete_cut t x c)
    where
      go : {x : List (List ℕ)} → Cut m n f x → 2 ≤ degree (part x 0)
      go (one tn mon red u) = omega (arith, degree-monic t.modulus red mon, tn)
      go (more a b e p u k) = omega (arith, right-degree t.modulus p, b)

  -- there is one list
  pub every_unique : {l k : List (List (List ℕ))} → EveryChain m f l → EveryChain m f k → l ≡ k
  every_unique p q = lists_unique (CompleteChain m f) p q

  -- the loop begins: no rightmost degree is below 2
  pub below_none : Lists (RightBelow m f 2) []
  below_none = lists-none (RightBelow m f 2) (λ x (c, l). omega (arith, l, right-two x c))

  -- f does not split at s
  pub at_none : {s : ℕ} → s < n → (SplitsRight m n f s → ⊥) → (x : List (List ℕ)) → RightAt m f s x → ⊥
  at_none l none x (c, e) = ⊎_elim (λ (is, u). omega (arith, l, e, degree_is t, ap (λ (y : List (List ℕ)). degree (part y 0)) is)) (λ w. none (subst (λ (d : ℕ). SplitsRight m n f d) e w)) (alone_or_split x c)

  module _ {r s : ℕ} {g h : List ℕ} (a : 2 ≤ r) (b : 2 ≤ s) (e : r * s ≡ n) (p : NormalPair m f r s g h) where
    -- a complete chain whose rightmost part has degree s is h before a complete chain of g
    at_pair : (x : List (List ℕ)) → RightAt m f s x → Unsplit m h × ((y : List (List ℕ)) × CompleteChain m g y × (h ∷ y ≡ x))
    at_pair x (c, d) = go (complete_cut t x c) d
      where
        go : {x : List (List ℕ)} → Cut m n f x → degree (part x 0) ≡ s → Unsplit m h × ((y : List (List ℕ)) × CompleteChain m g y × (h ∷ y ≡ x))
        go (one tn mon red u) d = absurd (omega (arith, d, degree-monic t.modulus red mon, C.sum-within a b e, a))
        go (more {r = r'} {s = s'} {g = g'} {h = h'} {parts = parts} a' b' e' p' u' k') d =
            let (q, z, w) = C.pairs_equal (omega (arith, t.modulus)) t.inverse a b e e' (sym (right-degree t.modulus p') ∙ d) p p' in
            (subst (λ (y : List ℕ). Unsplit m y) w u', (parts, subst (λ (y : List ℕ). CompleteChain m y parts) z (cut_complete t.modulus k'), ap (λ (y : List ℕ). y ∷ parts) (sym w)))

    -- f splits at s, and the right part splits
    pub at_split : (Unsplit m h → ⊥) → (x : List (List ℕ)) → RightAt m f s x → ⊥
    at_split no_part x c = no_part (at_pair x c).0

    -- f splits at s, and the right part does not
    pub at_before : {k : List (List (List ℕ))} → Unsplit m h → EveryChain m g k → Lists (RightAt m f s) (map (λ x. h ∷ x) k)
    at_before u q = lists_as _ (RightAt m f s)
        (λ x (y, c, d). subst (λ (z : List (List ℕ)). RightAt m f s z) d (complete-more t.modulus b p u c, right-degree t.modulus p))
        (λ x c. (at_pair x c).1)
        (lists-before (CompleteChain m g) h q)

  -- from below s to below s + 1
  below_or_at : {s : ℕ} (x : List (List ℕ)) → RightBelow m f (s + 1) x → RightBelow m f s x ⊎ RightAt m f s x
  below_or_at {s} x (c, d) = go (dec_lt (degree (part x 0)) s)
    where
      go : Dec (degree (part x 0) < s) → RightBelow m f s x ⊎ RightAt m f s x
      go (yes l) = inl (c, l)
      go (no l) = inr (c, omega arith)

  -- none at s
  pub below_over : {s : ℕ} {l : List (List (List ℕ))} → Lists (RightBelow m f s) l → ((x : List (List ℕ)) → RightAt m f s x → ⊥) → Lists (RightBelow m f (s + 1)) l
  below_over {s} p none = lists_as (RightBelow m f s) (RightBelow m f (s + 1)) (λ x (c, d). (c, omega arith)) (λ x q. ⊎_elim (λ z. z) (λ z. absurd (none x z)) (below_or_at x q)) p

  -- those at s follow
  pub below_more : {s : ℕ} {l k : List (List (List ℕ))} → Lists (RightBelow m f s) l → Lists (RightAt m f s) k → Lists (RightBelow m f (s + 1)) (l ++ k)
  below_more {s} p q = lists_as _ (RightBelow m f (s + 1)) (λ x. ⊎_elim (λ (c, d). (c, omega arith)) (λ (c, d). (c, omega arith))) below_or_at
      (lists-append (RightBelow m f s) (RightAt m f s) p q (λ x y (c, d) (c', d'). earlier_first (omega arith)))

  -- if no complete chain has a rightmost degree below k, and the left parts have chains, then f splits nowhere
  no_split : {k : ℕ} → n / 2 < k → ((x : List (List ℕ)) → RightBelow m f k x → ⊥)
      → ((r : ℕ) (g : List ℕ) → r < n → Chainable m r g → ((x : List (List ℕ)) → CompleteChain m g x → ⊥) → ⊥)
      → (j s : ℕ) → s < j → SplitsRight m n f s → ⊥
  no_split half none left zero s l w = N.not-suc-le-zero l
  no_split {k} half none left (suc j) s l w =
      let b = w.two_right in
      let (g, h, p, q, less) = split_normal t w in
      let u = C.right-unsplit t.modulus w.two_left b w.degrees (λ d z v. no_split half none left j d (omega arith) v) p in
      left w.r g less q (λ x c. none (h ∷ x) (complete-more t.modulus b p u c, omega (arith, right-degree t.modulus p, C.split_half w)))

-- no f has no complete chain
some : (k n : ℕ) → n < k → {m : ℕ} {f : List ℕ} → Chainable m n f → ((x : List (List ℕ)) → CompleteChain m f x → ⊥) → ⊥
some zero n l t none = N.not-suc-le-zero l
some (suc k) n l {m} {f} t none =
    let u = unsplit t (λ s w. no_split t {k = suc n} (omega arith) (λ x (c, d). none x c) (λ r g b v z. some k r (omega arith) v z) (suc s) s (omega arith) w) in
    none (f ∷ []) (complete-one t.modulus t.two t.whole.monic t.whole.reduced u)

module _ {m n : ℕ} {f : List ℕ} (t : Chainable m n f) where
  -- there is a chain
  pub every_some : {l : List (List (List ℕ))} → EveryChain m f l → 0 < length l
  every_some {l} p = go l p
    where
      go : (l : List (List (List ℕ))) → EveryChain m f l → 0 < length l
      go [] p = absurd (some (suc n) n (omega arith) t (λ x c. N.not-suc-le-zero (p.all x c).1))
      go (x ∷ l) p = omega arith

  -- no right degree up to n/2 gave a chain: f splits nowhere, and is its only chain
  pub every_one : {s : ℕ} → n / 2 < s → Lists (RightBelow m f s) [] → EveryChain m f ((f ∷ []) ∷ [])
  every_one {s} half p = lists-one (CompleteChain m f) (f ∷ []) (complete-one t.modulus t.two t.whole.monic t.whole.reduced (unsplit t none))
      (λ y c. ⊎_elim (λ (is, u). sym is) (λ w. absurd (none _ w)) (alone_or_split t y c))
    where
      none : (d : ℕ) → SplitsRight m n f d → ⊥
      none d w = no_split t half (λ x c. N.not-suc-le-zero (p.all x c).1) (λ r g b v z. some (suc r) r (omega arith) v z) (suc d) d (omega arith) w

  -- some did: those are all
  pub every-below : {s : ℕ} {l : List (List (List ℕ))} → n / 2 < s → 0 < length l → Lists (RightBelow m f s) l → EveryChain m f l
  every-below {s} {l} half b p = lists_as (RightBelow m f s) (CompleteChain m f) (λ x (c, d). c) from p
    where
      from : (x : List (List ℕ)) → CompleteChain m f x → RightBelow m f s x
      from x c = ⊎_elim (λ (is, u). ⊎_elim (λ (eq, v). subst (λ (z : List (List ℕ)). RightBelow m f s z) (eq ∙ sym is) (p.each 0 b)) (λ w. absurd (whole-splits t u _ w)) (alone_or_split t (chain_at l 0) (p.each 0 b).0))
          (λ w. (c, omega (arith, C.split_half w))) (alone_or_split t x c)

  -- what stands at place j of the list is the j-th
  pub at-nth : {j : ℕ} {l : List (List (List ℕ))} → EveryChain m f l → j < length l → NthChain m f j (chain_at l j)
  at-nth {j} {l} p b = record { complete = p.each j b; before = take j l; lists = lists_earlier (CompleteChain m f) p b; number = sym (length-take-le j l (omega arith)) }

  -- a chain is the j-th for one j
  pub nth-place : {i j : ℕ} {x : List (List ℕ)} → NthChain m f i x → NthChain m f j x → i ≡ j
  nth-place {x = x} p q = p.number ∙ ap length (lists_unique (λ y. CompleteChain m f y × Earlier y x) p.lists q.lists) ∙ sym q.number

  -- and the j-th stands at place j
  pub nth-at : {j : ℕ} {l : List (List (List ℕ))} {x : List (List ℕ)} → EveryChain m f l → NthChain m f j x → (j < length l) × (chain_at l j ≡ x)
  nth-at {j} {l} {x} p q =
      let (i, b, is) = p.all x q.complete in
      let place : j ≡ i = nth-place q (subst (λ (y : List (List ℕ)). NthChain m f i y) is (at-nth p b)) in
      (omega arith, ap (chain_at l) place ∙ is)

  -- f is its only chain, so it is the first
  pub nth_alone : {s : ℕ} → n / 2 < s → Lists (RightBelow m f s) [] → NthChain m f 0 (f ∷ [])
  nth_alone half p = at-nth (every_one half p) (omega arith)

  -- the chains with a rightmost degree below s come first, then those that begin with h
  pub nth-more : {r s i : ℕ} {g h : List ℕ} {l : List (List (List ℕ))} {y : List (List ℕ)} → 2 ≤ r → 2 ≤ s → r * s ≡ n → NormalPair m f r s g h → Unsplit m h
      → Lists (RightBelow m f s) l → NthChain m g i y → NthChain m f (length l + i) (h ∷ y)
  nth-more {s = s} {g = g} {h = h} {l = l} {y = y} a b e p u q k = record {
    complete = complete-more t.modulus b p u k.complete;
    before = l ++ map (λ x. h ∷ x) k.before;
    lists = lists_as _ (λ x. CompleteChain m f x × Earlier x (h ∷ y)) to from
        (lists-append (RightBelow m f s) (Begun m g h y) q (lists-before (λ w. CompleteChain m g w × Earlier w y) h k.lists) later);
    number = omega (arith, k.number, length-append l (map (λ x. h ∷ x) k.before), length-map k.before (λ x. h ∷ x));
  }
    where
      hs : degree h ≡ s
      hs = right-degree t.modulus p

      later : (x z : List (List ℕ)) → RightBelow m f s x → Begun m g h y z → Earlier x z
      later x z (c, d) (w, v, is) = subst (λ z. Earlier x z) is (earlier_first (omega (arith, d, hs)))

      to : (x : List (List ℕ)) → RightBelow m f s x ⊎ Begun m g h y x → CompleteChain m f x × Earlier x (h ∷ y)
      to x (inl (c, d)) = (c, earlier_first (omega (arith, d, hs)))
      to x (inr (w, (c, d), is)) = subst (λ z. CompleteChain m f z × Earlier z (h ∷ y)) is (complete-more t.modulus b p u c, earlier_more h d)

      behind : (x : List (List ℕ)) → RightAt m f s x → Earlier x (h ∷ y) → Begun m g h y x
      behind x c d =
          let (w, cw, is) = (at_pair t a b e p x c).1 in
          (w, (cw, ⊎_elim (λ z. absurd (N.lt_irrefl _ z)) (λ (z, o). o) (earlier_apart (subst (λ z. Earlier z (h ∷ y)) (sym is) d))), is)

      from : (x : List (List ℕ)) → CompleteChain m f x × Earlier x (h ∷ y) → RightBelow m f s x ⊎ Begun m g h y x
      from x (c, d) = ⊎_elim (λ z. inl (c, omega (arith, z, hs))) (λ z. inr (behind x (c, z ∙ hs) d)) (earlier_here d)

  -- the first is 01's chain
  pub chain-nth : {u : ℕ} {parts : List (List ℕ)} → Chain m n f parts u → NthChain m f 0 parts
  chain-nth {parts = parts} k = record {
    complete = chain-is-complete t.modulus t.two k;
    before = [];
    lists = lists-none (λ y. CompleteChain m f y × Earlier y parts) (λ y (c, e). chain_earliest t y k c e);
    number = refl;
  }
