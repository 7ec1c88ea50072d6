-- Counting the complete chains over the right degrees.
--
--   undivided                          s does not divide n, so no complete chain has a rightmost part of degree s
--   Below m f s c                      c complete chains of f have a rightmost degree below s
--   none-listed                        none of them
--   below_none, below_pass, below-take     none is below 2; none at s; those at s are the chains of the left part
--   below-few                          the count fits a word
--   counted_one, counted_all, counted  past n/2: none was found, and f is its only chain; or those that were found are all
use mathlib.Core.Path.{◌≡◌, refl, subst}
use mathlib.Core.List.{List, [], ◌∷◌, ◌++◌, map}
use Prim.Native.Nat.{ℕ, ◌+◌, ◌*◌, ◌/◌, ◌%◌, ◌≤◌, ◌<◌, max}
use native.Mathlib.Nat as N
use native.Mathlib.Decide.{dec_lt}
use native.Mathlib.Omega.{arith}
use lib.ListN.{length, length-append, length-map}
use Rattle.algebra.specs.Polynomial.{limit, degree}
use Rattle.algebra.specs.Chain.{part}
use Rattle.algebra.specs.Every.{CompleteChain, Lists}
use Rattle.algebra.proofs.Complete.{Chainable}
use Rattle.algebra.proofs.Every as E
use Rattle.algebra.proofs.Every.{RightBelow}
use Rattle.algebra.proofs.Few as F
use Rattle.round.proofs.Rounds.{split_divides}
use Rattle.ending.specs.Ending.{Rightmost}
use Rattle.chains.specs.Walking.{HasChains}

module _ {m n : ℕ} {f : List ℕ} (t : Chainable m n f) {s : ℕ} where
  -- no pair has a right degree that does not divide n
  pub undivided : s ≤ n / 2 → (n % s ≡ 0 → ⊥) → (x : List (List ℕ)) → CompleteChain m f x → degree (part x 0) ≡ s → ⊥
  undivided half none x c e = E.at_none t (omega (arith, t.two, half)) (λ w. none (split_divides w)) x (c, e)

-- the chains with a rightmost degree below s
pub record Below (m : ℕ) (f : List ℕ) (s c : ℕ) : Type 0 where
  pub chains : List (List (List ℕ))
  pub lists : Lists (RightBelow m f s) chains
  pub is : c ≡ length chains

-- a list of none
pub none-listed : {m s : ℕ} {f : List ℕ} → Below m f s 0 → Lists (RightBelow m f s) []
none-listed {m} {s} {f} p = go p.chains p.lists p.is
  where
    go : (l : List (List (List ℕ))) → Lists (RightBelow m f s) l → 0 ≡ length l → Lists (RightBelow m f s) []
    go [] q e = q
    go (x ∷ l) q e = absurd (omega arith)

module _ {m n : ℕ} {f : List ℕ} (t : Chainable m n f) where
  -- the loop begins
  pub below_none : Below m f 2 0
  below_none = record { chains = []; lists = E.below_none t; is = refl }

  module _ {s c : ℕ} (p : Below m f s c) where
    -- no chain has a rightmost part of degree s
    pub below_pass : ((x : List (List ℕ)) → CompleteChain m f x → degree (part x 0) ≡ s → ⊥) → Below m f (s + 1) c
    below_pass none = record { chains = p.chains; lists = E.below_over t p.lists (λ x (k, e). none x k e); is = p.is }

    -- those that have it are those of the left part
    pub below-take : {k : ℕ} {g h : List ℕ} → Rightmost m n f s g h → HasChains m g k → Below m f (s + 1) (c + k)
    below-take {h = h} z q = record {
      chains = p.chains ++ map (λ x. h ∷ x) q.chains;
      lists = E.below_more t p.lists (E.at_before t z.two_left z.two_right z.product z.pair z.unsplit q.every);
      is = omega (arith, p.is, q.is, length-append p.chains (map (λ x. h ∷ x) q.chains), length-map q.chains (λ x. h ∷ x));
    }

  -- at most n*n on the way
  pub below-few : {s c : ℕ} → 2 ≤ s → s ≤ n / 2 + 1 → Below m f s c → c ≤ limit * limit
  below-few two half p = omega (arith, p.is, F.below-few t two half p.lists, N.mul-le-mul t.whole.within t.whole.within)

  -- none was found
  pub counted_one : {s : ℕ} → n / 2 < s → Below m f s 0 → HasChains m f 1
  counted_one {s} half p = record { chains = (f ∷ []) ∷ []; every = E.every_one t half (none-listed p); is = refl }

  -- those that were found are all
  pub counted_all : {s c : ℕ} → n / 2 < s → 0 < c → Below m f s c → HasChains m f c
  counted_all half found p = record { chains = p.chains; every = E.every-below t half (omega (arith, p.is)) p.lists; is = p.is }

  -- either way
  pub counted : {s c : ℕ} → n / 2 < s → Below m f s c → HasChains m f (max c 1)
  counted {s} {c} half p = go (dec_lt 0 c)
    where
      go : Dec (0 < c) → HasChains m f (max c 1)
      go (yes l) = subst (λ (k : ℕ). HasChains m f k) (omega arith) (counted_all half l p)
      go (no l) = subst (λ (k : ℕ). HasChains m f k) (omega arith) (counted_one half (subst (λ (k : ℕ). Below m f s k) (omega arith) p))
