-- Every complete chain of f, in order. Parts are listed FROM THE RIGHT, as in Chain, and nothing here searches.
--
--   CompleteChain m f parts    no part splits, all but the leftmost are normal, and they compose to f
--   Earlier x y                read from the right, x has the smaller degree at the first difference
--   chain_at l j               the j-th of a list of chains, from 0
--   Lists P l                  l has each chain of which P holds, once, in order
--   EveryChain m f l           l has each complete chain of f, once, in order
--   NthChain m f j x           x is the j-th complete chain of f, from 0: j of them are earlier
use Rattle.std.specs.Prelude.{◌≡◌, List, [], ℕ, suc, ◌<◌, get_or, length}
use Rattle.algebra.specs.Polynomial.{degree, Same}
use Rattle.algebra.specs.Pair.{Normal, Unsplit}
use Rattle.algebra.specs.Chain.{composed, part, Part}

-- parts that compose to f, none of which splits; all but the leftmost have constant term 0
pub record CompleteChain (m : ℕ) (f : List ℕ) (parts : List (List ℕ)) : Type 0 where
  pub is_part : (i : ℕ) → i < length parts → Part m (part parts i)
  pub unsplit : (i : ℕ) → i < length parts → Unsplit m (part parts i)
  pub normal : (i : ℕ) → suc i < length parts → Normal m (part parts i)
  pub composes : Same m f (composed parts)

-- the degrees agree before a place, and there x has the smaller one. Past the leftmost part the degree counts as 0; two complete
-- chains of one f never differ there first, since the degrees of both multiply to n
pub record Earlier (x y : List (List ℕ)) : Type 0 where
  pub place : ℕ
  pub same : (i : ℕ) → i < place → degree (part x i) ≡ degree (part y i)
  pub smaller : degree (part x place) < degree (part y place)

-- the j-th of a list of chains
abbrev pub chain_at : List (List (List ℕ)) → ℕ → List (List ℕ)
chain_at l j = get_or l j []

-- each of them, no other, and an earlier one before a later one, so that none stands twice
pub record Lists (P : List (List ℕ) → Type 0) (l : List (List (List ℕ))) : Type 0 where
  pub each : (j : ℕ) → j < length l → P (chain_at l j)
  pub all : (x : List (List ℕ)) → P x → (j : ℕ) × (j < length l) × (chain_at l j ≡ x)
  pub ordered : (i j : ℕ) → i < j → j < length l → Earlier (chain_at l i) (chain_at l j)

-- the number of complete chains is the length of this list
abbrev pub EveryChain : ℕ → List ℕ → List (List (List ℕ)) → Type 0
EveryChain m f l = Lists (CompleteChain m f) l

-- a complete chain, and j is the number of those that are earlier
pub record NthChain (m : ℕ) (f : List ℕ) (j : ℕ) (x : List (List ℕ)) : Type 0 where
  pub complete : CompleteChain m f x
  pub before : List (List (List ℕ))
  pub lists : Lists (λ y. CompleteChain m f y × Earlier y x) before
  pub number : j ≡ length before
