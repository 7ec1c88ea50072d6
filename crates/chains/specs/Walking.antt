-- The complete chains of f counted, and walked through to the j-th, right degree by right degree. Only leaves need this.
--
--   HasChains m f c                  f has c complete chains
--   NthIn m f j xs ys k c            the j-th chain of f stands in the first k places of ys, with its price c
--   NoNth m f j xs ys c              f has c complete chains, which are not more than j, and nothing was written
--   Walked m f j xs ys x             what the walk to the j-th chain finds
use Rattle.std.specs.Prelude.{◌≡◌, Result, Ok, Err, List, ◌++◌, ℕ, ◌*◌, ◌≤◌, length, drop}
use Rattle.algebra.specs.Polynomial.{terms}
use Rattle.algebra.specs.Chain.{price}
use Rattle.algebra.specs.Every.{EveryChain, NthChain}
use Rattle.area.specs.Area.{laid}
use Rattle.chains.specs.declared.Numbers.{Numbers}

-- the list of all of them has length c
pub record HasChains (m : ℕ) (f : List ℕ) (c : ℕ) : Type 0 where
  pub chains : List (List (List ℕ))
  pub every : EveryChain m f chains
  pub is : c ≡ length chains

-- its parts stand in the first places, left to right, and nothing else has changed
pub record NthIn (m : ℕ) (f : List ℕ) (j : ℕ) (xs ys : List ℕ) (count cost : ℕ) : Type 0 where
  pub parts : List (List ℕ)
  pub nth : NthChain m f j parts
  pub count_is : count ≡ length parts
  pub cost_is : cost ≡ price parts
  pub area : ys ≡ laid parts ++ drop (count * terms) xs

-- there is no j-th
pub record NoNth (m : ℕ) (f : List ℕ) (j : ℕ) (xs ys : List ℕ) (number : ℕ) : Type 0 where
  pub has : HasChains m f number
  pub most : number ≤ j
  pub area : ys ≡ xs

-- the j-th chain, or how many there are
abbrev pub Walked : ℕ → List ℕ → ℕ → List ℕ → List ℕ → Result Numbers ℕ → Type 0
Walked m f j xs ys (Ok x) = NthIn m f j xs ys x.parts x.price
Walked m f j xs ys (Err c) = NoNth m f j xs ys c
