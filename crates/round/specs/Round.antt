-- A round over the right degrees. Only leaves need this.
--
--   ChainAsked m n f              what the chain is given once its checks are passed: f of degree n
--   FirstSplit m n f s t g h      s is the first right degree at which f splits, after t tries, and g, h the pair there
--   NoSplit m n f t               f splits at no right degree, and t tries show it
--   Searched m n f t x            what the round over the right degrees finds, after t tries
--   Splittable m f b              whether f splits
use Rattle.std.specs.Prelude.{◌≡◌, Bool, true, false, List, ℕ, ◌*◌, ◌/◌, ◌≤◌, ◌<◌, Option, Some, None}
use Rattle.algebra.specs.Number.{Coprime, Modulus}
use Rattle.algebra.specs.Polynomial.{Held}
use Rattle.algebra.specs.Pair.{NormalPair, SplitsRight, Unsplit}
use Rattle.algebra.specs.Chain.{tested}
use Rattle.round.specs.declared.Split.{Split}

-- n shares no factor with m
pub record ChainAsked (m n : ℕ) (f : List ℕ) : Type 0 where
  pub modulus : Modulus m
  pub whole : Held m n f
  pub two : 2 ≤ n
  pub coprime : Coprime n m

-- the first right degree at which f splits; one try for each that was tested, this one included
pub record FirstSplit (m n : ℕ) (f : List ℕ) (s t : ℕ) (g h : List ℕ) : Type 0 where
  pub two_left : 2 ≤ n / s
  pub two_right : 2 ≤ s
  pub product : n / s * s ≡ n
  pub first : (d : ℕ) → d < s → SplitsRight m n f d → ⊥
  pub pair : NormalPair m f (n / s) s g h
  pub tries : t ≡ tested n s

-- all right degrees up to n/2 were tested, the last included
pub record NoSplit (m n : ℕ) (f : List ℕ) (t : ℕ) : Type 0 where
  pub none : (s : ℕ) → SplitsRight m n f s → ⊥
  pub tries : t ≡ tested n (n / 2)

-- the first split, or none for all right degrees
abbrev pub Searched : ℕ → ℕ → List ℕ → ℕ → Option Split → Type 0
Searched m n f t (Some x) = FirstSplit m n f x.at t x.pair.left x.pair.right
Searched m n f t None = NoSplit m n f t

-- whether f splits at some right degree
pub record Splittable (m : ℕ) (f : List ℕ) (b : Bool) : Type 0 where
  pub yes : b ≡ true → Unsplit m f → ⊥
  pub no : b ≡ false → Unsplit m f
