-- The rightmost part of a complete chain. Only leaves need this.
--
--   Rightmost m n f s g h            h, of degree s, is the rightmost part of some complete chain of f, and g is what the others compose to
--   RightmostAt m n f s x            whether some complete chain of f has a rightmost part of degree s
use Rattle.std.specs.Prelude.{◌≡◌, Option, Some, None, List, ℕ, ◌*◌, ◌/◌, ◌≤◌}
use Rattle.algebra.specs.Polynomial.{degree}
use Rattle.algebra.specs.Pair.{NormalPair, Unsplit}
use Rattle.algebra.specs.Chain.{part}
use Rattle.algebra.specs.Every.{CompleteChain}
use Rattle.polynomial.specs.declared.Pair.{Pair}

-- f splits at s, and its right part there does not split
pub record Rightmost (m n : ℕ) (f : List ℕ) (s : ℕ) (g h : List ℕ) : Type 0 where
  pub two_left : 2 ≤ n / s
  pub two_right : 2 ≤ s
  pub product : n / s * s ≡ n
  pub pair : NormalPair m f (n / s) s g h
  pub unsplit : Unsplit m h

-- the pair, or none for all complete chains
abbrev pub RightmostAt : ℕ → ℕ → List ℕ → ℕ → Option Pair → Type 0
RightmostAt m n f s (Some p) = Rightmost m n f s p.left p.right
RightmostAt m n f s None = (x : List (List ℕ)) → CompleteChain m f x → degree (part x 0) ≡ s → ⊥
