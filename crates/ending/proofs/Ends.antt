-- What the search for a rightmost part of degree s finds.
--
--   missed, splits-on, ends_there      there is no pair; there is one, and its right part splits; or it does not
use mathlib.Core.Path.{◌≡◌}
use mathlib.Core.Bool.{Bool, true, false}
use mathlib.Core.List.{List}
use Prim.Native.Nat.{ℕ, ◌/◌}
use native.Mathlib.Omega.{arith}
use Rattle.algebra.specs.Pair.{NormalPair, NoPair}
use Rattle.algebra.proofs.Chains.{sum-within}
use Rattle.algebra.proofs.Complete.{Chainable}
use Rattle.algebra.proofs.Every as E
use Rattle.algebra.proofs.Every.{RightAt}
use Rattle.polynomial.specs.Degrees.{Degrees}
use Rattle.round.specs.Round.{Splittable}
use Rattle.round.proofs.Rounds.{split_pair}
use Rattle.std.specs.Prelude.{Some, None}
use Rattle.polynomial.specs.declared.Pair.{Pair}
use Rattle.ending.specs.Ending.{RightmostAt}

module _ {m n : ℕ} {f : List ℕ} (t : Chainable m n f) {s : ℕ} where
  -- there is no pair
  pub missed : Degrees n (n / s) s → NoPair m f (n / s) s → RightmostAt m n f s None
  missed d none x c e = E.at_none t (omega (arith, d.two_left, sum-within d.two_left d.two_right d.product)) (λ w. none w.g w.h (split_pair w)) x (c, e)

  module _ {b : Bool} (p : Pair) (d : Degrees n (n / s) s) (k : NormalPair m f (n / s) s p.left p.right) (w : Splittable m p.right b) where
    -- there is one, and its right part splits
    pub splits-on : b ≡ true → RightmostAt m n f s None
    splits-on z x c e = E.at_split t d.two_left d.two_right d.product k (w.yes z) x (c, e)

    -- or it does not
    pub ends_there : b ≡ false → RightmostAt m n f s (Some p)
    ends_there z = record { two_left = d.two_left; two_right = d.two_right; product = d.product; pair = k; unsplit = w.no z }
