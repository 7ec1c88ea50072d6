-- Places of zeros.
--
--   at_zero       what has no other word is all zero
--   all_zeros     and is a list of zeros
use mathlib.Core.Path.{◌≡◌, refl, ap₂}
use mathlib.Core.Bool.{true}
use mathlib.Core.List.{List, [], ◌∷◌}
use Prim.Native.Nat.{ℕ, suc, ◌<◌}
use native.Mathlib.Omega.{arith}
use borrow.Author.Tests.{eq-eqb}
use lib.ListN.{length, get_or, replicate}
use Rattle.area.specs.Area.{all_zero}
use Rattle.area.proofs.Reading.{zero_at}

pub at_zero : (xs : List ℕ) → ((i : ℕ) → i < length xs → get_or xs i 0 ≡ 0) → all_zero xs ≡ true
unfolding all_zero
at_zero [] h = refl
at_zero (x ∷ xs) h = rw (eq-eqb x 0 (h 0 (omega arith)), at_zero xs (λ i l. h (suc i) (omega arith))) refl

pub all_zeros : (xs : List ℕ) → all_zero xs ≡ true → xs ≡ replicate (length xs) 0
all_zeros xs h = go xs (zero_at xs h)
  where
    go : (l : List ℕ) → ((i : ℕ) → get_or l i 0 ≡ 0) → l ≡ replicate (length l) 0
    go [] z = refl
    go (x ∷ l) z = ap₂ ◌∷◌ (z 0) (go l (λ i. z (suc i)))
