-- Lists of numbers below m.
--
--   set_below      after one more store of such a number
--   take_below     cut off
--   join_below     one after the other
use mathlib.Core.Path.{◌≡◌}
use mathlib.Core.List.{List, [], ◌∷◌, ◌++◌}
use Prim.Native.Nat.{ℕ, zero, suc, ◌+◌, ◌-◌, ◌<◌}
use native.Mathlib.Omega.{arith}
use native.Mathlib.Decide.{dec_lt}
use lib.ListN.{length, set, take, length-take, get_or-append, get_or-eq_default}
use lib.Seq.{get_or-take, get_or-append-add}
use Rattle.algebra.specs.Polynomial.{coef}

pub set_below : {m : ℕ} (b : List ℕ) (p x : ℕ) → x < m → ((i : ℕ) → coef b i < m) → (i : ℕ) → coef (set b p x) i < m
set_below [] p x l h i = h i
set_below (y ∷ b) zero x l h zero = l
set_below (y ∷ b) zero x l h (suc i) = h (suc i)
set_below (y ∷ b) (suc p) x l h zero = h zero
set_below (y ∷ b) (suc p) x l h (suc i) = set_below b p x l (λ j. h (suc j)) i

pub take_below : {m : ℕ} → 0 < m → (n : ℕ) (p : List ℕ) → ((i : ℕ) → i < n → coef p i < m) → (i : ℕ) → coef (take n p) i < m
take_below {m} pos n p b i = go (dec_lt i n)
  where
    go : Dec (i < n) → coef (take n p) i < m
    go (yes l) = rw (get_or-take n p i 0 l) (b i l)
    go (no l) = rw (get_or-eq_default (take n p) 0 {n = i} (omega (arith, length-take n p))) pos

pub join_below : {m : ℕ} (xs ys : List ℕ) → ((i : ℕ) → coef xs i < m) → ((i : ℕ) → coef ys i < m) → (i : ℕ) → coef (xs ++ ys) i < m
join_below {m} xs ys a b i = go (dec_lt i (length xs))
  where
    go : Dec (i < length xs) → coef (xs ++ ys) i < m
    go (yes l) = rw (get_or-append xs ys 0 i l) (a i)
    go (no l) = let f : length xs + (i - length xs) ≡ i = omega arith in rw (← f, get_or-append-add xs ys (i - length xs) 0) (b (i - length xs))
