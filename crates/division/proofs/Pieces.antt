-- The places of a list from `at` on.
--
--   lent, returned     as the code lends them, and as they come back
--   front, back        the places of two lists, one after the other
use mathlib.Core.Path.{◌≡◌, ap, ◌∙◌}
use mathlib.Core.List.{List, ◌++◌, append-nil}
use Prim.Native.Nat.{ℕ, ◌+◌, ◌-◌, ◌<◌}
use native.Mathlib.Omega.{arith}
use lib.ListN.{length, take, drop, length-drop, drop_of_length-le, get_or-append}
use lib.Seq.{take_all, get_or-append-add}
use Rattle.algebra.specs.Polynomial.{coef}

module _ (at : ℕ) (p : List ℕ) where
  pub lent : take (length p - at) (drop at p) ≡ drop at p
  lent = take_all (length p - at) (drop at p) (omega (arith, length-drop at p))

  pub returned : (q : List ℕ) → take at p ++ (q ++ drop (length p - at) (drop at p)) ≡ take at p ++ q
  returned q = ap (λ (x : List ℕ). take at p ++ (q ++ x)) (drop_of_length-le (drop at p) {i = length p - at} (omega (arith, length-drop at p))) ∙ ap (λ (x : List ℕ). take at p ++ x) (append-nil q)

module _ (xs ys : List ℕ) {n : ℕ} (e : length xs ≡ n) where
  pub front : (i : ℕ) → i < n → coef (xs ++ ys) i ≡ coef xs i
  front i l = get_or-append xs ys 0 i (rw e l)

  pub back : (i : ℕ) → coef (xs ++ ys) (n + i) ≡ coef ys i
  back i = rw (← e) (get_or-append-add xs ys i 0)
