-- The order of complete chains.
--
--   earlier_within     where two complete chains of one f differ first, read from the right, both have a part
use mathlib.Core.Path.{◌≡◌, ap}
use mathlib.Core.List.{List, [], ◌∷◌}
use Prim.Native.Nat.{ℕ, suc, ◌+◌, ◌≤◌, ◌<◌}
use native.Mathlib.Nat as N
use native.Mathlib.Omega.{arith}
use native.Mathlib.Decide.{dec_lt}
use lib.ListN.{length, get_or-eq_default}
use Rattle.algebra.specs.Polynomial.{degree, highest, Monic}
use Rattle.algebra.specs.Chain.{part, degrees, product}
use Rattle.algebra.specs.Every.{CompleteChain, Earlier}
use Rattle.algebra.proofs.Complete.{complete-product}

-- degrees of 2 or more multiply to 1 or more
some-product : (y : List (List ℕ)) → ((i : ℕ) → i < length y → 2 ≤ degree (part y i)) → 1 ≤ product (degrees y)
unfolding product degrees
some-product [] two = omega arith
some-product (q ∷ y) two = N.mul-pos (omega (arith, two 0 (omega arith))) (some-product y (λ i l. two (suc i) (omega arith)))

-- a list that goes on multiplies to more
longer-product : (x y : List (List ℕ)) → ((i : ℕ) → i < length x → degree (part x i) ≡ degree (part y i)) → length x < length y
    → ((i : ℕ) → i < length y → 2 ≤ degree (part y i)) → product (degrees x) < product (degrees y)
unfolding product degrees
longer-product x [] same l two = absurd (omega arith)
longer-product [] (q ∷ y) same l two = omega (arith, N.mul-le-mul {n₁ = 2} {m₁ = 1} {n₂ = degree q} {m₂ = product (degrees y)} (two 0 (omega arith)) (some-product y (λ i l. two (suc i) (omega arith))))
longer-product (p ∷ x) (q ∷ y) same l two =
    let e : degree p ≡ degree q = same 0 (omega arith) in
    let less = longer-product x y (λ i l. same (suc i) (omega arith)) (omega arith) (λ i l. two (suc i) (omega arith)) in
    let more : product (degrees x) + 1 ≤ product (degrees y) = omega arith in
    rw e (omega (arith, two 0 (omega arith), N.mul-le-mul_left {m = product (degrees x) + 1} {n = product (degrees y)} (degree q) more))

past : (x : List (List ℕ)) (i : ℕ) → length x ≤ i → degree (part x i) ≡ 0
unfolding degree highest
past x i l = ap degree (get_or-eq_default x [] l)

module _ {m n : ℕ} {f : List ℕ} {x y : List (List ℕ)} (above : 2 ≤ m) (monic : Monic m n f) (cx : CompleteChain m f x) (cy : CompleteChain m f y) where
  pub earlier_within : (e : Earlier x y) → (e.place < length x) × (e.place < length y)
  earlier_within e = (go (dec_lt e.place (length x)), here)
    where
      here : e.place < length y
      here = inside (dec_lt e.place (length y))
        where
          inside : Dec (e.place < length y) → e.place < length y
          inside (yes l) = l
          inside (no h) = absurd (omega (arith, past y e.place (omega arith), e.smaller))

      go : Dec (e.place < length x) → e.place < length x
      go (yes l) = l
      go (no h) =
          let more = longer-product x y (λ i l. e.same i (omega arith)) (omega (arith, here)) (λ i l. (cy.is_part i l).two) in
          let p = complete-product above monic cx in
          let q = complete-product above monic cy in
          absurd (omega arith)
