-- Degrees that fit.
--
--   fits-degrees       what fits, with what it leaves, are the degrees of a pair
--   degrees_fit        the degrees of a pair fit, and the quotient is the other one
use mathlib.Core.Path.{◌≡◌, sym, ap, ◌∙◌}
use mathlib.Core.Bool.{true, ◌&&◌, and-eq-true_iff}
use Prim.Native.Nat.{ℕ, ◌*◌, ◌/◌, ◌%◌, ◌≤◌}
use native.Mathlib.Nat as N
use native.Mathlib.Omega.{arith}
use lib.Dec.{leb, eqb}
use borrow.Author.Tests.{leb-true, eqb-true, le-leb, eq-eqb}
use Rattle.algebra.specs.Polynomial.{limit}
use Rattle.polynomial.specs.Degrees.{Degrees}
use Rattle.pair.specs.Pairing.{fits}

pub fits-degrees : (n d : ℕ) → fits n d ≡ true → n ≤ limit → Degrees n (n / d) d × Degrees n d (n / d)
unfolding fits
fits-degrees n d h l =
    let (ab, c) = (and-eq-true_iff (leb 2 d && eqb (n % d) 0) (leb 2 (n / d))).0 h in
    let (a, b) = (and-eq-true_iff (leb 2 d) (eqb (n % d) 0)).0 ab in
    let low : 2 ≤ d = leb-true _ _ a in
    let high : 2 ≤ n / d = leb-true _ _ c in
    let e : n / d * d ≡ n = exact (eqb-true _ _ b) in
    (record { product = e; within = l; two_left = high; two_right = low }, record { product = N.mul_comm d (n / d) ∙ e; within = l; two_left = low; two_right = high })
  where
    exact : n % d ≡ 0 → n / d * d ≡ n
    exact z = omega (arith, N.div-add-mod' n d)

pub degrees_fit : {n r s : ℕ} → Degrees n r s → (fits n r ≡ true) × (n / r ≡ s)
unfolding fits
degrees_fit {n} {r} {s} d = (simp (le-leb _ _ d.two_left, eq-eqb _ _ none, quotient, le-leb _ _ d.two_right), quotient)
  where
    e : s * r ≡ n
    e = N.mul_comm s r ∙ d.product

    quotient : n / r ≡ s
    quotient = ap (λ (x : ℕ). x / r) (sym e) ∙ N.mul-div_cancel s (omega (arith, d.two_left))

    none : n % r ≡ 0
    none = ap (λ (x : ℕ). x % r) (sym e) ∙ N.mul-mod_left s r
