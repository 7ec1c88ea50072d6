-- h^k by products with h.
--
--   raised-one       h itself
--   raised-room      one product more is within the limit
--   raised-more      and gives one power more
use mathlib.Core.Path.{◌≡◌}
use mathlib.Core.List.{List, [], ◌∷◌}
use Prim.Native.Nat.{ℕ, suc, ◌+◌, ◌*◌, ◌≤◌, ◌<◌}
use native.Mathlib.Nat as N
use native.Mathlib.Numerals.{add-one}
use native.Mathlib.Omega.{arith}
use Rattle.algebra.specs.Polynomial.{plus, times, power, limit, terms, reduced, Same, Monic, Held}
use Rattle.algebra.proofs.Polynomials.{◌⨾◌, same_refl, same_sym, zero_nothing, plus-same, plus-nothing, times-same, times_comm, times-one, monic-same}
use Rattle.algebra.proofs.Coefficients.{power-monic}
use Rattle.algebra.proofs.Reduction.{reduced-reduced, reduced-above, monic-reduced}
use Rattle.composition.specs.Composition.{Room}
use Rattle.composition.proofs.Horner.{held-ends}
use Rattle.division.specs.Division.{Raised}

pub raised-one : {m s : ℕ} {h : List ℕ} → 0 < m → Held m s h → Raised m h s 1 h
unfolding power
raised-one {m} {s} {h} pos c = record { held = let e : 1 * s ≡ s = omega arith in rw e c; same = same_sym (times_comm m pos h (1 ∷ []) ⨾ times-one m pos h) }

module _ {m s i k : ℕ} {h b : List ℕ} (pos : 0 < m) (right : Held m s h) (l : i < k) (fits : k * s ≤ limit) (c : Raised m h s i b) where
  within : (i + 1) * s ≤ limit
  within = N.le_trans (N.mul-le-mul_right {m = i + 1} {n = k} s (omega arith)) fits

  pub raised-room : Room s ((i + 1) * s) h b
  raised-room = record { right = held-ends right; long = c.held.reduced.long; past = λ j a. reduced-above c.held.reduced c.held.monic j (omega arith); within = within }

  pub raised-more : {q : List ℕ} → q ≡ reduced m (plus (0 ∷ []) (times h b)) → Raised m h s (i + 1) q
  unfolding power terms
  raised-more e = rw e (record { held = record { reduced = reduced-reduced m pos product; monic = monic-same m pos cut monic; within = within }; same = same_sym cut ⨾ rw (add-one i) next })
    where
      product : List ℕ
      product = plus (0 ∷ []) (times h b)

      next : Same m product (times h (power h i))
      next = plus-same m pos (zero_nothing m pos) (times-same m pos (same_refl h) c.same) ⨾ plus-nothing m pos _

      monic : Monic m ((i + 1) * s) product
      monic = rw (add-one i) (monic-same m pos (same_sym next) (power-monic m pos right.monic (suc i)))

      -- within the limit nothing is cut off
      cut : Same m product (reduced m product)
      cut = monic-reduced m pos (omega (arith, within)) monic
