-- The value of a polynomial at a number, exact in whole numbers, and modulo m.
--
--   value-plus, value-scaled, value-times, value_after     it goes through every operation
--   value_same                            polynomials that are the same modulo m have the same values modulo m
--   value_zero                            p(0) is the constant term
use mathlib.Core.Path.{◌≡◌, refl, sym, ap, ap₂, ◌∙◌}
use mathlib.Core.List.{List, [], ◌∷◌, tail}
use Prim.Native.Nat.{ℕ, suc, ◌+◌, ◌*◌, ◌%◌}
use native.Mathlib.Nat as N
use native.Mathlib.Omega.{arith}
use Rattle.algebra.specs.Polynomial.{coef, plus, scaled, times, after, value, Same}
use Rattle.algebra.proofs.Numbers.{mul-same}

pub value-plus : (p q : List ℕ) (b : ℕ) → value (plus p q) b ≡ value p b + value q b
unfolding plus value
value-plus [] q b = sym (N.zero-add _)
value-plus (a ∷ p) [] b = sym (N.add-zero _)
value-plus (a ∷ p) (c ∷ q) b = omega (arith, ap (λ (x : ℕ). b * x) (value-plus p q b))

pub value-scaled : (a : ℕ) (p : List ℕ) (b : ℕ) → value (scaled a p) b ≡ a * value p b
unfolding scaled value
value-scaled a [] b = sym (N.mul-zero a)
value-scaled a (c ∷ p) b = omega (arith, ap (λ (x : ℕ). b * x) (value-scaled a p b))

value-times : (p q : List ℕ) (b : ℕ) → value (times p q) b ≡ value p b * value q b
unfolding times value
value-times [] q b = sym (N.zero-mul _)
value-times (a ∷ p) q b = value-plus (scaled a q) (0 ∷ times p q) b ∙ omega (arith, value-scaled a q b, ap (λ (x : ℕ). b * x) (value-times p q b))

pub value_after : (g h : List ℕ) (b : ℕ) → value (after g h) b ≡ value g (value h b)
unfolding after value
value_after [] h b = refl
value_after (a ∷ g) h b = value-plus (a ∷ []) (times h (after g h)) b ∙ omega (arith, value-times h (after g h) b, ap (λ (x : ℕ). value h b * x) (value_after g h b))

pub value_zero : (p : List ℕ) → value p 0 ≡ coef p 0
unfolding value
value_zero [] = refl
value_zero (a ∷ p) = omega arith

first-term : (p : List ℕ) (b : ℕ) → value p b ≡ coef p 0 + b * value (tail p) b
unfolding value
first-term [] b = omega arith
first-term (a ∷ p) b = refl

module _ {m : ℕ} where
  same_tail : {p q : List ℕ} → Same m p q → Same m (tail p) (tail q)
  same_tail {p} {q} e = record { at = λ i. ap (λ (x : ℕ). x % m) (one p i) ∙ e.at (suc i) ∙ ap (λ (x : ℕ). x % m) (sym (one q i)) }
    where
      one : (p : List ℕ) (i : ℕ) → coef (tail p) i ≡ coef p (suc i)
      one [] i = refl
      one (a ∷ p) i = refl

  step : (p q : List ℕ) (b : ℕ) → Same m p q → value (tail p) b % m ≡ value (tail q) b % m → value p b % m ≡ value q b % m
  step p q b e ih = ap (λ (x : ℕ). x % m) (first-term p b) ∙ N.add-mod (coef p 0) (b * value (tail p) b) m
      ∙ ap₂ (λ (x y : ℕ). (x + y) % m) (e.at 0) (mul-same m b (value (tail p) b) b (value (tail q) b) refl ih)
      ∙ sym (ap (λ (x : ℕ). x % m) (first-term q b) ∙ N.add-mod (coef q 0) (b * value (tail q) b) m)

  both : (p q : List ℕ) (b : ℕ) → Same m p q → value p b % m ≡ value q b % m
  both [] [] b e = refl
  both [] (c ∷ q) b e = step [] (c ∷ q) b e (both [] q b (same_tail e))
  both (a ∷ p) [] b e = step (a ∷ p) [] b e (both p [] b (same_tail e))
  both (a ∷ p) (c ∷ q) b e = step (a ∷ p) (c ∷ q) b e (both p q b (same_tail e))

  pub value_same : {p q : List ℕ} (b : ℕ) → Same m p q → value p b % m ≡ value q b % m
  value_same {p} {q} b e = both p q b e
