-- From the digits to the left part.
--
--   constant-place                     where a digit's constant lies
--   asked_same, asked_division, asked_long     f's places up to x^n are all of f, and may be divided by h
--   digits-terms, digits-past          with what lies above x^n the list has all places of a polynomial, and no digit above the r-th
--   digits-none                        a digit that is no constant refutes every left part
--   digits-found                       where all are constants, they are the left part
use mathlib.Core.Path.{◌≡◌, sym, ap, ◌∙◌}
use mathlib.Core.Bool.{Bool, true, false}
use mathlib.Core.List.{List, ◌++◌}
use Prim.Native.Nat.{ℕ, ◌+◌, ◌*◌, ◌-◌, ◌%◌, ◌≤◌, ◌<◌}
use native.Mathlib.Nat as N
use native.Mathlib.Omega.{arith}
use native.Mathlib.Decide.{dec_lt}
use lib.ListN.{length, take, drop, length-append, length-drop, get_or-eq_default}
use lib.Seq.{get_or-take, get_or-drop, length-take-le}
use Rattle.algebra.specs.Polynomial.{coef, after, limit, terms, Same}
use Rattle.algebra.specs.Number.{table}
use Rattle.algebra.proofs.Numbers.{table-length, table_below, table-above}
use Rattle.algebra.proofs.Polynomials.{◌⨾◌, same_sym}
use Rattle.algebra.proofs.Coefficients.{after-end}
use Rattle.algebra.proofs.Reduction.{reduced-above}
use Rattle.left.specs.Left.{LeftPart, NoLeft, LeftAsked}
use Rattle.division.specs.Division.{DivisionAsked}
use Rattle.left.specs.Digits.{Digits}
use Rattle.polynomial.proofs.Below.{take_below}
use Rattle.division.proofs.Pieces.{front, back}

-- the constant of digit i, and its number, are within the limit
pub constant-place : {r s i : ℕ} → 0 < s → r * s ≤ limit → i ≤ r → (i * s ≤ limit) × (i ≤ limit)
constant-place {r} {s} {i} a b l =
    let e : i * s ≤ limit = N.le_trans (N.mul-le-mul_right s l) b in
    (e, N.le_trans (omega (arith, N.mul-le-mul_left {m = 1} {n = s} i a)) e)

module _ {m n r s : ℕ} {f h : List ℕ} (asked : LeftAsked m n r s f h) where
  pos : 0 < m
  pos = omega (arith, asked.modulus.above_one)

  two : 2 ≤ s
  two = asked.degrees.two_right

  long : length (take (n + 1) f) ≡ n + 1
  unfolding terms
  long = length-take-le (n + 1) f (omega (arith, asked.whole.within, asked.whole.reduced.long))

  beyond : (i : ℕ) → r < i → n + 1 ≤ i * s
  beyond i l = omega (arith, two, asked.degrees.product, N.mul-le-mul_right {m = r + 1} {n = i} s (omega arith))

  -- f's places up to x^n are all of f
  pub asked_same : Same m (take (n + 1) f) f
  asked_same = record { at = λ i. ap (λ (x : ℕ). x % m) (go i (dec_lt i (n + 1))) }
    where
      go : (i : ℕ) → Dec (i < n + 1) → coef (take (n + 1) f) i ≡ coef f i
      go i (yes l) = get_or-take (n + 1) f i 0 l
      go i (no l) = get_or-eq_default (take (n + 1) f) 0 {n = i} (omega (arith, long)) ∙ sym (reduced-above asked.whole.reduced asked.whole.monic i (omega arith))

  pub asked_division : DivisionAsked m s h (take (n + 1) f)
  unfolding terms
  asked_division =
      record {
        modulus = asked.modulus;
        right = asked.right;
        above_zero = omega (arith, two);
        below = take_below pos (n + 1) f (λ i l. asked.whole.reduced.below i (omega (arith, asked.whole.within)));
        some = omega (arith, long);
        inside = omega (arith, long, asked.whole.within);
      }

  pub asked_long : length (take (n + 1) f) ≡ r * s + 1
  asked_long = long ∙ ap (λ (x : ℕ). x + 1) (sym asked.degrees.product)

  -- the digits and what lies above x^n are a polynomial's places again
  pub digits-terms : {q : List ℕ} {t : Bool} → Digits m h s (take (n + 1) f) q t → length (q ++ drop (n + 1) f) ≡ terms
  unfolding terms
  digits-terms {q} d = length-append q (drop (n + 1) f) ∙ rw (d.long, long, length-drop (n + 1) f, asked.whole.reduced.long) (omega (arith, asked.whole.within))

  -- above x^n there are zeros
  pub digits-past : {q : List ℕ} {t : Bool} → Digits m h s (take (n + 1) f) q t → (i : ℕ) → r < i → coef (q ++ drop (n + 1) f) (i * s) ≡ 0
  digits-past {q} d i l =
      let e : n + 1 + (i * s - (n + 1)) ≡ i * s = omega (arith, beyond i l) in
      rw (← e) (back q (drop (n + 1) f) (d.long ∙ long) (i * s - (n + 1)) ∙ get_or-drop (n + 1) f (i * s - (n + 1)) 0 ∙ reduced-above asked.whole.reduced asked.whole.monic _ (omega arith))

  -- a digit that is no constant: no g whatever
  pub digits-none : {q : List ℕ} {t : Bool} → Digits m h s (take (n + 1) f) q t → t ≡ false → NoLeft m f r h
  digits-none d e g mon w = d.no e g (asked_same ⨾ w)

  -- the digits' constants, which the code picks from the whole list
  pub digits-found : {q g : List ℕ} {t : Bool} → Digits m h s (take (n + 1) f) q t → t ≡ true → g ≡ table terms (λ i. coef (q ++ drop (n + 1) f) (i * s)) → LeftPart m f r h g
  unfolding terms
  digits-found {q} {g} d e c = record { reduced = record { long = ap length c ∙ table-length terms _; below = λ i l. small i (dec_lt i (r + 1)) }; monic = record { top = sym (after-end m pos g (omega (arith, two)) asked.right.monic above).0 ∙ top; above = above }; whole = whole }
    where
      wide : length q ≡ n + 1
      wide = d.long ∙ long

      inside : (i : ℕ) → i < r + 1 → (i * s < n + 1) × (i < terms)
      inside i l = let (a, b) = constant-place {r = r} {s = s} {i = i} (omega (arith, two)) (omega (arith, asked.degrees.product, asked.degrees.within)) (omega arith) in
          (omega (arith, asked.degrees.product, N.mul-le-mul_right {m = i} {n = r} s (omega arith)), omega arith)

      place : (i : ℕ) → i < r + 1 → coef g i ≡ coef q (i * s)
      place i l = ap (λ (p : List ℕ). coef p i) c ∙ table_below terms _ i (inside i l).1 ∙ front q (drop (n + 1) f) wide (i * s) (inside i l).0

      past : (i : ℕ) → r < i → coef g i ≡ 0
      past i l = ap (λ (p : List ℕ). coef p i) c ∙ go (dec_lt i terms)
        where
          go : Dec (i < terms) → coef (table terms (λ j. coef (q ++ drop (n + 1) f) (j * s))) i ≡ 0
          go (yes b) = table_below terms _ i b ∙ digits-past d i l
          go (no b) = table-above terms _ i (omega arith)

      small : (i : ℕ) → Dec (i < r + 1) → coef g i < m
      small i (yes l) = rw (place i l) (d.below (i * s))
      small i (no l) = rw (past i (omega arith)) pos

      above : (i : ℕ) → r < i → coef g i % m ≡ 0 % m
      above i l = ap (λ (x : ℕ). x % m) (past i l)

      all : (i : ℕ) → Dec (i < r + 1) → coef g i ≡ coef q (i * s)
      all i (yes l) = place i l
      all i (no l) = past i (omega arith) ∙ sym (get_or-eq_default q 0 (omega (arith, wide, beyond i (omega arith))))

      whole : Same m f (after g h)
      whole = same_sym asked_same ⨾ (d.yes e g).1 (λ i. ap (λ (x : ℕ). x % m) (all i (dec_lt i (r + 1))))

      top : coef (after g h) (r * s) % m ≡ 1 % m
      top = sym (whole.at (r * s)) ∙ rw asked.degrees.product asked.whole.monic.top
