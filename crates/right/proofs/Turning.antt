-- Row 0, read from the top, is h.
--
--   Turned s k a h            h has row 0 of a from the top as far as place k, and zeros elsewhere
--   turned_none, turned_more  before the first place, and after one more
--   turned-end                with the leading 1, h is a's right part
--   upside_below              and below m where a is
use mathlib.Core.Path.{◌≡◌, ◌∙◌, sym, ap}
use mathlib.Core.Logic.{⊎_elim}
use mathlib.Core.List.{List}
use Prim.Native.Nat.{ℕ, zero, suc, ◌+◌, ◌-◌, ◌≤◌, ◌<◌}
use native.Mathlib.Nat.{eq-or-lt_of_le}
use native.Mathlib.Decide.{dec_lt}
use native.Mathlib.Omega.{arith}
use lib.ListN.{length, set, length-set, replicate, length-replicate}
use lib.Seq.{get_or-set_same, get_or-set_other}
use Rattle.algebra.specs.Polynomial.{coef, limit, terms}
use Rattle.right.specs.Rows.{Upside}
use Rattle.polynomial.proofs.Filling.{zeros}

pub record Turned (s k : ℕ) (a h : List ℕ) : Type 0 where
  pub long : length h ≡ terms
  pub origin : coef h 0 ≡ 0
  pub past : (i : ℕ) → s ≤ i → coef h i ≡ 0
  pub is : (j : ℕ) → 0 < j → j < k → coef h (s - j) ≡ coef a j

pub turned_none : {s : ℕ} {a : List ℕ} → Turned s 1 a (replicate terms 0)
turned_none = record { long = length-replicate terms 0; origin = zeros terms 0; past = λ i l. zeros terms i; is = λ j l h. omega arith }

pub turned_more : {s k : ℕ} {a h : List ℕ} → 0 < k → k < s → s + s ≤ limit → Turned s k a h → Turned s (k + 1) a (set h (s - k) (coef a k))
unfolding terms
turned_more {s} {k} {a} {h} kp l b t = record {
  long = length-set h (s - k) _ ∙ t.long;
  origin = get_or-set_other h (s - k) 0 _ 0 (λ q. omega arith) ∙ t.origin;
  past = λ i g. get_or-set_other h (s - k) i _ 0 (λ q. omega arith) ∙ t.past i g;
  is = λ j g w. ⊎_elim
      (λ (q : j ≡ k). rw q (get_or-set_same h (s - k) _ 0 (omega arith)))
      (λ (q : j < k). get_or-set_other h (s - k) (s - j) _ 0 (λ z. omega arith) ∙ t.is j g q)
      (eq-or-lt_of_le (omega arith));
}

pub turned-end : {s k : ℕ} {a h : List ℕ} → 2 ≤ s → s + s ≤ limit → s ≤ k → Turned s k a h → Upside s a (set h s 1)
unfolding terms
turned-end {s} {k} {a} {h} two b end t = record {
  long = length-set h s 1 ∙ t.long;
  lead = get_or-set_same h s 1 0 (omega arith);
  origin = get_or-set_other h s 0 1 0 (λ q. omega arith) ∙ t.origin;
  past = λ i g. get_or-set_other h s i 1 0 (λ q. omega arith) ∙ t.past i (omega arith);
  is = λ j g w. get_or-set_other h s (s - j) 1 0 (λ q. omega arith) ∙ t.is j g (omega arith);
}

pub upside_below : {m s : ℕ} {a h : List ℕ} → 1 < m → Upside s a h → ((i : ℕ) → coef a i < m) → (i : ℕ) → coef h i < m
upside_below one U small zero = rw U.origin (omega arith)
upside_below {m} {s} {a} {h} one U small (suc i) = side (dec_lt (suc i) s) (dec_lt s (suc i))
  where
    side : Dec (suc i < s) → Dec (s < suc i) → coef h (suc i) < m
    side (yes g) w =
        let e : s - (s - suc i) ≡ suc i = omega arith in
        let v : coef h (suc i) ≡ coef a (s - suc i) = ap (coef h) (sym e) ∙ U.is (s - suc i) (omega arith) (omega arith) in
        rw v (small (s - suc i))
    side (no g) (yes w) = rw (U.past (suc i) w) (omega arith)
    side (no g) (no w) =
        let e : s ≡ suc i = omega arith in
        rw (← e, U.lead) one
