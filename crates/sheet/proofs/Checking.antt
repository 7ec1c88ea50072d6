-- Checks of places, left to right.
--
--   each_none, each_more     nothing is checked yet; one more passes
--   each_stop                the first that refuses decides
--   each_done                at the end
--   each_at, each_all        all pass exactly if each does
--   each_ext                 equal checks, equal outcomes
--   order_ext, parts_ext, product_ext     what depends on the used places, and on their polynomials, only
use mathlib.Core.Path.{◌≡◌, refl, sym, ap, ap₂}
use mathlib.Core.Bool.{Bool, not, cond, ◌||◌}
use mathlib.Core.Logic.{⊎_elim}
use mathlib.Core.List.{List, ◌∷◌}
use Prim.Native.Nat.{ℕ, zero, suc, ◌+◌, ◌≤◌, ◌<◌}
use native.Mathlib.Nat as N
use native.Mathlib.Omega.{arith}
use native.Mathlib.Numerals.{add-one}
use lib.Dec.{ltb}
use Rattle.algebra.specs.Polynomial.{limit}
use Rattle.algebra.specs.Chain.{degrees, product}
use Rattle.refusal.specs.Refusal.{Outcome, Answered, Refused, ◌then◌, refuse}
use Rattle.refusal.specs.declared.Refusal.{Refusal}
use Rattle.refusal.specs.declared.Concerns.TheVariants.{Neither}
use Rattle.refusal.specs.declared.Reason.TheVariants.{Sheet, Limit}
use Rattle.refusal.proofs.Outcomes.{then_both}
use Rattle.area.specs.Area.{most_parts}
use Rattle.sheet.specs.Sheet.{used, parts_in}
use Rattle.sheet.specs.Checks.{each, in_order, check_order, check_product}

module _ (c : ℕ → Outcome) where
  pub each_none : each 0 c ≡ Answered
  unfolding each
  each_none = refl

  pub each_more : {n : ℕ} → each n c ≡ Answered → c n ≡ Answered → each (n + 1) c ≡ Answered
  unfolding each
  each_more {n} e q = rw (add-one n) (simp (e, q))

  -- the first that refuses decides
  pub each_stop : (n i : ℕ) {r : Refusal} → i < n → each i c ≡ Answered → c i ≡ Refused r → Refused r ≡ each n c
  unfolding each
  each_stop zero i l e q = absurd (N.not-suc-le-zero l)
  each_stop (suc n) i l e q =
      ⊎_elim
      (λ (z : i ≡ n). rw (← z) (simp (e, q)))
      (λ (b : i < n). rw (← each_stop n i b e q) refl)
      (N.eq-or-lt_of_le (omega arith))

  pub each_done : (n : ℕ) {i : ℕ} → n ≤ i → i ≤ n → each i c ≡ Answered → Answered ≡ each n c
  each_done n {i} l k e = let z : i ≡ n = omega arith in sym (rw z at e)

  pub each_at : (n : ℕ) → each n c ≡ Answered → (i : ℕ) → i < n → c i ≡ Answered
  unfolding each
  each_at zero e i l = absurd (N.not-suc-le-zero l)
  each_at (suc n) e i l =
      let (a, b) = then_both (each n c) (c n) e in
      ⊎_elim (λ (z : i ≡ n). rw z b) (λ (k : i < n). each_at n a i k) (N.eq-or-lt_of_le (omega arith))

  pub each_all : (n : ℕ) → ((i : ℕ) → i < n → c i ≡ Answered) → each n c ≡ Answered
  unfolding each
  each_all zero h = refl
  each_all (suc n) h = simp (each_all n (λ i l. h i (omega arith)), h n (omega arith))

each_ext : (n : ℕ) (c d : ℕ → Outcome) → ((i : ℕ) → i < n → c i ≡ d i) → each n c ≡ each n d
unfolding each
each_ext zero c d e = refl
each_ext (suc n) c d e = ap₂ ◌then◌ (each_ext n c d (λ i l. e i (omega arith))) (e n (omega arith))

pub order_ext : (u v : ℕ → Bool) → ((i : ℕ) → i < most_parts → u i ≡ v i) → check_order u ≡ check_order v
unfolding check_order
order_ext u v e = each_ext most_parts _ _ (λ i l. ap (λ (t : Bool). refuse (not t) Neither Sheet) (go i l))
  where
    go : (i : ℕ) → i < most_parts → in_order u i ≡ in_order v i
    go zero l = e 0 l
    go (suc i) l = ap₂ (λ (s t : Bool). not s || t) (e (suc i) l) (e i (omega arith))

pub parts_ext : (g h : ℕ → List ℕ) (n : ℕ) → ((i : ℕ) → i < n → g i ≡ h i) → parts_in g n ≡ parts_in h n
unfolding parts_in
parts_ext g h zero e = refl
parts_ext g h (suc n) e = ap₂ (λ (p : List ℕ) (l : List (List ℕ)). cond (used p) (p ∷ l) l) (e n (omega arith)) (parts_ext g h n (λ i l. e i (omega arith)))

pub product_ext : (g h : ℕ → List ℕ) → ((i : ℕ) → i < most_parts → g i ≡ h i) → check_product g ≡ check_product h
unfolding check_product
product_ext g h e = ap (λ (l : List (List ℕ)). refuse (ltb limit (product (degrees l))) Neither Limit) (parts_ext g h most_parts e)
