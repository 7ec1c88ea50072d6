-- A list that is filled from the front, or from the top, is a table at the end.
--
--   Filled n f r i            r has n entries, and the first i are f's
--   filled_none, filled_more  at the start, and after one more store
--   filled-all                at the end
--   zeros                     a list of zeros holds 0 at every place, and past its end
--   Down n f k old l          l was old, and is overwritten from the top: the entries above k are f's, the others still old's
--   down-none, down-more      at the start, and after one more store
--   down-all                  after the last one
use mathlib.Core.Path.{◌≡◌, refl, sym, ◌∙◌, subst}
use mathlib.Core.Logic.{⊎_elim}
use mathlib.Core.List.{List}
use Prim.Native.Nat.{ℕ, zero, suc, ◌+◌, ◌≤◌, ◌<◌}
use native.Mathlib.Nat.{not-suc-le-zero, eq-or-lt_of_le}
use native.Mathlib.Omega.{arith}
use lib.ListN.{length, get_or, set, length-set, replicate}
use lib.Seq.{ext_get_or, get_or-set_same, get_or-set_other}
use Rattle.algebra.specs.Number.{table}
use Rattle.algebra.specs.Polynomial.{coef}
use Rattle.algebra.proofs.Numbers.{table-length, table_below}

-- r has n entries, and the first i are f's
pub record Filled (n : ℕ) (f : ℕ → ℕ) (r : List ℕ) (i : ℕ) : Type 0 where
  pub long : length r ≡ n
  pub is : (k : ℕ) → k < i → get_or r k 0 ≡ f k

-- before the first store
pub filled_none : {n : ℕ} {f : ℕ → ℕ} {r : List ℕ} → length r ≡ n → Filled n f r 0
filled_none h = record { long = h; is = λ k l. absurd (not-suc-le-zero l) }

-- f i is stored at i
pub filled_more : {n : ℕ} {f : ℕ → ℕ} {r : List ℕ} {i x : ℕ} → i < n → x ≡ f i → Filled n f r i → Filled n f (set r i x) (i + 1)
filled_more {n} {f} {r} {i} {x} h e c =
    record {
      long = length-set r i x ∙ c.long;
      is = λ k l.
          ⊎_elim
          (λ (q : k ≡ i). rw q (get_or-set_same r i x 0 (subst (λ (m : ℕ). i < m) (sym c.long) h) ∙ e))
          (λ (q : k < i). get_or-set_other r i k x 0 (omega arith) ∙ c.is k q)
          (eq-or-lt_of_le (omega arith));
    }

-- all n are stored
pub filled-all : {n : ℕ} {f : ℕ → ℕ} {r : List ℕ} {i : ℕ} → n ≤ i → Filled n f r i → r ≡ table n f
filled-all {n} {f} {r} {i} h c =
    ext_get_or 0 r (table n f) (c.long ∙ sym (table-length n f))
    (λ k l. let e = c.long in c.is k (omega arith) ∙ sym (table_below n f k (omega arith)))

-- a list of zeros holds 0 everywhere
pub zeros : (n k : ℕ) → coef (replicate n 0) k ≡ 0
zeros zero k = refl
zeros (suc n) zero = refl
zeros (suc n) (suc k) = zeros n k

-- the entries above k are f's, and the others still those of old
pub record Down (n : ℕ) (f : ℕ → ℕ) (k : ℕ) (old l : List ℕ) : Type 0 where
  pub long : length l ≡ n
  pub above : (j : ℕ) → k < j → get_or l j 0 ≡ f j
  pub still : (j : ℕ) → j ≤ k → get_or l j 0 ≡ get_or old j 0

-- before the first store
pub down-none : {n : ℕ} {f : ℕ → ℕ} {k : ℕ} {old : List ℕ} → length old ≡ n → ((j : ℕ) → k < j → get_or old j 0 ≡ f j) → Down n f k old old
down-none h z = record { long = h; above = z; still = λ j l. refl }

-- f k is stored at k
pub down-more : {n : ℕ} {f : ℕ → ℕ} {k i x : ℕ} {old l : List ℕ} → k < n → k ≡ i + 1 → x ≡ f k → Down n f k old l → Down n f i old (set l k x)
down-more {n} {f} {k} {i} {x} {old} {l} h e is c =
    record {
      long = length-set l k x ∙ c.long;
      above = λ j b.
          ⊎_elim
          (λ (q : k ≡ j). rw (← q) (get_or-set_same l k x 0 (subst (λ (m : ℕ). k < m) (sym c.long) h) ∙ is))
          (λ (q : k < j). get_or-set_other l k j x 0 (omega arith) ∙ c.above j q)
          (eq-or-lt_of_le (omega arith));
      still = λ j b. get_or-set_other l k j x 0 (omega arith) ∙ c.still j (omega arith);
    }

-- f 0 is stored at 0
pub down-all : {n : ℕ} {f : ℕ → ℕ} {x : ℕ} {old l : List ℕ} → 0 < n → x ≡ f 0 → Down n f 0 old l → set l 0 x ≡ table n f
down-all {n} {f} {x} {old} {l} h is c = filled-all {i = n} (omega arith) (record { long = length-set l 0 x ∙ c.long; is = go })
  where
    go : (k : ℕ) → k < n → get_or (set l 0 x) k 0 ≡ f k
    go zero b = get_or-set_same l 0 x 0 (subst (λ (m : ℕ). 0 < m) (sym c.long) h) ∙ is
    go (suc k) b = get_or-set_other l 0 (suc k) x 0 (omega arith) ∙ c.above (suc k) (omega arith)
