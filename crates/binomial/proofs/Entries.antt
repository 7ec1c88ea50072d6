-- Entry i of row j of Pascal's triangle is C(j, i), whatever the number of rows.
--
--   place      where it stands in the list
--   at         that it stands there
--   pascal     Pascal's rule at each entry
use mathlib.Core.Path.{◌≡◌, refl, sym, ◌∙◌, ap, ap₂}
use mathlib.Core.Logic.{⊎_elim}
use mathlib.Core.List.{List, [], ◌∷◌}
use Prim.Native.Nat.{ℕ, zero, suc, ◌+◌, ◌*◌, ◌/◌, ◌≤◌, ◌<◌}
use native.Mathlib.Nat.{mul-suc, suc-mul, eq-or-lt_of_le, le_of_suc-le-suc, not-suc-le-zero}
use native.Mathlib.Numerals.{add-one}
use native.Mathlib.Omega.{arith}
use lib.ListN.{length, get_or, length-append, get_or-append}
use lib.Seq.{get_or-append-add}
use Rattle.algebra.specs.Number.{choose}
use Rattle.binomial.specs.Triangle.{sums, row, triangle}

sums_at : (xs : List ℕ) (i : ℕ) → get_or (sums xs) i 0 ≡ get_or xs i 0 + get_or xs (suc i) 0
unfolding sums
sums_at [] i = refl
sums_at (x ∷ xs) zero = refl
sums_at (x ∷ xs) (suc i) = sums_at xs i

row_at : (j i : ℕ) → get_or (row j) i 0 ≡ choose j i
unfolding row choose
row_at zero zero = refl
row_at zero (suc i) = refl
row_at (suc j) zero = refl
row_at (suc j) (suc i) = sums_at (row j) i ∙ ap₂ ◌+◌ (row_at j i) (row_at j (suc i))

sums-length : (xs : List ℕ) → length (sums xs) ≡ length xs
unfolding sums
sums-length [] = refl
sums-length (x ∷ xs) = ap suc (sums-length xs)

row-length : (j : ℕ) → length (row j) ≡ suc j
unfolding row
row-length zero = refl
row-length (suc j) = ap suc (sums-length (row j) ∙ row-length j)

next_length : (n : ℕ) → length (triangle (suc n)) ≡ length (triangle n) + (n + 1)
unfolding triangle
next_length n = length-append (triangle n) (row n) ∙ ap (λ (k : ℕ). length (triangle n) + k) (row-length n ∙ sym (add-one n))

twice : (n : ℕ) → length (triangle n) * 2 ≡ n * (n + 1)
unfolding triangle
twice zero = refl
twice (suc n) =
    let ih = twice n in
    let e = next_length n in
    let f = suc-mul n (suc n + 1) in
    let g : n * (suc n + 1) ≡ n * (n + 1) + n = ap (λ (k : ℕ). n * k) (omega arith) ∙ mul-suc n (n + 1) in
    omega arith

-- where row n starts
start : (n : ℕ) → n * (n + 1) / 2 ≡ length (triangle n)
start n = let e = twice n in omega arith

inside : (n j i : ℕ) → j < n → i ≤ j → length (triangle j) + i < length (triangle n)
inside zero j i h k = absurd (not-suc-le-zero h)
inside (suc n) j i h k =
    let e = next_length n in
    let ih = inside n j i in
    ⊎_elim (λ (q : j ≡ n). let l = ap (λ (m : ℕ). length (triangle m)) q in omega arith)
    (λ (l : j < n). let t = ih l k in omega arith)
    (eq-or-lt_of_le (le_of_suc-le-suc h))

entry : (n j i : ℕ) → j < n → i ≤ j → get_or (triangle n) (length (triangle j) + i) 0 ≡ choose j i
unfolding triangle
entry zero j i h k = absurd (not-suc-le-zero h)
entry (suc n) j i h k =
    let ih = entry n j i in
    ⊎_elim (λ (q : j ≡ n). rw q (get_or-append-add (triangle n) (row n) i 0 ∙ row_at n i))
    (λ (l : j < n). get_or-append (triangle n) (row n) 0 (length (triangle j) + i) (inside n j i l k) ∙ ih l k)
    (eq-or-lt_of_le (le_of_suc-le-suc h))

-- where C(j, i) stands
pub place : (n j i : ℕ) → j < n → i ≤ j → j * (j + 1) / 2 + i < length (triangle n)
place n j i h k = let e = start j in let f = inside n j i h k in omega arith

-- and that it stands there
pub at : (n j i : ℕ) → j < n → i ≤ j → get_or (triangle n) (j * (j + 1) / 2 + i) 0 ≡ choose j i
at n j i h k = ap (λ (x : ℕ). get_or (triangle n) (x + i) 0) (start j) ∙ entry n j i h k

-- Pascal's rule at each entry of the table
pub pascal : (n j i : ℕ) → suc j < n → i < j
    → get_or (triangle n) (suc j * (suc j + 1) / 2 + suc i) 0 ≡ get_or (triangle n) (j * (j + 1) / 2 + i) 0 + get_or (triangle n) (j * (j + 1) / 2 + suc i) 0
unfolding choose
pascal n j i h k = at n (suc j) (suc i) h (omega arith) ∙ sym (ap₂ ◌+◌ (at n j i (omega arith) (omega arith)) (at n j (suc i) (omega arith) k))
