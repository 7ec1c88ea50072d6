-- The text of a line, put into a buffer piece by piece.
--
--   put-none, put-number     no numbers; the next number of a list, after a space
--   put_numbers, put-table   numbers after numbers; the next number of a table
--   table_last               a table and its last number
--   line-fields              the pieces of a line
use mathlib.Core.Path.{◌≡◌, refl, sym, ap}
use mathlib.Core.List.{List, [], ◌∷◌, ◌++◌, append_assoc, append-nil}
use Prim.Native.Nat.{ℕ, zero, suc, ◌+◌, ◌*◌, ◌<◌}
use native.Mathlib.Nat.{mul-suc}
use native.Mathlib.Numerals.{add-one}
use native.Mathlib.Omega.{arith}
use lib.ListN.{length, get_or, set, take}
use lib.Seq.{take-suc}
use Rattle.algebra.specs.Number.{table}
use Rattle.digits.specs.Digits.{most_digits, decimal, Put}
use Rattle.digits.proofs.Text.{put-nothing, put-append, put-most, put_byte}
use Rattle.listing.specs.Text.{space, newline, most_field, spaced, fields}

spaced-append : (l k : List ℕ) → spaced (l ++ k) ≡ spaced l ++ spaced k
unfolding spaced
spaced-append [] k = refl
spaced-append (x ∷ l) k = rw (spaced-append l k) (ap (λ (t : List ℕ). space ∷ t) (sym (append_assoc (decimal x) (spaced l) (spaced k))))

-- no numbers
pub put-none : (b : List ℕ) (at m : ℕ) → Put b at (spaced []) m b at
unfolding spaced
put-none b at m = put-nothing b at m

-- numbers after numbers
pub put_numbers : {b : List ℕ} {at m : ℕ} {x : List ℕ} {r j : ℕ} {y : List ℕ} {q : ℕ} (l k : List ℕ)
    → Put b at (spaced l) m x r → Put x r (spaced k) j y q → Put b at (spaced (l ++ k)) (m + j) y q
put_numbers l k one two = rw (spaced-append l k) (put-append one two)

-- the next number, after a space
one-number : {b y : List ℕ} {at q : ℕ} (n : ℕ) → Put (set b at space) (at + 1) (decimal n) most_digits y q → Put b at (spaced (n ∷ [])) most_field y q
unfolding spaced most_field
one-number {b} {at = at} n p = put-most {m = 1 + most_digits} (omega arith) (rw append-nil (put-append (put_byte b at space) p))

pub put-number : {b x y : List ℕ} {at r q i n : ℕ} (l : List ℕ) → i < length l → n ≡ get_or l i 0 → Put b at (spaced (take i l)) (most_field * i) x r
    → Put (set x r space) (r + 1) (decimal n) most_digits y q → Put b at (spaced (take (i + 1) l)) (most_field * (i + 1)) y q
put-number {i = i} {n} l h e one two =
    rw (add-one i, take-suc l i 0 h, ← e) (put-most (omega (arith, mul-suc most_field i)) (put_numbers (take i l) (n ∷ []) one (one-number n two)))

-- the numbers of a table, one more each turn
pub table_last : (n : ℕ) (f : ℕ → ℕ) → table (suc n) f ≡ table n f ++ (f n ∷ [])
unfolding table
table_last zero f = refl
table_last (suc n) f = ap (λ (l : List ℕ). f zero ∷ l) (table_last n (λ i. f (suc i)))

pub put-table : {b : List ℕ} {at : ℕ} {x : List ℕ} {r d : ℕ} {y : List ℕ} {q : ℕ} (i : ℕ) (f : ℕ → ℕ)
    → Put b at (spaced (table i f)) (most_field * i) x r → d ≡ f i → Put x r (spaced (d ∷ [])) (most_field * 1) y q
    → Put b at (spaced (table (i + 1) f)) (most_field * (i + 1)) y q
put-table {d = d} i f one e two = rw (add-one i, table_last i f, ← e) (put-most (omega (arith, mul-suc most_field i)) (put_numbers (table i f) (d ∷ []) one two))

-- a line
pub line-fields : (x : ℕ) (l k : List ℕ) → (decimal x ++ spaced l) ++ (spaced k ++ (newline ∷ [])) ≡ fields x (l ++ k)
unfolding fields
line-fields x l k = simp (spaced-append, append_assoc)
