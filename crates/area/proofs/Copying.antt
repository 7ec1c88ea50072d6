-- A loop that copies one list over the front of another, one store a turn.
--
--   copy_more     after n + 1 turns
use mathlib.Core.Path.{◌≡◌, refl, ap}
use mathlib.Core.List.{List, [], ◌∷◌, ◌++◌}
use Prim.Native.Nat.{ℕ, zero, suc, ◌+◌, ◌<◌}
use native.Mathlib.Nat.{not-suc-le-zero, le_of_suc-le-suc}
use native.Mathlib.Numerals.{add-one}
use lib.ListN.{length, set, take, drop, get_or}

copy_suc : (n : ℕ) (s d : List ℕ) → n < length s → n < length d → set (take n s ++ drop n d) n (get_or s n 0) ≡ take (suc n) s ++ drop (suc n) d
copy_suc n [] d ls ld = absurd (not-suc-le-zero ls)
copy_suc n (x ∷ s) [] ls ld = absurd (not-suc-le-zero ld)
copy_suc zero (x ∷ s) (y ∷ d) ls ld = refl
copy_suc (suc n) (x ∷ s) (y ∷ d) ls ld = ap (λ (t : List ℕ). x ∷ t) (copy_suc n s d (le_of_suc-le-suc ls) (le_of_suc-le-suc ld))

pub copy_more : (n : ℕ) (s d : List ℕ) → n < length s → n < length d → set (take n s ++ drop n d) n (get_or s n 0) ≡ take (n + 1) s ++ drop (n + 1) d
copy_more n s d ls ld = rw (add-one n) (copy_suc n s d ls ld)
