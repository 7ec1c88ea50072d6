-- Which part is handed out, by the tests that the code makes.
--
--   counted          the words of a place, as the code counts them
--   past, short      no such place; an area that is too short
--   zero, full       a place of zeros; any other
--   part_placed      a part that is not empty stands in a place
use mathlib.Core.Path.{◌≡◌, sym, ap}
use mathlib.Core.Bool.{Bool, true, false}
use mathlib.Core.List.{List, []}
use Prim.Native.Nat.{ℕ, ◌+◌, ◌-◌, ◌<◌, ◌≤◌}
use native.Mathlib.Omega.{arith}
use native.Mathlib.Decide.{dec_lt}
use borrow.Author.Tests.{lt-ltb, le-ltb, le-leb, lt-leb}
use lib.ListN.{length, take, drop}
use Rattle.algebra.specs.Polynomial.{terms}
use Rattle.area.specs.Area.{most_parts, area_words, start, place, all_zero, part_of}

-- the words of a place, from where it starts up to where it ends
pub counted : (xs : List ℕ) (i : ℕ) {s : ℕ} → s ≡ start i → take (s + terms - s) (drop s xs) ≡ place xs i
counted xs i {s} e = let k : s + terms - s ≡ terms = omega arith in rw (k, e)

module _ (xs : List ℕ) (i : ℕ) where
  pub past : most_parts ≤ i → [] ≡ part_of xs i
  unfolding part_of
  past h = simp (le-ltb _ _ h)

  pub short : i < most_parts → length xs < area_words → [] ≡ part_of xs i
  unfolding part_of
  short h l = simp (lt-ltb _ _ h, lt-leb _ _ l)

  module _ (h : i < most_parts) (l : area_words ≤ length xs) {s : ℕ} (s_is : s ≡ start i) (b : Bool) (e : b ≡ all_zero (take (s + terms - s) (drop s xs))) where
    pub zero : b ≡ true → [] ≡ part_of xs i
    unfolding part_of
    zero t = simp (lt-ltb _ _ h, le-leb _ _ l, ← counted xs i s_is, ← e, t)

    pub full : b ≡ false → take (s + terms - s) (drop s xs) ≡ part_of xs i
    unfolding part_of
    full t = simp (lt-ltb _ _ h, le-leb _ _ l, ← counted xs i s_is, ← e, t)

-- a part that is not empty stands in a place
pub part_placed : (xs : List ℕ) (i : ℕ) → ¬ (length (part_of xs i) ≡ 0) → i < most_parts
part_placed xs i h = go (dec_lt i most_parts)
  where
    go : Dec (i < most_parts) → i < most_parts
    go (yes l) = l
    go (no l) = let e : most_parts ≤ i = omega arith in absurd (h (sym (ap length (past xs i e))))
