-- The places of an area, as their parts are handed out.
--
--   place-long       how many words a place has
--   handed_test      its place is used exactly if its part is not empty
--   empty_unused     an empty part: its place is not used
--   handed-used, handed-place     any other: its place is used, and the part is the words of the place
use mathlib.Core.Path.{◌≡◌, refl, sym, ap, ◌∙◌}
use mathlib.Core.Bool.{Bool, true, false, not}
use mathlib.Core.List.{List}
use Prim.Native.Nat.{ℕ, ◌≤◌, ◌<◌}
use native.Mathlib.Omega.{arith}
use borrow.Author.Tests.{eq-eqb, ne_eqb, not-true}
use lib.Dec.{eqb}
use lib.ListN.{length}
use Rattle.algebra.specs.Polynomial.{limit, terms}
use Rattle.area.specs.Area.{most_parts, area_words, place, all_zero, part_of}
use Rattle.area.proofs.Reading.{part-full, part_empty}
use Rattle.sheet.specs.Sheet.{used}
use Rattle.sheet.proofs.Joining.{piece_long}

module _ (xs : List ℕ) (i : ℕ) (inside : i < most_parts) (room : area_words ≤ length xs) where
  pub place-long : length (place xs i) ≡ terms
  unfolding area_words
  place-long = piece_long terms most_parts i xs room inside

  module _ {p : List ℕ} (is : p ≡ part_of xs i) where
    none : all_zero (place xs i) ≡ true → length p ≡ 0
    none z = ap length (is ∙ part_empty xs i inside room refl z)

    whole : all_zero (place xs i) ≡ false → p ≡ place xs i
    whole z = is ∙ part-full xs i inside room refl z

    -- it is not empty
    words : all_zero (place xs i) ≡ false → ¬ (length p ≡ 0)
    unfolding terms limit
    words z e = let n = ap length (whole z) in omega (arith, place-long)

    -- the test that the code makes
    pub handed_test : not (eqb (length p) 0) ≡ used (place xs i)
    handed_test = go (all_zero (place xs i)) refl
      where
        go : (t : Bool) → all_zero (place xs i) ≡ t → not (eqb (length p) 0) ≡ not t
        go true z = ap not (eq-eqb (length p) 0 (none z))
        go false z = ap not (ne_eqb (length p) 0 (words z))

    -- an empty part
    pub empty_unused : length p ≡ 0 → used (place xs i) ≡ false
    empty_unused e = sym handed_test ∙ ap not (eq-eqb (length p) 0 e)

    module _ (some : ¬ (length p ≡ 0)) where
      -- the place of any other part is used
      pub handed-used : used (place xs i) ≡ true
      handed-used = sym handed_test ∙ ap not (ne_eqb (length p) 0 some)

      -- and the part is what stands there
      pub handed-place : p ≡ place xs i
      handed-place = whole (not-true _ handed-used)
