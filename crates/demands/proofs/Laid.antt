-- The area that any valid parts are written into.
--
--   laid-room                 the area has room
--   laid_ones                 its used places are the first ones
--   laid-parts                and hold the parts
--   laid_passes               it passes the writer's checks
--   laid-composition          what it composes to
--   chain-parts               the parts of a chain are such, and compose to f as the desk holds it
use mathlib.Core.Path.{◌≡◌, refl, sym, ap, ap₂, subst, ◌∙◌}
use mathlib.Core.Bool.{Bool, true, false}
use mathlib.Core.Logic.{⊎_elim}
use mathlib.Core.List.{List, ◌∷◌}
use Prim.Native.Nat.{ℕ, zero, suc, ◌-◌, ◌≤◌, ◌<◌}
use native.Mathlib.Nat as N
use native.Mathlib.Omega.{arith}
use native.Mathlib.Decide.{dec_lt}
use borrow.Author.Tests.{lt-ltb, le-ltb, ltb-true}
use lib.Dec.{ltb}
use lib.ListN.{length}
use Rattle.algebra.specs.Polynomial.{limit, terms, reduced, Same, Reduced}
use Rattle.algebra.specs.Chain.{part, Part, composed, degrees, product}
use Rattle.algebra.proofs.Reduction.{reduced-reduced, reduced_equal}
use Rattle.algebra.proofs.Polynomials.{same_sym, ◌⨾◌}
use Rattle.refusal.specs.declared.Concerns.TheVariants.{Place}
use Rattle.refusal.specs.Refusal.{Answered}
use Rattle.polynomial.specs.Moduli.{modulus}
use Rattle.polynomial.proofs.Acceptance.{accepted-modulus, polynomial-accepted, degree-fits}
use Rattle.area.specs.Area.{most_parts, area_words, place, written, part_of, handed_out}
use Rattle.area.proofs.Reading.{EachFills, part_fills, written-long, read_back, read_past}
use Rattle.chain.specs.Chaining.{Chained}
use Rattle.demands.specs.Chains.{Complete}
use Rattle.demands.specs.Sheets.{ValidParts}
use Rattle.sheet.specs.Sheet.{used, parts_in}
use Rattle.sheet.specs.Checks.{check_part, check_parts, check_product, check_area, FirstOnes}
use Rattle.sheet.proofs.Checking.{each_all}
use Rattle.sheet.proofs.Composing.{parts_skip, parts-take, composed-same}
use Rattle.sheet.proofs.Handing.{empty_unused, handed-used, handed-place}
use Rattle.sheet.proofs.Trips.{exact_order}

-- the i-th place from the left is the (n - 1 - i)-th part from the right
handed-at : (xs : List ℕ) (n i : ℕ) → i < n → part_of xs i ≡ part (handed_out xs n) (n - 1 - i)
unfolding handed_out
handed-at xs zero i l = absurd (N.not-suc-le-zero l)
handed-at xs (suc n) i l =
    ⊎_elim
    (λ (e : i ≡ n). let z : suc n - 1 - i ≡ 0 = omega arith in rw z (ap (part_of xs) e))
    (λ (b : i < n). let z : suc n - 1 - i ≡ suc (n - 1 - i) = omega arith in rw z (handed-at xs n i b))
    (N.eq-or-lt_of_le (omega arith))

-- the used ones end where the others begin
parts-end : (g : ℕ → List ℕ) (k n : ℕ) → k ≤ n → ((i : ℕ) → k ≤ i → i < n → used (g i) ≡ false) → parts_in g n ≡ parts_in g k
parts-end g k zero l h = let e : k ≡ 0 = omega arith in ap (parts_in g) (sym e)
parts-end g k (suc n) l h =
    ⊎_elim
    (λ (e : k ≡ suc n). ap (parts_in g) (sym e))
    (λ (b : k < suc n). parts_skip g n (h n (omega arith) (omega arith)) ∙ parts-end g k n (omega arith) (λ i a c. h i a (omega arith)))
    (N.eq-or-lt_of_le l)

module _ {m : ℕ} {parts : List (List ℕ)} (p : ValidParts m parts) (ws : List ℕ) {xs : List ℕ} (before : area_words ≤ length ws) (is : xs ≡ written ws parts) where
  above : 1 < m
  above = (accepted-modulus p.modulus).above_one

  fills : EachFills parts
  fills i l = part_fills above (p.is i l)

  -- the area has room
  pub laid-room : area_words ≤ length xs
  laid-room = rw is (omega (arith, written-long ws parts fills p.most before))

  handed-part : (i : ℕ) → i < length parts → Part m (part_of xs i)
  handed-part i l =
      let e = handed-at xs (length parts) i l ∙ ap (λ (ps : List (List ℕ)). part ps (length parts - 1 - i)) (ap (λ (a : List ℕ). handed_out a (length parts)) is ∙ read_back ws parts fills p.most before) in
      subst (Part m) (sym e) (p.is (length parts - 1 - i) (omega arith))

  some_words : (i : ℕ) → i < length parts → ¬ (length (part_of xs i) ≡ 0)
  unfolding terms limit
  some_words i l e = let n = (handed-part i l).reduced.long in omega arith

  inside : {i : ℕ} → i < length parts → i < most_parts
  inside {i} l = omega (arith, p.most)

  used-here : (i : ℕ) → i < length parts → used (place xs i) ≡ true
  used-here i l = handed-used xs i (inside l) laid-room refl (some_words i l)

  unused_past : (i : ℕ) → length parts ≤ i → i < most_parts → used (place xs i) ≡ false
  unused_past i u l = empty_unused xs i l laid-room refl (ap length (ap (λ (a : List ℕ). part_of a i) is ∙ read_past ws parts fills p.most before i u))

  -- its used places are the first ones
  pub laid_ones : FirstOnes (λ i. used (place xs i)) (length parts)
  laid_ones = record { some = p.some; most = p.most; is = λ i l. go i l (dec_lt i (length parts)) }
    where
      go : (i : ℕ) → i < most_parts → Dec (i < length parts) → used (place xs i) ≡ ltb i (length parts)
      go i l (yes h) = used-here i h ∙ sym (lt-ltb i (length parts) h)
      go i l (no h) = unused_past i (omega arith) l ∙ sym (le-ltb i (length parts) (omega arith))

  handed-parts : (n : ℕ) → n ≤ length parts → parts_in (place xs) n ≡ handed_out xs n
  unfolding parts_in handed_out
  handed-parts zero l = refl
  handed-parts (suc n) l = parts-take (place xs) n (used-here n l) ∙ ap₂ ◌∷◌ (sym (handed-place xs n (inside l) laid-room refl (some_words n l))) (handed-parts n (omega arith))

  -- and hold the parts
  pub laid-parts : parts_in (place xs) most_parts ≡ parts
  laid-parts =
      parts-end (place xs) (length parts) most_parts p.most unused_past ∙ handed-parts (length parts) (N.le_refl _)
      ∙ ap (λ (a : List ℕ). handed_out a (length parts)) is ∙ read_back ws parts fills p.most before

  placed : (i : ℕ) → i < most_parts → used (place xs i) ≡ true → Part m (place xs i)
  placed i l u =
      let k = ltb-true i (length parts) (sym (laid_ones.is i l) ∙ u) in
      subst (Part m) (handed-place xs i l laid-room refl (some_words i k)) (handed-part i k)

  part-fine : (i : ℕ) → i < most_parts → check_part m (place xs i) i ≡ Answered
  unfolding check_part
  part-fine i l = go (used (place xs i)) refl
    where
      go : (t : Bool) → used (place xs i) ≡ t → check_part m (place xs i) i ≡ Answered
      go true e = let q = placed i l e in simp (e, polynomial-accepted (Place i) (record { modulus = p.modulus; reduced = q.reduced; monic = q.monic; two = q.two }))
      go false e = simp e

  fits : product (degrees (parts_in (place xs) most_parts)) ≤ limit
  fits = rw laid-parts p.within

  -- it passes the writer's checks
  pub laid_passes : (w : ℕ) → m ≡ modulus w → check_area w xs ≡ Answered
  unfolding check_area check_parts check_product
  laid_passes w e =
      simp (
        ← e,
        p.modulus,
        exact_order (λ i. used (place xs i)) laid_ones,
        each_all (λ i. check_part m (place xs i) i) most_parts part-fine,
        le-ltb limit (product (degrees (parts_in (place xs) most_parts))) fits,
      )

  -- what is the same as the composition of the parts, and reduced, is what the area composes to
  pub laid-composition : {f : List ℕ} → Reduced m f → Same m f (composed parts) → reduced m (composed (parts_in (place xs) most_parts)) ≡ f
  laid-composition r s =
      reduced_equal (reduced-reduced m (omega (arith, above)) _) r
      (same_sym (composed-same above (record { is = placed }) most_parts (omega arith) fits) ⨾ rw laid-parts (same_sym s))

-- the parts of a chain
pub chain-parts : {m : ℕ} {f ws xs : List ℕ} {x : Chained} {parts : List (List ℕ)} → Complete m f ws xs x parts → ValidParts m parts
chain-parts c = record { modulus = c.accepted.modulus; is = c.is_part; some = c.some; most = c.most; within = rw c.multiply (degree-fits c.accepted) }
