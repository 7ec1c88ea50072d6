-- An area read back: what was written into it is handed out again, part by part.
--
--   Fills p, part_fills     p fills a place and is not all zero; so does every part of a chain
--   zero_at, zeros          every word of what is all zero; a list of zeros is all zero
--   part-full, part_empty   a part that is handed out, and one that is not, by the words of its place
--   place_after             the words of place k, after those of the places before it
--   fills_full              parts that fill their places, one after the other
--   read_back               the parts that were written are handed out
--   written-long            an area is as long as it was
--   read_past               and after the last of them nothing
--   parts-handed            so parts of a chain that were written are what the area hands out
use mathlib.Core.Path.{◌≡◌, refl, sym, ap, ap₂, ◌∙◌}
use mathlib.Core.Bool.{Bool, true, false, and-eq-true_iff}
use mathlib.Core.List.{List, [], ◌∷◌, ◌++◌, append_assoc}
use Prim.Native.Nat.{ℕ, zero, suc, ◌+◌, ◌*◌, ◌-◌, ◌%◌, ◌≤◌, ◌<◌}
use native.Mathlib.Nat as N
use native.Mathlib.Omega.{arith}
use native.Mathlib.Decide.{dec_lt}
use borrow.Author.Tests.{eqb-true, lt-ltb, le-leb}
use lib.Dec.{eqb}
use lib.ListN.{length, take, drop, replicate, length-append, length-drop, length-replicate, replicate-append-replicate}
use lib.Seq.{take_at, drop_at, drop-drop, drop-append-add}
use Rattle.algebra.specs.Polynomial.{coef, degree, terms}
use Rattle.algebra.specs.Chain.{part, Part}
use Rattle.area.specs.Area.{most_parts, area_words, start, place, cleared, laid, written, all_zero, part_of, handed_out}
use Rattle.area.proofs.Handing.{past}
use Rattle.area.proofs.Laying.{Full, laid_none, laid_more}

-- so many words as a place has, and not all zero
pub record Fills (p : List ℕ) : Type 0 where
  pub long : length p ≡ terms
  pub some : all_zero p ≡ false

-- every part does
abbrev pub EachFills : List (List ℕ) → Type 0
EachFills parts = (i : ℕ) → i < length parts → Fills (part parts i)

-- every word of it is zero
pub zero_at : (p : List ℕ) → all_zero p ≡ true → (i : ℕ) → coef p i ≡ 0
unfolding all_zero
zero_at [] e i = refl
zero_at (x ∷ p) e zero = eqb-true x 0 ((and-eq-true_iff (eqb x 0) (all_zero p)).0 e).0
zero_at (x ∷ p) e (suc i) = zero_at p ((and-eq-true_iff (eqb x 0) (all_zero p)).0 e).1 i

-- a part of a chain has a coefficient 1
pub part_fills : {m : ℕ} {p : List ℕ} → 2 ≤ m → Part m p → Fills p
part_fills {m} {p} two x = record { long = x.reduced.long; some = go (all_zero p) refl }
  where
    go : (b : Bool) → all_zero p ≡ b → all_zero p ≡ false
    go false e = e
    go true e = let z = sym (N.zero-mod m) ∙ ap (λ (c : ℕ). c % m) (sym (zero_at p e (degree p))) ∙ x.monic.top ∙ N.mod-eq_of_lt two in absurd (omega arith)

pub zeros : (n : ℕ) → all_zero (replicate n 0) ≡ true
unfolding all_zero
zeros zero = refl
zeros (suc n) = zeros n

-- the words of place k, after those of the places before it
pub place_after : (a p rest : List ℕ) (k : ℕ) → length a ≡ start k → length p ≡ terms → place (a ++ (p ++ rest)) k ≡ p
place_after a p rest k la lp = ap (take terms) (drop_at a (p ++ rest) (start k) la) ∙ take_at p rest terms lp

module _ (xs : List ℕ) (i : ℕ) (h : i < most_parts) (l : area_words ≤ length xs) {p : List ℕ} (e : place xs i ≡ p) where
  pub part-full : all_zero p ≡ false → part_of xs i ≡ p
  unfolding part_of
  part-full z = simp (lt-ltb _ _ h, le-leb _ _ l, e, z)

  pub part_empty : all_zero p ≡ true → part_of xs i ≡ []
  unfolding part_of
  part_empty z = simp (lt-ltb _ _ h, le-leb _ _ l, e, z)

pub fills_full : (parts : List (List ℕ)) → EachFills parts → Full parts
fills_full [] f = laid_none
fills_full (p ∷ parts) f = laid_more p (f zero (omega arith)).long (fills_full parts (λ i l. f (suc i) (omega arith)))

-- parts that are laid at the front of an area are handed out
read-laid : (parts : List (List ℕ)) (rest ys : List ℕ) → EachFills parts → length parts ≤ most_parts
    → ys ≡ laid parts ++ rest → area_words ≤ length ys → handed_out ys (length parts) ≡ parts
unfolding handed_out laid
read-laid [] rest ys f l e room = refl
read-laid (p ∷ parts) rest ys f l e room =
    let others : EachFills parts = λ i h. f (suc i) (omega arith) in
    let first = f zero (omega arith) in
    let next = e ∙ append_assoc (laid parts) p rest in
    let here = ap (λ (a : List ℕ). place a (length parts)) next ∙ place_after (laid parts) p rest (length parts) (fills_full parts others).long first.long in
    ap₂ ◌∷◌ (part-full ys (length parts) (omega arith) room here first.some) (read-laid parts (p ++ rest) ys others (omega arith) next room)

cleared-long : (xs : List ℕ) → area_words ≤ length xs → length (cleared xs) ≡ length xs
unfolding cleared
cleared-long xs l = simp (length-append, length-replicate, length-drop) (omega arith)

-- a place of a cleared area
cleared-place : (xs : List ℕ) (i : ℕ) → i < most_parts → place (cleared xs) i ≡ replicate terms 0
unfolding cleared area_words
cleared-place xs i h = ap (λ (a : List ℕ). place (a ++ drop area_words xs) i) front ∙ ap (λ (a : List ℕ). place a i) (append_assoc (replicate (start i) 0) _ _ ∙ ap (λ (a : List ℕ). replicate (start i) 0 ++ a) (append_assoc (replicate terms 0) _ _))
    ∙ place_after (replicate (start i) 0) (replicate terms 0) (replicate (most_parts * terms - (start i + terms)) 0 ++ drop area_words xs) i (length-replicate (start i) 0) (length-replicate terms 0)
  where
    fits : start i + (terms + (most_parts * terms - (start i + terms))) ≡ most_parts * terms
    fits = omega (arith, N.mul-le-mul_right terms h)

    front : replicate {A = ℕ} area_words 0 ≡ replicate (start i) 0 ++ (replicate terms 0 ++ replicate (most_parts * terms - (start i + terms)) 0)
    front = ap (λ (n : ℕ). replicate n 0) (sym fits) ∙ sym (replicate-append-replicate (start i) _ 0) ∙ ap (λ (a : List ℕ). replicate (start i) 0 ++ a) (sym (replicate-append-replicate terms _ 0))

module _ (xs : List ℕ) (parts : List (List ℕ)) (f : EachFills parts) (most : length parts ≤ most_parts) (room : area_words ≤ length xs) where
  within : length (laid parts) ≤ length xs
  unfolding area_words
  within = omega (arith, (fills_full parts f).long, N.mul-le-mul_right terms most)

  pub written-long : length (written xs parts) ≡ length xs
  unfolding written
  written-long = simp (length-append, length-drop, cleared-long xs room) (omega (arith, within))

  -- the parts that were written are handed out
  pub read_back : handed_out (written xs parts) (length parts) ≡ parts
  unfolding written
  read_back = read-laid parts (drop (length (laid parts)) (cleared xs)) (written xs parts) f most refl (omega (arith, written-long))

  -- an unused place is zero
  unused : (i : ℕ) → length parts ≤ i → i < most_parts → place (written xs parts) i ≡ replicate terms 0
  unfolding written
  unused i u h = ap (take terms) skipped ∙ cleared-place xs i h
    where
      on : length (laid parts) + (start i - length (laid parts)) ≡ start i
      on = omega (arith, (fills_full parts f).long, N.mul-le-mul_right terms u)

      skipped : drop (start i) (laid parts ++ drop (length (laid parts)) (cleared xs)) ≡ drop (start i) (cleared xs)
      skipped = ap (λ (n : ℕ). drop n (laid parts ++ drop (length (laid parts)) (cleared xs))) (sym on) ∙ drop-append-add (laid parts) _ _ ∙ drop-drop _ (length (laid parts)) (cleared xs) ∙ ap (λ (n : ℕ). drop n (cleared xs)) on

  -- and after the last of them nothing
  pub read_past : (i : ℕ) → length parts ≤ i → part_of (written xs parts) i ≡ []
  read_past i u = go (dec_lt i most_parts)
    where
      go : Dec (i < most_parts) → part_of (written xs parts) i ≡ []
      go (yes h) = part_empty (written xs parts) i h (omega (arith, written-long)) (unused i u h) (zeros terms)
      go (no h) = sym (past (written xs parts) i (omega arith))

-- parts of a chain that were written, read back
pub parts-handed : {m k : ℕ} {ys : List ℕ} (xs : List ℕ) (parts : List (List ℕ)) → 2 ≤ m → ((i : ℕ) → i < length parts → Part m (part parts i)) → length parts ≤ most_parts
    → area_words ≤ length xs → ys ≡ written xs parts → k ≡ length parts → (handed_out ys k ≡ parts) × ((i : ℕ) → k ≤ i → part_of ys i ≡ [])
parts-handed xs parts two is most room a e =
    let fills : EachFills parts = λ i l. part_fills two (is i l) in
    (rw (a, e) (read_back xs parts fills most room), λ i h. rw a (read_past xs parts fills most room i (omega arith)))
