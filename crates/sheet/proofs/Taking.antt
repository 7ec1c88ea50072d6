-- What the checks of the reader and the writer let pass.
--
--   held-long, area-long    how long they are
--   cleared-filled          an area that is filled so far, cleared, is the area cleared
--   place-taken             place i of a filled area is the polynomial of place i of the sheet
--   placed_unused, placed_used     1 to 4 of a record, by the test of its words
--   used-first              the first place is used
--   accepted-used           what is accepted is used
--   record_accepted         a used record that passes 1 to 4 is accepted
--   used-held               and its polynomial is used exactly if the record is
--   records_rising, records_parted, sheet_modulus     so the sheet's polynomials are parts, by its modulus
--   part-accepted, parts_parted     the parts of an area that passes 1 and 2 to 4
--   rising_ext, parted_ext  what depends on the polynomials of the places only
use mathlib.Core.Path.{◌≡◌, refl, sym, ap, ap₂, subst, ◌∙◌}
use mathlib.Core.Bool.{Bool, true, false, not, ◌&&◌}
use mathlib.Core.List.{List, ◌∷◌, ◌++◌}
use Prim.Native.Nat.{ℕ, ◌*◌, ◌≤◌, ◌<◌}
use native.Mathlib.Omega.{arith}
use borrow.Author.Tests.{eqb-true, not-false}
use lib.Dec.{eqb}
use lib.ListN.{length, drop, replicate}
use Rattle.algebra.specs.Polynomial.{limit, terms, degree}
use Rattle.algebra.specs.Chain.{Part}
use Rattle.refusal.specs.Refusal.{Outcome, Answered, ◌then◌, refuse}
use Rattle.refusal.specs.declared.Concerns.TheVariants.{Neither, Place}
use Rattle.refusal.specs.declared.Reason.TheVariants.{Sheet}
use Rattle.refusal.proofs.Outcomes.{then_both, refuse-answered}
use Rattle.polynomial.specs.Moduli.{modulus, check_modulus}
use Rattle.polynomial.specs.Checks.{check_polynomial, Accepted}
use Rattle.polynomial.proofs.Acceptance.{accepted-above, accepted-polynomial, degree-fits}
use Rattle.area.specs.Area.{most_parts, area_words, place, cleared, all_zero}
use Rattle.area.proofs.Reading.{part_fills}
use Rattle.record.specs.Record.{word, record_bytes, coefficients}
use Rattle.record.proofs.Answers.{coefficients-long}
use Rattle.sheet.specs.Sheet.{record_at, used, joined, held, area_of, Parted}
use Rattle.sheet.specs.Checks.{in_order, check_order, check_words, check_placed, check_records, check_moduli, check_part, check_parts}
use Rattle.sheet.specs.Steps.{Rising}
use Rattle.sheet.proofs.Joining.{joined_length, joined-past, piece}
use Rattle.sheet.proofs.Checking.{each_at}
use Rattle.sheet.proofs.Words.{blank_held, used-words}
use Rattle.sheet.proofs.Handing.{place-long}

pub held-long : (b : List ℕ) (i : ℕ) → length (held b i) ≡ terms
held-long b i = coefficients-long (record_at b i)

pub area-long : (b : List ℕ) → length (area_of b) ≡ area_words
unfolding area_of area_words
area-long b = joined_length (held b) terms (held-long b) most_parts

-- an area that is filled so far, cleared
pub cleared-filled : (b xs : List ℕ) (n : ℕ) → n ≤ most_parts → cleared (joined n (held b) ++ drop (n * terms) xs) ≡ cleared xs
unfolding cleared area_words
cleared-filled b xs n l = ap (λ (a : List ℕ). replicate area_words 0 ++ a) (joined-past (held b) terms (held-long b) n most_parts xs l)

-- place i of a filled area
pub place-taken : (b rest : List ℕ) (i : ℕ) → i < most_parts → place (area_of b ++ rest) i ≡ held b i
unfolding area_of
place-taken b rest i l = piece (held b) terms (held-long b) most_parts i rest l

-- the first place is used
pub used-first : (u : ℕ → Bool) → check_order u ≡ Answered → u 0 ≡ true
unfolding check_order most_parts
used-first u e = not-false _ (refuse-answered _ _ _ (each_at (λ i. refuse (not (in_order u i)) Neither Sheet) most_parts e 0 (omega arith)))

accepted-part : {m : ℕ} {p : List ℕ} → Accepted m p → Part m p
accepted-part a = record { reduced = a.reduced; monic = a.monic; two = a.two }

-- what is accepted is used
accepted-used : {m : ℕ} {p : List ℕ} → Accepted m p → used p ≡ true
accepted-used a = ap not (part_fills (accepted-above a) (accepted-part a)).some

-- 1 to 4 of a record, by its words
module _ (r : List ℕ) (i : ℕ) (long : length r ≡ record_bytes) {w : ℕ} {f : List ℕ} (w-is : w ≡ word r 0) (f_is : f ≡ coefficients r) {t : Bool} (t_is : t ≡ all_zero (w ∷ f)) where
  tested : t ≡ all_zero r
  tested = t_is ∙ ap₂ (λ (w : ℕ) (f : List ℕ). all_zero (w ∷ f)) w-is f_is ∙ used-words r long

  pub placed_unused : t ≡ true → Answered ≡ check_placed r i
  unfolding check_placed
  placed_unused h = simp (← tested, h)

  pub placed_used : t ≡ false → {o : Outcome} → o ≡ check_words w f i → o ≡ check_placed r i
  unfolding check_placed
  placed_used h e = simp (← tested, h) (e ∙ ap₂ (λ (w : ℕ) (f : List ℕ). check_words w f i) w-is f_is)

module _ (r : List ℕ) (i : ℕ) (passes : check_placed r i ≡ Answered) where
  -- a used record that passes 1 to 4
  pub record_accepted : used r ≡ true → Accepted (modulus (word r 0)) (coefficients r)
  unfolding check_placed check_words
  record_accepted u =
      let m = modulus (word r 0) in
      let e : (check_modulus m then check_polynomial (Place i) m (coefficients r)) ≡ Answered = simp u at passes in
      let (one, others) = then_both (check_modulus m) _ e in
      accepted-polynomial (Place i) (coefficients-long r) one others

  -- its polynomial is used exactly if it is
  pub used-held : used (coefficients r) ≡ used r
  used-held = go (all_zero r) refl
    where
      go : (t : Bool) → all_zero r ≡ t → used (coefficients r) ≡ not t
      go true e = ap not (blank_held r e)
      go false e = accepted-used (record_accepted (ap not e))

module _ (b : List ℕ) (passes : check_records b ≡ Answered) where
  record_passes : (i : ℕ) → i < most_parts → check_placed (record_at b i) i ≡ Answered
  unfolding check_records
  record_passes i l = each_at (λ i. check_placed (record_at b i) i) most_parts passes i l

  pub used-same : (i : ℕ) → i < most_parts → used (held b i) ≡ used (record_at b i)
  used-same i l = used-held (record_at b i) i (record_passes i l)

  held-accepted : (i : ℕ) → i < most_parts → used (record_at b i) ≡ true → Accepted (modulus (word (record_at b i) 0)) (held b i)
  held-accepted i l u = record_accepted (record_at b i) i (record_passes i l) u

  pub records_rising : Rising (held b)
  records_rising = record {
    some = λ i l u. let a = (held-accepted i l (sym (used-same i l) ∙ u)).two in omega arith;
    most = λ i l u. degree-fits (held-accepted i l (sym (used-same i l) ∙ u));
  }

  module _ (moduli : check_moduli b ≡ Answered) where
    -- every used record has the modulus of the first
    pub same_modulus : (i : ℕ) → i < most_parts → used (record_at b i) ≡ true → word (record_at b i) 0 ≡ word b 0
    unfolding check_moduli
    same_modulus i l u =
        let c : ℕ → _ = λ i. refuse (used (record_at b i) && not (eqb (word (record_at b i) 0) (word b 0))) Neither Sheet in
        let e : refuse (not (eqb (word (record_at b i) 0) (word b 0))) Neither Sheet ≡ Answered = simp u at (each_at c most_parts moduli i l) in
        eqb-true _ _ (not-false _ (refuse-answered _ _ _ e))

    pub shared-accepted : (i : ℕ) → i < most_parts → used (record_at b i) ≡ true → Accepted (modulus (word b 0)) (held b i)
    shared-accepted i l u = subst (λ (w : ℕ). Accepted (modulus w) (held b i)) (same_modulus i l u) (held-accepted i l u)

    pub records_parted : Parted (modulus (word b 0)) (held b)
    records_parted = record { is = λ i l u. accepted-part (shared-accepted i l (sym (used-same i l) ∙ u)) }

    pub sheet_modulus : check_order (λ i. used (record_at b i)) ≡ Answered → check_modulus (modulus (word b 0)) ≡ Answered
    unfolding most_parts
    sheet_modulus o = (shared-accepted 0 (omega arith) (used-first (λ i. used (record_at b i)) o)).modulus

-- the parts of an area that passes 1 and 2 to 4
module _ {m : ℕ} (xs : List ℕ) (room : area_words ≤ length xs) (one : check_modulus m ≡ Answered) (parts : check_parts m xs ≡ Answered) where
  pub part-accepted : (i : ℕ) → i < most_parts → used (place xs i) ≡ true → Accepted m (place xs i)
  unfolding check_parts check_part
  part-accepted i l u =
      let e : check_polynomial (Place i) m (place xs i) ≡ Answered = simp u at (each_at (λ i. check_part m (place xs i) i) most_parts parts i l) in
      accepted-polynomial (Place i) (place-long xs i l room) one e

  pub parts_parted : Parted m (place xs)
  parts_parted = record { is = λ i l u. accepted-part (part-accepted i l u) }

pub rising_ext : {g h : ℕ → List ℕ} → ((i : ℕ) → i < most_parts → g i ≡ h i) → Rising g → Rising h
rising_ext e r = record {
  some = λ i l u. let z = e i l in subst (λ (p : List ℕ). 1 ≤ degree p) z (r.some i l (ap used z ∙ u));
  most = λ i l u. let z = e i l in subst (λ (p : List ℕ). degree p ≤ limit) z (r.most i l (ap used z ∙ u));
}

pub parted_ext : {m : ℕ} {g h : ℕ → List ℕ} → ((i : ℕ) → i < most_parts → g i ≡ h i) → Parted m g → Parted m h
parted_ext {m} e r = record { is = λ i l u. let z = e i l in subst (λ (p : List ℕ). Part m p) z (r.is i l (ap used z ∙ u)) }
