-- The answers of the writer and the reader, by the tests that the code makes.
--
--   room, roomy                   past No. 11 there is room, and where there is room it passes
--   records-first, twelve_first   the reader's order
--   room-first, modulus_next, order_next, parts_next     the writer's order
--   sheet_passes, area_passes     what a sheet, and an area, that passes its checks has passed
--   product-within                past No. 10 the product is within the limit
--   write_short, write_refused, write_made              each return of the writer
--   filled-used, filled_rising, filled-composes         what the steps of the reader ask of a filled area
--   records_stopped, rest_stopped, sheet_taken          what the reader has taken, by its checks
--   read_short, read_refused                            each refusal of the reader
use Rattle.std.specs.Prelude.{Result, Ok, Err}
use Rattle.std.specs.Result.{is_err}
use mathlib.Core.Path.{◌≡◌, refl, sym, ap, ap₂, ◌∙◌}
use mathlib.Core.Bool.{true, false≢true}
use mathlib.Core.List.{List, ◌++◌}
use Prim.Native.Nat.{ℕ, ◌≤◌, ◌<◌}
use borrow.Author.Tests.{ltb-false, le-ltb}
use lib.Dec.{ltb}
use lib.ListN.{length, drop}
use Rattle.algebra.specs.Polynomial.{limit, reduced}
use Rattle.algebra.specs.Chain.{composed, degrees, product}
use Rattle.refusal.specs.Refusal.{Outcome, Answered, Refused, ◌then◌, is_refused}
use Rattle.refusal.specs.declared.Refusal.{Refusal}
use Rattle.refusal.proofs.Outcomes.{then_refused, then_both, then_assoc, refuse-answered}
use Rattle.polynomial.specs.Moduli.{modulus, check_modulus}
use Rattle.polynomial.proofs.Acceptance.{neither}
use Rattle.area.specs.Area.{most_parts, area_words, place, cleared}
use Rattle.record.specs.Record.{word}
use Rattle.sheet.specs.Sheet.{sheet_bytes, record_at, used, sheet_of, held, area_of, parts_in}
use Rattle.sheet.specs.Checks.{check_room, check_order, check_records, check_moduli, check_parts, check_product, check_sheet, check_area, check_writer}
use Rattle.sheet.specs.declared.Sheet.{Sheet}
use Rattle.sheet.specs.Answers.{unread, contents_of, ReadsSheet, WritesSheet}
use Rattle.sheet.specs.Answers as of
use Rattle.sheet.specs.Steps.{Taken, TakesSheet, Used, Rising, Composes}
use Rattle.sheet.specs.Steps as steps
use Rattle.sheet.proofs.Checking.{parts_ext, product_ext}
use Rattle.sheet.proofs.Taking.{place-taken, used-same, records_rising, records_parted, sheet_modulus, rising_ext, parted_ext}

-- past No. 11 there is room
pub room : (n k : ℕ) → check_room n k ≡ Answered → (sheet_bytes ≤ n) × (area_words ≤ k)
unfolding check_room
room n k h = let (a, b) = neither (ltb n sheet_bytes) (ltb k area_words) (refuse-answered _ _ _ h) in (ltb-false _ _ a, ltb-false _ _ b)

-- and where there is room, No. 11 passes
pub roomy : {n k : ℕ} → sheet_bytes ≤ n → area_words ≤ k → check_room n k ≡ Answered
unfolding check_room
roomy {n} {k} h l = simp (le-ltb n sheet_bytes h, le-ltb k area_words l)

-- the reader's order: a record's own 1 to 4 come before 12
pub records-first : (b : List ℕ) → is_refused (check_records b) ≡ true → check_sheet b ≡ check_records b
unfolding check_sheet
records-first b h = then_refused _ h

-- and 12 comes before 10
pub twelve_first : (b : List ℕ) → check_records b ≡ Answered → is_refused (check_order (λ i. used (record_at b i)) then check_moduli b) ≡ true
    → check_sheet b ≡ (check_order (λ i. used (record_at b i)) then check_moduli b)
unfolding check_sheet
twelve_first b e h =
    ap (λ (o : Outcome). o then check_order (λ i. used (record_at b i)) then check_moduli b then check_product (held b)) e
    ∙ sym (then_assoc (check_order (λ i. used (record_at b i))) (check_moduli b) (check_product (held b))) ∙ then_refused (check_product (held b)) h

-- the writer's order: 11, 1, 12, each used part's 2 to 4, 10
pub room-first : (w : ℕ) (xs b : List ℕ) → is_refused (check_room (length b) (length xs)) ≡ true → check_writer w xs b ≡ check_room (length b) (length xs)
unfolding check_writer
room-first w xs b h = then_refused _ h

module _ (w : ℕ) (xs : List ℕ) where
  pub modulus_next : is_refused (check_modulus (modulus w)) ≡ true → check_area w xs ≡ check_modulus (modulus w)
  unfolding check_area
  modulus_next h = then_refused _ h

  module _ (one : check_modulus (modulus w) ≡ Answered) where
    pub order_next : is_refused (check_order (λ i. used (place xs i))) ≡ true → check_area w xs ≡ check_order (λ i. used (place xs i))
    unfolding check_area
    order_next h = simp one (then_refused _ h)

    pub parts_next : check_order (λ i. used (place xs i)) ≡ Answered → is_refused (check_parts (modulus w) xs) ≡ true → check_area w xs ≡ check_parts (modulus w) xs
    unfolding check_area
    parts_next e h = simp (one, e) (then_refused _ h)

pub sheet_passes : (b : List ℕ) → check_sheet b ≡ Answered
    → (check_records b ≡ Answered) × (check_order (λ i. used (record_at b i)) ≡ Answered) × (check_moduli b ≡ Answered) × (check_product (held b) ≡ Answered)
unfolding check_sheet
sheet_passes b h =
    let (x, r) = then_both (check_records b) _ h in
    let (y, s) = then_both (check_order (λ i. used (record_at b i))) _ r in
    let (z, w) = then_both (check_moduli b) _ s in
    (x, y, z, w)

pub area_passes : (w : ℕ) (xs : List ℕ) → check_area w xs ≡ Answered
    → (check_modulus (modulus w) ≡ Answered) × (check_order (λ i. used (place xs i)) ≡ Answered) × (check_parts (modulus w) xs ≡ Answered) × (check_product (place xs) ≡ Answered)
unfolding check_area
area_passes w xs h =
    let (x, r) = then_both (check_modulus (modulus w)) _ h in
    let (y, s) = then_both (check_order (λ i. used (place xs i))) _ r in
    let (z, v) = then_both (check_parts (modulus w) xs) _ s in
    (x, y, z, v)

pub product-within : (g : ℕ → List ℕ) → check_product g ≡ Answered → product (degrees (parts_in g most_parts)) ≤ limit
unfolding check_product
product-within g h = ltb-false _ _ (refuse-answered _ _ _ h)

module _ (w : ℕ) (xs b : List ℕ) where
  -- 11
  pub write_short : {r : Refusal} → check_room (length b) (length xs) ≡ Refused r → WritesSheet w xs b b (Refused r)
  unfolding check_writer
  write_short e = of.refused (simp e) refl refl

  module _ (fits : check_room (length b) (length xs) ≡ Answered) where
    -- any other
    pub write_refused : {r : Refusal} → check_area w xs ≡ Refused r → WritesSheet w xs b b (Refused r)
    unfolding check_writer
    write_refused e = of.refused (simp fits e) refl refl

    -- none
    pub write_made : check_area w xs ≡ Answered → {c : List ℕ} → c ≡ sheet_of w xs ++ drop sheet_bytes b → WritesSheet w xs b c Answered
    unfolding check_writer
    write_made e q = of.made (simp fits e) q refl

-- a filled area
module _ (b xs : List ℕ) {zs : List ℕ} (z_is : zs ≡ area_of b ++ drop area_words xs) where
  filled : (i : ℕ) → i < most_parts → held b i ≡ place zs i
  filled i l = sym (ap (λ (x : List ℕ). place x i) z_is ∙ place-taken b (drop area_words xs) i l)

  module _ (records : check_records b ≡ Answered) where
    -- has the used places of the sheet
    filled-used : Used b zs
    filled-used = record { is = λ i l. ap used (sym (filled i l)) ∙ used-same b records i l }

    filled_rising : Rising (place zs)
    filled_rising = rising_ext filled (records_rising b records)

  filled-product : check_product (place zs) ≡ check_product (held b)
  filled-product = product_ext (place zs) (held b) (λ i l. sym (filled i l))

  -- what the composition asks
  pub filled-composes : check_sheet b ≡ Answered → (check_modulus (modulus (word b 0)) ≡ Answered) × Composes (modulus (word b 0)) (place zs)
  filled-composes h =
      let (x, y, z, w) = sheet_passes b h in
      (sheet_modulus b x z y, record { parts = parted_ext filled (records_parted b x z); within = product-within (place zs) (filled-product ∙ w) })

  filled-composition : {f : List ℕ} {m w : ℕ} → w ≡ word b 0 → m ≡ modulus w → f ≡ reduced m (composed (parts_in (place zs) most_parts))
      → f ≡ reduced (modulus (word b 0)) (composed (parts_in (held b) most_parts))
  filled-composition d e q = q ∙ ap₂ (λ (m : ℕ) (l : List (List ℕ)). reduced m (composed l)) (e ∙ ap modulus d) (parts_ext (place zs) (held b) most_parts (λ i l. sym (filled i l)))

-- what the steps of the reader have taken
module _ (b xs : List ℕ) {zs : List ℕ} where
  -- 1 to 4
  pub records_stopped : {r : Refusal} → Taken b xs zs (Refused r) → TakesSheet b xs zs (Err r)
  unfolding check_sheet
  records_stopped t = steps.refused (rw (← t.outcome) refl) t.past refl

  module _ (t : Taken b xs zs Answered) where
    z_is : zs ≡ area_of b ++ drop area_words xs
    z_is = t.filled refl

    pub taken-used : Used b zs
    taken-used = filled-used b xs z_is (sym t.outcome)

    pub taken_rising : Rising (place zs)
    taken_rising = filled_rising b xs z_is (sym t.outcome)

    -- the checks past 1 to 4, as they are made of the area
    module _ {o : Outcome} (rest : (check_order (λ i. used (record_at b i)) then check_moduli b then check_product (place zs)) ≡ o) where
      all : check_sheet b ≡ o
      unfolding check_sheet
      all = rw (← t.outcome, ← filled-product b xs z_is) rest

    -- 12 and 10
    pub rest_stopped : {r : Refusal} → (check_order (λ i. used (record_at b i)) then check_moduli b then check_product (place zs)) ≡ Refused r → TakesSheet b xs zs (Err r)
    rest_stopped e = steps.refused (all e) t.past refl

    module _ (rest : (check_order (λ i. used (record_at b i)) then check_moduli b then check_product (place zs)) ≡ Answered) where
      pub taken-composes : (check_modulus (modulus (word b 0)) ≡ Answered) × Composes (modulus (word b 0)) (place zs)
      taken-composes = filled-composes b xs z_is (all rest)

      -- none
      pub sheet_taken : {f : List ℕ} {m w : ℕ} → w ≡ word b 0 → m ≡ modulus w → f ≡ reduced m (composed (parts_in (place zs) most_parts))
          → TakesSheet b xs zs (Ok (record { modulus = w; polynomial = f }))
      sheet_taken d e k = steps.taken (all rest) z_is (simp (filled-composition b xs z_is d e k, d))

module _ (b xs : List ℕ) where
  -- 11
  pub read_short : {r : Refusal} → check_room (length b) (length xs) ≡ Refused r → ReadsSheet b xs xs (unread (Refused r))
  read_short e = of.short e refl refl

  module _ (fits : check_room (length b) (length xs) ≡ Answered) {zs : List ℕ} where
    -- any other, once the places are zeroed
    pub read_refused : {x : Result Sheet Refusal} → TakesSheet b xs zs x → is_err x ≡ true → {ys : List ℕ} → ys ≡ cleared zs → ReadsSheet b xs ys (contents_of x)
    read_refused (steps.refused e a q) h z = of.refused fits e (z ∙ a) (ap contents_of q)
    read_refused (steps.taken e a q) h z = absurd (false≢true (sym (ap is_err q) ∙ h))
