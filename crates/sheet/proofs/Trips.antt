-- A sheet from an area, and an area from a sheet.
--
--   Recorded w p r            r is what the part p becomes: used as it is, with its polynomial, and with the modulus word w
--   written_sheet             the sheet of an area that the writer accepts passes the reader's checks
--   written_use, written_held, written-modulus     and has the area's places in use, its parts, and the modulus word
--   taken-area                the area of a sheet that the reader accepts passes the writer's checks
--   taken-written             and its sheet has the same bytes
--   order_exact, exact_order  what passes No. 12 of the used places is that
use mathlib.Core.Path.{◌≡◌, refl, sym, ap, ap₂, subst, ◌∙◌}
use mathlib.Core.Bool.{Bool, true, false, not, ◌&&◌, ◌||◌, true≢false}
use mathlib.Core.Logic.{⊎_elim}
use mathlib.Core.List.{List, ◌++◌}
use Prim.Native.Nat.{ℕ, zero, suc, ◌*◌, ◌^◌, ◌≤◌, ◌<◌}
use native.Mathlib.Nat as N
use native.Mathlib.Omega.{arith}
use native.Mathlib.Decide.{dec_lt}
use borrow.Author.Tests.{lt-ltb, le-ltb, ltb-true, eq-eqb, not-false}
use lib.Dec.{ltb, eqb}
use lib.ListN.{length, take, replicate}
use lib.Seq.{get_or-take}
use Rattle.algebra.specs.Polynomial.{terms}
use Rattle.refusal.specs.Refusal.{refuse}
use Rattle.refusal.specs.declared.Concerns.TheVariants.{Neither, Place}
use Rattle.refusal.specs.declared.Reason.TheVariants.{Sheet}
use Rattle.refusal.specs.Refusal.{Answered}
use Rattle.refusal.proofs.Outcomes.{refuse-answered}
use Rattle.polynomial.specs.Moduli.{modulus}
use Rattle.polynomial.specs.Checks.{Accepted}
use Rattle.polynomial.proofs.Acceptance.{accepted-modulus, polynomial-accepted}
use Rattle.area.specs.Area.{most_parts, area_words, place, all_zero}
use Rattle.area.proofs.Reading as area
use Rattle.record.specs.Record.{word, record_bytes, coefficients}
use Rattle.record.proofs.Answers.{coefficients-long}
use Rattle.sheet.specs.Sheet.{sheet_bytes, record_at, used, record_of, recorded, sheet_of, held, area_of}
use Rattle.sheet.specs.Checks.{in_order, check_order, check_words, check_placed, check_records, check_moduli, check_part, check_parts, check_sheet, check_area, FirstOnes}
use Rattle.sheet.proofs.Zeros.{all_zeros}
use Rattle.sheet.proofs.Joining.{joined_ext, piece, piece_long, pieces}
use Rattle.sheet.proofs.Checking.{each_at, each_all, order_ext, product_ext}
use Rattle.sheet.proofs.Words.{Bytes, bytes_piece, recorded-none, recorded-some, recorded-long, word_record, coefficients_record, own_record, blank_held}
use Rattle.sheet.proofs.Handing.{place-long}
use Rattle.sheet.proofs.Taking.{used-first, place-taken, used-same, shared-accepted, same_modulus, sheet_modulus, part-accepted}
use Rattle.sheet.proofs.Answering.{sheet_passes, area_passes}

-- word 0 of a sheet is that of its first record
first_word : (b : List ℕ) → word (record_at b 0) 0 ≡ word b 0
unfolding word record_bytes terms
first_word b =
    rw (N.zero-mul record_bytes, get_or-take record_bytes b 0 0 (omega arith), get_or-take record_bytes b 1 0 (omega arith), get_or-take record_bytes b 2 0 (omega arith), get_or-take record_bytes b 3 0 (omega arith)) refl

-- what a part becomes
record Recorded (w : ℕ) (p r : List ℕ) : Type 0 where
  same_use : used r ≡ used p
  same-part : coefficients r ≡ p
  word-is : used p ≡ true → word r 0 ≡ w

-- a part, recorded
part-recorded : {w : ℕ} → w < 2 ^ 32 → (p : List ℕ) → length p ≡ terms → (used p ≡ true → Accepted (modulus w) p) → Recorded w p (recorded w p)
part-recorded {w} small p long acc = go (all_zero p) refl
  where
    again : (t : Bool) → all_zero (record_of w p) ≡ t → all_zero p ≡ false → coefficients (record_of w p) ≡ p → not t ≡ true
    again true e f q = absurd (true≢false (sym (blank_held (record_of w p) e) ∙ ap all_zero q ∙ f))
    again false e f q = refl

    go : (t : Bool) → all_zero p ≡ t → Recorded w p (recorded w p)
    go true e =
        let b = blank_held (replicate record_bytes 0) (area.zeros record_bytes) in
        let q : coefficients (replicate record_bytes 0) ≡ p
        = all_zeros _ b ∙ ap (λ (k : ℕ). replicate k 0) (coefficients-long (replicate record_bytes 0) ∙ sym long) ∙ sym (all_zeros p e) in
        subst (Recorded w p) (recorded-none w p (ap not e))
        (record { same_use = ap not (area.zeros record_bytes ∙ sym e); same-part = q; word-is = λ u. absurd (true≢false (sym u ∙ ap not e)) })
    go false e =
        let a = acc (ap not e) in
        let fits = (accepted-modulus a.modulus).fits in
        let q = coefficients_record w p long (λ i l. let z = a.reduced.below i l in omega arith) in
        subst (Recorded w p) (recorded-some w p (ap not e))
        (record { same_use = again (all_zero (record_of w p)) refl e q ∙ sym (ap not e); same-part = q; word-is = λ u. word_record w p 0 (omega arith) small })

-- the sheet of an area that the writer accepts
module _ {w : ℕ} (small : w < 2 ^ 32) (xs rest : List ℕ) (room : area_words ≤ length xs) (passes : check_area w xs ≡ Answered) where
  -- the sheet
  abbrev made : List ℕ
  made = sheet_of w xs ++ rest

  at_place : (i : ℕ) → i < most_parts → record_at made i ≡ recorded w (place xs i)
  unfolding sheet_of
  at_place i l = piece (λ i. recorded w (place xs i)) record_bytes (λ i. recorded-long w (place xs i)) most_parts i rest l

  used-accepted : (i : ℕ) → i < most_parts → used (place xs i) ≡ true → Accepted (modulus w) (place xs i)
  used-accepted i l u = let (a, b, c, d) = area_passes w xs passes in part-accepted xs room a c i l u

  at : (i : ℕ) → i < most_parts → Recorded w (place xs i) (record_at made i)
  at i l = subst (Recorded w (place xs i)) (sym (at_place i l)) (part-recorded small (place xs i) (place-long xs i l room) (used-accepted i l))

  -- has the places in use that the area has
  pub written_use : (i : ℕ) → i < most_parts → used (record_at made i) ≡ used (place xs i)
  written_use i l = (at i l).same_use

  -- holds its parts
  pub written_held : (i : ℕ) → i < most_parts → held made i ≡ place xs i
  written_held i l = (at i l).same-part

  pub written-modulus : word made 0 ≡ w
  unfolding most_parts
  written-modulus = let (a, b, c, d) = area_passes w xs passes in sym (first_word made) ∙ (at 0 (omega arith)).word-is (used-first (λ i. used (place xs i)) b)

  record_fine : (i : ℕ) → i < most_parts → (t : Bool) → used (place xs i) ≡ t → check_placed (record_at made i) i ≡ Answered
  unfolding check_placed check_words
  record_fine i l true e =
      let a = used-accepted i l e in
      simp (written_use i l ∙ e, (at i l).word-is e, (at i l).same-part, a.modulus, polynomial-accepted (Place i) a)
  record_fine i l false e = simp (written_use i l ∙ e)

  same-fine : (i : ℕ) → i < most_parts → (t : Bool) → used (place xs i) ≡ t → refuse (used (record_at made i) && not (eqb (word (record_at made i) 0) (word made 0))) Neither Sheet ≡ Answered
  same-fine i l true e = simp (written_use i l ∙ e, eq-eqb (word (record_at made i) 0) (word made 0) ((at i l).word-is e ∙ sym written-modulus))
  same-fine i l false e = simp (written_use i l ∙ e)

  -- passes the reader's checks
  pub written_sheet : check_sheet made ≡ Answered
  unfolding check_sheet check_records check_moduli
  written_sheet =
      let (a, b, c, d) = area_passes w xs passes in
      simp (
        each_all (λ i. check_placed (record_at made i) i) most_parts (λ i l. record_fine i l (used (place xs i)) refl),
        order_ext (λ i. used (record_at made i)) (λ i. used (place xs i)) written_use ∙ b,
        each_all (λ i. refuse (used (record_at made i) && not (eqb (word (record_at made i) 0) (word made 0))) Neither Sheet) most_parts (λ i l. same-fine i l (used (place xs i)) refl),
        product_ext (held made) (place xs) written_held ∙ d,
      )

-- the area of a sheet that the reader accepts
module _ (b rest : List ℕ) (room : sheet_bytes ≤ length b) (passes : check_sheet b ≡ Answered) where
  -- the area
  abbrev taken : List ℕ
  taken = area_of b ++ rest

  here : (i : ℕ) → i < most_parts → place taken i ≡ held b i
  here i l = place-taken b rest i l

  here-used : (i : ℕ) → i < most_parts → used (place taken i) ≡ used (record_at b i)
  here-used i l = let (x, y, z, w) = sheet_passes b passes in ap used (here i l) ∙ used-same b x i l

  part-fine : (i : ℕ) → i < most_parts → (t : Bool) → used (record_at b i) ≡ t → check_part (modulus (word b 0)) (place taken i) i ≡ Answered
  unfolding check_part
  part-fine i l true e =
      let (x, y, z, w) = sheet_passes b passes in
      simp (here i l, used-same b x i l ∙ e, polynomial-accepted (Place i) (shared-accepted b x z i l e))
  part-fine i l false e = simp (here-used i l ∙ e)

  -- passes the writer's checks
  pub taken-area : check_area (word b 0) taken ≡ Answered
  unfolding check_area check_parts
  taken-area =
      let (x, y, z, w) = sheet_passes b passes in
      simp (
        sheet_modulus b x z y,
        order_ext (λ i. used (place taken i)) (λ i. used (record_at b i)) here-used ∙ y,
        each_all (λ i. check_part (modulus (word b 0)) (place taken i) i) most_parts (λ i l. part-fine i l (used (record_at b i)) refl),
        product_ext (place taken) (held b) here ∙ w,
      )

  module _ (small : Bytes b) where
    record_whole : (i : ℕ) → i < most_parts → length (record_at b i) ≡ record_bytes
    unfolding sheet_bytes
    record_whole i l = piece_long record_bytes most_parts i b room l

    same_record : (i : ℕ) → i < most_parts → (t : Bool) → used (record_at b i) ≡ t → recorded (word b 0) (place taken i) ≡ record_at b i
    same_record i l true e =
        let (x, y, z, w) = sheet_passes b passes in
        sym (recorded-some (word b 0) (place taken i) (here-used i l ∙ e))
        ∙ ap₂ record_of (sym (same_modulus b x z i l e)) (here i l) ∙ own_record (record_at b i) (record_whole i l) (bytes_piece record_bytes (i * record_bytes) small)
    same_record i l false e =
        sym (recorded-none (word b 0) (place taken i) (here-used i l ∙ e))
        ∙ ap (λ (k : ℕ). replicate k 0) (sym (record_whole i l)) ∙ sym (all_zeros (record_at b i) (not-false _ e))

    -- its sheet has the same bytes
    pub taken-written : sheet_of (word b 0) taken ≡ take sheet_bytes b
    unfolding sheet_of sheet_bytes
    taken-written = joined_ext most_parts _ (λ i. record_at b i) (λ i l. same_record i l (used (record_at b i)) refl) ∙ pieces record_bytes most_parts b

module _ (u : ℕ → Bool) where
  pub exact_order : {k : ℕ} → FirstOnes u k → check_order u ≡ Answered
  unfolding check_order
  exact_order {k} f = each_all (λ i. refuse (not (in_order u i)) Neither Sheet) most_parts (λ i l. ap (λ (t : Bool). refuse (not t) Neither Sheet) (go i l))
    where
      go : (i : ℕ) → i < most_parts → in_order u i ≡ true
      go zero l = let s = f.some in f.is 0 l ∙ lt-ltb 0 k (omega arith)
      go (suc i) l = later (dec_lt i k)
        where
          after : (t : Bool) → (not t || true) ≡ true
          after true = refl
          after false = refl

          later : Dec (i < k) → (not (u (suc i)) || u i) ≡ true
          later (yes h) = simp (f.is i (omega arith), lt-ltb i k h) (after (u (suc i)))
          later (no h) = simp (f.is (suc i) l, le-ltb (suc i) k (omega arith))

  module _ (passes : check_order u ≡ Answered) where
    order-here : (i : ℕ) → i < most_parts → in_order u i ≡ true
    unfolding check_order
    order-here i l = not-false _ (refuse-answered _ _ _ (each_at (λ i. refuse (not (in_order u i)) Neither Sheet) most_parts passes i l))

    -- before a used place there are used ones only
    down : (n : ℕ) → n < most_parts → u n ≡ true → (i : ℕ) → i ≤ n → u i ≡ true
    down zero l e i h = let z : i ≡ 0 = omega arith in rw z e
    down (suc n) l e i h =
        ⊎_elim
        (λ (z : i ≡ suc n). rw z e)
        (λ (k : i < suc n). down n (omega arith) (simp e at (order-here (suc n) l)) i (omega arith))
        (N.eq-or-lt_of_le h)

    ones : (n : ℕ) → n ≤ most_parts → (k : ℕ) × (k ≤ n) × ((i : ℕ) → i < n → u i ≡ ltb i k)
    ones zero l = (0, omega arith, λ i h. absurd (N.not-suc-le-zero h))
    ones (suc n) l = go (ones n (omega arith)) (u n) refl
      where
        go : ((k : ℕ) × (k ≤ n) × ((i : ℕ) → i < n → u i ≡ ltb i k)) → (t : Bool) → u n ≡ t → (k : ℕ) × (k ≤ suc n) × ((i : ℕ) → i < suc n → u i ≡ ltb i k)
        go w true e = (suc n, omega arith, λ i h. down n (omega arith) e i (omega arith) ∙ sym (lt-ltb i (suc n) h))
        go (k, b, is) false e = (k, omega arith, λ i h. ⊎_elim (λ (z : i ≡ n). rw z (e ∙ sym (le-ltb n k b))) (λ (c : i < n). is i c) (N.eq-or-lt_of_le (omega arith)))

    -- what passes No. 12
    pub order_exact : (k : ℕ) × FirstOnes u k
    unfolding most_parts
    order_exact =
        let (k, b, is) = ones most_parts (omega arith) in
        (k, record { some = ltb-true 0 k (sym (is 0 (omega arith)) ∙ used-first u passes); most = b; is = is })
