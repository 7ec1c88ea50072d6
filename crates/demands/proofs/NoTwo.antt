-- At the modulus 2^32 no operation answers with No. 2 (request No. 3).
--
--   no-two-compose, no-two-left-part, no-two_split, no-two_quick, no-two_change_polynomial, no-two_change_pair, no-two-chain, no-two-count-chains,
--   no-two-nth-chain, no-two_record, no-two_write_sheet, no-two-read_sheet, no-two_write_text, no-two-read-text     so for each operation that checks a polynomial (for the reader: with the word 0 in every place)
--   no-two-read-place     and for the reader of sheets, of each place that has the word 0
use mathlib.Core.Path.{◌≡◌, sym, ap, ◌∙◌}
use mathlib.Core.Bool.{Bool, true, false, not, cond, ◌&&◌, ◌||◌}
use mathlib.Core.Logic.{by_cases}
use mathlib.Core.List.{List}
use Prim.Native.Nat.{ℕ, zero, suc, ◌+◌, ◌*◌, ◌<◌}
use native.Mathlib.Decide.{dec_le, dec_lt}
use native.Mathlib.Omega.{arith}
use lib.Dec.{eqb, ltb}
use lib.ListN.{length}
use Rattle.std.specs.Prelude.{Ok, Err}
use Rattle.algebra.specs.Polynomial.{coef, degree, limit, terms, reduced}
use Rattle.algebra.specs.Chain.{degrees, product}
use Rattle.algebra.proofs.Numbers.{table_below, table-above}
use Rattle.refusal.specs.Refusal.{number, number_of, polynomial, refusal, refuse, ◌then◌}
use Rattle.refusal.specs.declared.Concerns.{Concerns}
use Rattle.refusal.specs.declared.Concerns.TheVariants.{Neither, First, Second, Place}
use Rattle.refusal.specs.declared.Reason.{Reason}
use Rattle.refusal.specs.declared.Reason.TheVariants as reason
use Rattle.refusal.specs.Refusal.{Outcome}
use Rattle.refusal.specs.Refusal.{Answered}
use Rattle.refusal.proofs.Outcomes.{never}
use Rattle.polynomial.specs.Moduli.{machine_words, modulus, smallest, largest, check_modulus}
use Rattle.polynomial.specs.Checks.{offending, check_coefficients, check_degree, check_leading, check_polynomial, check_one, check_two, check_pair}
use Rattle.polynomial.specs.Answers.{nothing, no_parts}
use Rattle.polynomial.specs.Answers.{Answer}
use Rattle.polynomial.specs.Answers.{Parts}
use Rattle.polynomial.proofs.Moduli.{modulus_zero, words-taken}
use Rattle.polynomial.proofs.Acceptance.{coefficients-words}
use Rattle.left.specs.Left as left
use Rattle.pair.specs.Pairing.{fits, compose, beside, check_left, check_split, LeftPartOf, Splits}
use Rattle.pair.specs.Pairing as pairing
use Rattle.pair.specs.Asking.{Verdict}
use Rattle.pair.specs.Asking.{QuickOf}
use Rattle.pair.specs.Asking as quick
use Rattle.change.specs.declared.Change.{Change}
use Rattle.change.specs.Changing.{ChangesPolynomial, ChangesPair}
use Rattle.change.specs.Changing as changing
use Rattle.area.specs.Area.{most_parts, area_words, place}
use Rattle.chain.specs.Chaining.{Chained}
use Rattle.chain.specs.Chaining.{ChainOf}
use Rattle.chain.specs.Chaining as chaining
use Rattle.chains.specs.Choosing.{Numbered}
use Rattle.chains.specs.Choosing.{Chosen}
use Rattle.chains.specs.Choosing.{NumberOf, NthOf}
use Rattle.chains.specs.Choosing as choosing
use Rattle.record.specs.Record.{word, record_bytes, coefficients, check_record, checked}
use Rattle.record.specs.Record.{Checked}
use Rattle.record.proofs.Answers.{check_outcome}
use Rattle.sheet.specs.Sheet.{sheet_bytes, record_at, used, held, parts_in}
use Rattle.sheet.specs.Checks.{each, in_order, check_room, check_order, check_moduli, check_words, check_placed, check_records, check_part, check_parts, check_product, check_sheet, check_area, check_writer}
use Rattle.sheet.specs.Answers.{unread, ReadsSheet, WritesSheet}
use Rattle.sheet.specs.Answers as answers
use Rattle.sheet.specs.Answers.{Contents}
use Rattle.sheet.proofs.Words.{Bytes, bytes_piece, word_small}
use Rattle.text.specs.Writing.{text_of}
use Rattle.text.specs.Meaning.{meaning}
use Rattle.text.specs.Answers.{ReadsText, check_text, WritesText, answer_text as answer, checked_text}
use Rattle.text.specs.Answers as text
use Rattle.text.specs.Answers.{Written}
use Rattle.demands.specs.Words.{Machine, NotTwo, NotTwoAt}

not_as : {a b : Outcome} → a ≡ b → NotTwo b → NotTwo a
not_as e n = rw e n

not_answered : NotTwo Answered
not_answered = record { is = λ e. omega arith }

not_then : (a b : Outcome) → NotTwo a → NotTwo b → NotTwo (a then b)
not_then (Ok x) b m n = n
not_then (Err r) b m n = m

not_refusal : (c : Concerns) (r : Reason) → (number r ≡ 2 → ⊥) → NotTwo (refusal c r)
not_refusal c r n = record { is = n }

not_refuse : (t : Bool) (c : Concerns) (r : Reason) → (number r ≡ 2 → ⊥) → NotTwo (refuse t c r)
not_refuse true c r n = not_refusal c r n
not_refuse false c r n = not_answered

-- 3 and 4 are left
not_polynomial : (c : Concerns) {f : List ℕ} → Machine f → NotTwo (check_polynomial c machine_words f)
unfolding check_polynomial check_degree check_leading
not_polynomial c {f} m =
    rw (coefficients-words c f m.is)
    (not_then (check_degree c f) (check_leading c f) (not_refuse (ltb (degree f) 2) c reason.Degree (λ e. omega arith)) (not_refuse (not (eqb (coef f (degree f)) 1)) c reason.Leading (λ e. omega arith)))

not_check_one : {f : List ℕ} → Machine f → NotTwo (check_one machine_words f)
unfolding check_one
not_check_one m = rw words-taken (not_polynomial First m)

not_check_two : {f h : List ℕ} → Machine f → Machine h → NotTwo (check_two machine_words f h)
unfolding check_two
not_check_two {f} {h} m n = rw words-taken (not_then (check_polynomial First machine_words f) (check_polynomial Second machine_words h) (not_polynomial First m) (not_polynomial Second n))

not_check_pair : {g h : List ℕ} → Machine g → Machine h → NotTwo (check_pair machine_words g h)
unfolding check_pair
not_check_pair {g} {h} m n = not_then (check_two machine_words g h) _ (not_check_two m n) (not_refuse (ltb limit (degree g * degree h)) Neither reason.Limit (λ e. omega arith))

-- the operations

pub no-two-compose : {g h : List ℕ} {x : Answer} → Machine g → Machine h → x ≡ compose machine_words g h → NotTwo x.outcome
unfolding compose nothing
no-two-compose {g} {h} m n e = not_as (ap (λ (x : Answer). x.outcome) e) (go (check_pair machine_words g h) (not_check_pair m n))
  where
    go : (o : Outcome) → NotTwo o → NotTwo (beside o machine_words g h).outcome
    go (Ok x) k = k
    go (Err r) k = k

pub no-two-left-part : {f h : List ℕ} {x : Answer} → Machine f → Machine h → LeftPartOf machine_words f h x → NotTwo x.outcome
unfolding check_left nothing
no-two-left-part {f} {h} m n (pairing.refused e q) =
    not_as (ap (λ (x : Answer). x.outcome) q ∙ sym e) (not_then (check_two machine_words f h) _ (not_check_two m n) (not_refuse (not (fits (degree f) (degree h))) Neither reason.Fit (λ e. omega arith)))
no-two-left-part m n (pairing.answered e (left.none k q)) = not_as (ap (λ (x : Answer). x.outcome) q) (not_refusal Neither reason.NoPair (λ e. omega arith))
no-two-left-part m n (pairing.answered e (left.found k q)) = not_as (ap (λ (x : Answer). x.outcome) q) not_answered

pub no-two_split : {f : List ℕ} {r : ℕ} {x : Parts} → Machine f → Splits machine_words f r x → NotTwo x.outcome
unfolding check_split no_parts
no-two_split {f} {r} m (pairing.refused e q) =
    not_as (ap (λ (x : Parts). x.outcome) q ∙ sym e) (not_then (check_one machine_words f) _ (not_check_one m) (not_refuse (not (fits (degree f) r)) Neither reason.Fit (λ e. omega arith)))
no-two_split m (pairing.answered e (pairing.shared n q)) = not_as (ap (λ (x : Parts). x.outcome) q) (not_refusal Neither reason.Factor (λ e. omega arith))
no-two_split m (pairing.answered e (pairing.none c n q)) = not_as (ap (λ (x : Parts). x.outcome) q) (not_refusal Neither reason.NoPair (λ e. omega arith))
no-two_split m (pairing.answered e (pairing.found c k q)) = not_as (ap (λ (x : Parts). x.outcome) q) not_answered

pub no-two_quick : {f : List ℕ} {r : ℕ} {x : Verdict} → Machine f → QuickOf machine_words f r x → NotTwo x.outcome
unfolding check_split
no-two_quick {f} {r} m (quick.refused e q) =
    not_as (ap (λ (x : Verdict). x.outcome) q ∙ sym e) (not_then (check_one machine_words f) _ (not_check_one m) (not_refuse (not (fits (degree f) r)) Neither reason.Fit (λ e. omega arith)))
no-two_quick m (quick.shared e n q) = not_as (ap (λ (x : Verdict). x.outcome) q) (not_refusal Neither reason.Factor (λ e. omega arith))
no-two_quick m (quick.answered e c (quick.composes k q)) = not_as (ap (λ (x : Verdict). x.outcome) q) not_answered
no-two_quick m (quick.answered e c (quick.differs k q)) = not_as (ap (λ (x : Verdict). x.outcome) q) not_answered

pub no-two_change_polynomial : {f : List ℕ} {c : Change} {x : Answer} → Machine f → ChangesPolynomial machine_words f c x → NotTwo x.outcome
unfolding nothing
no-two_change_polynomial m (changing.refused e q) = not_as (ap (λ (x : Answer). x.outcome) q ∙ sym e) (not_check_one m)
no-two_change_polynomial m (changing.not_proper e n q) = not_as (ap (λ (x : Answer). x.outcome) q) (not_refusal Neither reason.Change (λ e. omega arith))
no-two_change_polynomial m (changing.changed e p r k q) = not_as (ap (λ (x : Answer). x.outcome) q) not_answered

pub no-two_change_pair : {g h : List ℕ} {c : Change} {x : Parts} → Machine g → Machine h → ChangesPair machine_words g h c x → NotTwo x.outcome
unfolding no_parts
no-two_change_pair m n (changing.refused e q) = not_as (ap (λ (x : Parts). x.outcome) q ∙ sym e) (not_check_pair m n)
no-two_change_pair m n (changing.not_proper e k q) = not_as (ap (λ (x : Parts). x.outcome) q) (not_refusal Neither reason.Change (λ e. omega arith))
no-two_change_pair m n (changing.changed e p r s k q) = not_as (ap (λ (x : Parts). x.outcome) q) not_answered

pub no-two-chain : {f xs ys : List ℕ} {x : Chained} → Machine f → ChainOf machine_words f xs ys x → NotTwo x.outcome
no-two-chain m (chaining.short l a q) = not_as (ap (λ (x : Chained). x.outcome) q) (not_refusal Neither reason.Area (λ e. omega arith))
no-two-chain m (chaining.refused l e a q) = not_as (ap (λ (x : Chained). x.outcome) q ∙ sym e) (not_check_one m)
no-two-chain m (chaining.shared l e n a q) = not_as (ap (λ (x : Chained). x.outcome) q) (not_refusal Neither reason.Factor (λ e. omega arith))
no-two-chain m (chaining.chained l e c k a q) = not_as (ap (λ (x : Chained). x.outcome) q) not_answered

pub no-two-count-chains : {f : List ℕ} {x : Numbered} → Machine f → NumberOf machine_words f x → NotTwo x.outcome
no-two-count-chains m (choosing.refused e q) = not_as (ap (λ (x : Numbered). x.outcome) q ∙ sym e) (not_check_one m)
no-two-count-chains m (choosing.shared e n q) = not_as (ap (λ (x : Numbered). x.outcome) q) (not_refusal Neither reason.Factor (λ e. omega arith))
no-two-count-chains m (choosing.numbered e c k q) = not_as (ap (λ (x : Numbered). x.outcome) q) not_answered

pub no-two-nth-chain : {f xs ys : List ℕ} {j : ℕ} {x : Chosen} → Machine f → NthOf machine_words f j xs ys x → NotTwo x.outcome
no-two-nth-chain m (choosing.short l a q) = not_as (ap (λ (x : Chosen). x.outcome) q) (not_refusal Neither reason.Area (λ e. omega arith))
no-two-nth-chain m (choosing.refused l e a q) = not_as (ap (λ (x : Chosen). x.outcome) q ∙ sym e) (not_check_one m)
no-two-nth-chain m (choosing.shared l e n a q) = not_as (ap (λ (x : Chosen). x.outcome) q) (not_refusal Neither reason.Factor (λ e. omega arith))
no-two-nth-chain m (choosing.beyond l e c k b a q) = not_as (ap (λ (x : Chosen). x.outcome) q) (not_refusal Neither reason.Beyond (λ e. omega arith))
no-two-nth-chain m (choosing.chosen l e c k a q) = not_as (ap (λ (x : Chosen). x.outcome) q) not_answered

-- the coefficients of a record are machine words
coefficients_machine : {b : List ℕ} → Bytes b → Machine (coefficients b)
unfolding machine_words coefficients
coefficients_machine {b} s = record { is = λ i. by_cases (dec_le terms i) (λ l. rw (table-above terms (λ i. word b (i + 1)) i l) (omega arith)) (λ n. rw (table_below terms (λ i. word b (i + 1)) i (omega arith)) (word_small s (i + 1))) }

pub no-two_record : {b : List ℕ} {x : Checked} → Bytes b → word b 0 ≡ 0 → x ≡ checked b → NotTwo x.outcome
unfolding check_record
no-two_record {b} s z e =
    not_as (check_outcome b e)
    (not_then _ (check_one (modulus (word b 0)) (coefficients b)) (not_refuse (ltb (length b) record_bytes) Neither reason.Short (λ e. omega arith)) (rw (z, modulus_zero) (not_check_one (coefficients_machine s))))

not_each : (n : ℕ) (c : ℕ → Outcome) → ((i : ℕ) → i < n → NotTwo (c i)) → NotTwo (each n c)
unfolding each
not_each zero c h = not_answered
not_each (suc n) c h = not_then (each n c) (c n) (not_each n c (λ i l. h i (omega arith))) (h n (omega arith))

not_cond : (t : Bool) {o : Outcome} → NotTwo o → NotTwo (cond t o Answered)
not_cond true n = n
not_cond false n = not_answered

not_room : (n k : ℕ) → NotTwo (check_room n k)
unfolding check_room
not_room n k = not_refuse (ltb n sheet_bytes || ltb k area_words) Neither reason.Area (λ e. omega arith)

not_order : (u : ℕ → Bool) → NotTwo (check_order u)
unfolding check_order
not_order u = not_each most_parts _ (λ i l. not_refuse (not (in_order u i)) Neither reason.Sheet (λ e. omega arith))

not_product : (g : ℕ → List ℕ) → NotTwo (check_product g)
unfolding check_product
not_product g = not_refuse (ltb limit (product (degrees (parts_in g most_parts)))) Neither reason.Limit (λ e. omega arith)

not_area : (xs : List ℕ) → ((i : ℕ) → i < most_parts → Machine (place xs i)) → NotTwo (check_area 0 xs)
unfolding check_area check_parts check_part
not_area xs m = rw (modulus_zero, words-taken) (
    not_then (check_order (λ i. used (place xs i))) _ (not_order _) (
    not_then (each most_parts (λ i. cond (used (place xs i)) (check_polynomial (Place i) machine_words (place xs i)) Answered)) _
    (not_each most_parts _ (λ i l. not_cond (used (place xs i)) (not_polynomial (Place i) (m i l)))) (not_product (place xs))
    )
    )

pub no-two_write_sheet : {xs b c : List ℕ} {o : Outcome} → ((i : ℕ) → i < most_parts → Machine (place xs i)) → WritesSheet 0 xs b c o → NotTwo o
unfolding check_writer
no-two_write_sheet {xs} {b} m (answers.refused e a q) = not_as (q ∙ sym e) (not_then (check_room (length b) (length xs)) (check_area 0 xs) (not_room (length b) (length xs)) (not_area xs m))
no-two_write_sheet m (answers.made e a q) = not_as q not_answered

module _ {b : List ℕ} (s : Bytes b) (z : (i : ℕ) → i < most_parts → word (record_at b i) 0 ≡ 0) where
  not_placed : (i : ℕ) → i < most_parts → NotTwo (check_placed (record_at b i) i)
  unfolding check_placed check_words
  not_placed i l = not_cond (used (record_at b i)) (rw (z i l, modulus_zero, words-taken) (not_polynomial (Place i) (coefficients_machine (bytes_piece record_bytes (i * record_bytes) s))))

  not_sheet : NotTwo (check_sheet b)
  unfolding check_sheet check_records check_moduli
  not_sheet =
      not_then (each most_parts (λ i. check_placed (record_at b i) i)) _ (not_each most_parts _ not_placed) (
      not_then (check_order (λ i. used (record_at b i))) _ (not_order _) (
      not_then (check_moduli b) _ (not_each most_parts _ (λ i l. not_refuse (used (record_at b i) && not (eqb (word (record_at b i) 0) (word b 0))) Neither reason.Sheet (λ e. omega arith))) (not_product (held b))
      )
      )

  pub no-two-read_sheet : {xs ys : List ℕ} {x : Contents} → ReadsSheet b xs ys x → NotTwo x.outcome
  unfolding unread
  no-two-read_sheet {xs} (answers.short e a q) = not_as (ap (λ (x : Contents). x.outcome) q ∙ sym e) (not_room (length b) (length xs))
  no-two-read_sheet (answers.refused e k a q) = not_as (ap (λ (x : Contents). x.outcome) q ∙ sym k) not_sheet
  no-two-read_sheet (answers.taken e k a q) = not_as (ap (λ (x : Contents). x.outcome) q) not_answered

-- place by place: the others may have what modulus they will
at_as : {i : ℕ} {a b : Outcome} → a ≡ b → NotTwoAt i b → NotTwoAt i a
at_as e n = rw e n

at-two : {i : ℕ} {o : Outcome} → NotTwo o → NotTwoAt i o
at-two n = record { is = λ k e. n.is (ap number_of e) }

at_then : {i : ℕ} (a b : Outcome) → NotTwoAt i a → NotTwoAt i b → NotTwoAt i (a then b)
at_then (Ok x) b m n = n
at_then (Err r) b m n = m

abbrev concerned : Outcome → ℕ
concerned (Ok x) = 0
concerned (Err r) = polynomial r.concerns

-- what names place j names no other
at_other : {i j : ℕ} → ¬ (j ≡ i) → (t : Bool) (r : Reason) → NotTwoAt i (refuse t (Place j) r)
at_other {i} {j} n true r = record { is = λ k e. let z : 16 + j ≡ 16 + i = ap concerned e in n (omega arith) }
at_other n false r = at-two not_answered

at_each : {i : ℕ} (n : ℕ) (c : ℕ → Outcome) → ((j : ℕ) → j < n → NotTwoAt i (c j)) → NotTwoAt i (each n c)
unfolding each
at_each zero c h = at-two not_answered
at_each (suc n) c h = at_then (each n c) (c n) (at_each n c (λ j l. h j (omega arith))) (h n (omega arith))

at_cond : {i : ℕ} (t : Bool) {o : Outcome} → NotTwoAt i o → NotTwoAt i (cond t o Answered)
at_cond true n = n
at_cond false n = at-two not_answered

not_modulus : (m : ℕ) → NotTwo (check_modulus m)
unfolding check_modulus
not_modulus m = not_refuse (not (eqb m machine_words) && (ltb m smallest || ltb largest m)) Neither reason.Modulus (λ e. omega arith)

-- a record in another place
elsewhere : {i j : ℕ} → ¬ (j ≡ i) → (r : List ℕ) → NotTwoAt i (check_placed r j)
unfolding check_placed check_words check_polynomial check_coefficients check_degree check_leading
elsewhere {j = j} n r =
    let m : ℕ = modulus (word r 0) in
    let f : List ℕ = coefficients r in
    at_cond (used r) (
    at_then (check_modulus m) (check_polynomial (Place j) m f) (at-two (not_modulus m)) (
    at_then (check_coefficients (Place j) m f) (check_degree (Place j) f then check_leading (Place j) f) (at_other n (ltb (offending m f) (length f)) (reason.Coefficient (offending m f))) (
    at_then (check_degree (Place j) f) (check_leading (Place j) f) (at_other n (ltb (degree f) 2) reason.Degree) (at_other n (not (eqb (coef f (degree f)) 1)) reason.Leading)
    )
    )
    )

module _ {b : List ℕ} (s : Bytes b) (i : ℕ) (z : word (record_at b i) 0 ≡ 0) where
  placed_at : (j : ℕ) → j < most_parts → NotTwoAt i (check_placed (record_at b j) j)
  unfolding check_placed check_words
  placed_at j l = go (dec_lt j i) (dec_lt i j)
    where
      go : Dec (j < i) → Dec (i < j) → NotTwoAt i (cond (used (record_at b j)) (check_modulus (modulus (word (record_at b j) 0)) then check_polynomial (Place j) (modulus (word (record_at b j) 0)) (coefficients (record_at b j))) Answered)
      go (yes k) d = elsewhere (λ e. omega arith) (record_at b j)
      go (no h) (yes k) = elsewhere (λ e. omega arith) (record_at b j)
      go (no h) (no k) =
          let e : j ≡ i = omega arith in
          rw e (at-two (not_cond (used (record_at b i)) (rw (z, modulus_zero, words-taken) (not_polynomial (Place i) (coefficients_machine (bytes_piece record_bytes (i * record_bytes) s))))))

  sheet_at : NotTwoAt i (check_sheet b)
  unfolding check_sheet check_records check_moduli
  sheet_at =
      at_then (each most_parts (λ j. check_placed (record_at b j) j)) _ (at_each most_parts _ placed_at) (
      at-two (not_then (check_order (λ i. used (record_at b i))) _ (not_order _) (
      not_then (check_moduli b) _ (not_each most_parts _ (λ i l. not_refuse (used (record_at b i) && not (eqb (word (record_at b i) 0) (word b 0))) Neither reason.Sheet (λ e. omega arith))) (not_product (held b))
      ))
      )

  -- a record whose modulus word is 0 is never refused by No. 2, whatever the other places have
  pub no-two-read-place : {xs ys : List ℕ} {x : Contents} → ReadsSheet b xs ys x → NotTwoAt i x.outcome
  unfolding unread
  no-two-read-place {xs} (answers.short e a q) = at_as (ap (λ (x : Contents). x.outcome) q ∙ sym e) (at-two (not_room (length b) (length xs)))
  no-two-read-place (answers.refused e k a q) = at_as (ap (λ (x : Contents). x.outcome) q ∙ sym k) sheet_at
  no-two-read-place (answers.taken e k a q) = at_as (ap (λ (x : Contents). x.outcome) q) (at-two not_answered)

pub no-two_write_text : {f xs ys : List ℕ} {x : Written} → Machine f → WritesText machine_words f xs ys x → NotTwo x.outcome
unfolding check_text
no-two_write_text {f} {xs} m (text.refused p a e) =
    not_as (ap (λ (x : Written). x.outcome) e ∙ sym p) (not_then (check_one machine_words f) _ (not_check_one m) (not_refuse (ltb (length xs) (length (text_of f))) Neither reason.Area (λ e. omega arith)))
no-two_write_text m (text.wrote p a e) = not_as (ap (λ (x : Written). x.outcome) e) not_answered

not_checked : (f : List ℕ) → NotTwo (checked_text f).outcome
unfolding nothing checked_text check_degree check_leading
not_checked f = go (ltb (degree f) 2) (not (eqb (coef f (degree f)) 1))
  where
    go : (s t : Bool) → NotTwo (answer (refuse s First reason.Degree then refuse t First reason.Leading) f).outcome
    go true t = not_refusal First reason.Degree (λ e. omega arith)
    go false true = not_refusal First reason.Leading (λ e. omega arith)
    go false false = not_answered

-- what is read is reduced, so that 2 is never due
pub no-two-read-text : {w : List ℕ} {x : Answer} → ReadsText machine_words w x → NotTwo x.outcome
unfolding nothing
no-two-read-text (text.modulus p e) = absurd (never p words-taken)
no-two-read-text (text.unsized p n e) = not_as (ap (λ (x : Answer). x.outcome) e) (not_refusal Neither reason.Spelling (λ e. omega arith))
no-two-read-text (text.ninth p s n e) = not_as (ap (λ (x : Answer). x.outcome) e) (not_refusal Neither reason.Depth (λ e. omega arith))
no-two-read-text (text.misspelt p s n l e) = not_as (ap (λ (x : Answer). x.outcome) e) (not_refusal Neither reason.Spelling (λ e. omega arith))
no-two-read-text (text.high p s z n e) = not_as (ap (λ (x : Answer). x.outcome) e) (not_refusal Neither reason.Limit (λ e. omega arith))
no-two-read-text (text.read p s z i e) = not_as (ap (λ (x : Answer). x.outcome) e) (not_checked (reduced machine_words (meaning z.tree machine_words)))
