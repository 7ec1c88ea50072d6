-- The promises of chain sheets.
--
--   read-composes           the reader's polynomial is the composition of its parts modulo m, reduced; they are parts, in the first places
--   written-used            a place of the written sheet is used exactly if its part is: the record of a used part is never zero bytes
--   write_read              written and read: the same modulus and the same area, for every area that the writer accepts
--   parts-written           any valid parts are accepted, whether or not they split further, whatever their constants
--   parts-read              and read again they give the area, and what they compose to
--   chain-written           so is the area of a chain
--   chain-read              and read again it gives the area and the f that it came from
--   chain_sheet             the same for the sheet alone
--   unused_refused, blank_refused     a sheet with no used place is refused by No. 12; so are zero bytes
--   read_write              an accepted sheet, read and written: the same bytes
--   read_back               written over itself, it does not change
use mathlib.Core.Path.{◌≡◌, refl, sym, ap, ap₂, subst, ◌∙◌}
use mathlib.Core.Bool.{Bool, false, not}
use mathlib.Core.List.{List, ◌++◌, append-nil}
use Prim.Native.Nat.{ℕ, ◌+◌, ◌*◌, ◌^◌, ◌≤◌, ◌<◌}
use native.Mathlib.Omega.{arith}
use lib.ListN.{length, take, drop, replicate, take-append-drop, length-append, length-take, length-replicate, drop_of_length-le}
use lib.Seq.{get_or-take, get_or-drop}
use Rattle.algebra.specs.Polynomial.{terms, reduced, Same, Reduced}
use Rattle.algebra.specs.Chain.{composed}
use Rattle.algebra.proofs.Polynomials.{same_sym}
use Rattle.algebra.proofs.Reduction.{reduced-reduced}
use Rattle.refusal.specs.Refusal.{refuse, refusal}
use Rattle.refusal.specs.declared.Concerns.TheVariants.{Neither}
use Rattle.refusal.specs.declared.Reason.TheVariants.{Sheet}
use Rattle.refusal.specs.Refusal.{Outcome}
use Rattle.refusal.specs.Refusal.{Answered}
use Rattle.refusal.proofs.Outcomes.{never, then_both}
use Rattle.polynomial.specs.Moduli.{modulus}
use Rattle.polynomial.proofs.Acceptance.{accepted-modulus}
use Rattle.polynomial.proofs.Filling.{zeros}
use Rattle.area.specs.Area.{most_parts, area_words, place, written}
use Rattle.record.specs.Record.{word, record_bytes}
use Rattle.chain.specs.Chaining.{Chained}
use Rattle.chain.specs.Chaining.{ChainOf}
use Rattle.demands.proofs.Chain.{chain-complete}
use Rattle.sheet.specs.Sheet.{sheet_bytes, record_at, used, recorded, sheet_of, held, area_of, parts_in}
use Rattle.sheet.specs.Checks.{in_order, check_room, check_order, check_placed, check_records, check_sheet, check_area, check_writer}
use Rattle.sheet.specs.Answers.{unread, ReadsSheet, WritesSheet}
use Rattle.sheet.specs.Answers as of
use Rattle.sheet.specs.Answers.{Contents}
use Rattle.sheet.proofs.Zeros.{at_zero}
use Rattle.sheet.proofs.Joining.{joined_ext, joined_length, pieces}
use Rattle.sheet.proofs.Checking.{each_none, each_stop, each_all, parts_ext}
use Rattle.sheet.proofs.Words.{Bytes, recorded-long}
use Rattle.sheet.proofs.Composing.{composed-same}
use Rattle.sheet.proofs.Taking.{area-long, place-taken, used-same, records_parted, sheet_modulus, parted_ext}
use Rattle.sheet.proofs.Answering.{room, roomy, sheet_passes, product-within}
use Rattle.sheet.proofs.Trips.{order_exact, written_use, written_sheet, written_held, written-modulus, taken-area, taken-written}
use Rattle.demands.proofs.Laid.{laid-room, laid_passes, laid-composition, chain-parts}
use Rattle.demands.specs.Sheets.{ValidParts, ComposedOf, Again}

-- no place of zero bytes is used
blank_unused : (i : ℕ) → i < most_parts → used (record_at (replicate sheet_bytes 0) i) ≡ false
blank_unused i l = ap not (at_zero _ (λ j k.
    get_or-take record_bytes (drop (i * record_bytes) (replicate sheet_bytes 0)) j 0 (omega (arith, length-take record_bytes (drop (i * record_bytes) (replicate {A = ℕ} sheet_bytes 0))))
    ∙ get_or-drop (i * record_bytes) (replicate sheet_bytes 0) j 0 ∙ zeros sheet_bytes (i * record_bytes + j)))

-- what an answer of the reader is
record Read (b xs ys : List ℕ) (x : Contents) : Type 0 where
  bytes : sheet_bytes ≤ length b
  passes : check_sheet b ≡ Answered
  word-is : x.modulus ≡ word b 0
  area-is : ys ≡ area_of b ++ drop area_words xs
  polynomial_is : x.polynomial ≡ reduced (modulus (word b 0)) (composed (parts_in (held b) most_parts))

as_read : {b xs ys : List ℕ} {x : Contents} → ReadsSheet b xs ys x → x.outcome ≡ Answered → Read b xs ys x
unfolding unread
as_read (of.short e a q) z = absurd (never (ap (λ (x : Contents). x.outcome) q) z)
as_read (of.refused e h a q) z = absurd (never (ap (λ (x : Contents). x.outcome) q) z)
as_read {b} {xs} (of.taken e h a q) z = record {
  bytes = (room (length b) (length xs) e).0;
  passes = h;
  word-is = ap (λ (x : Contents). x.modulus) q;
  area-is = a;
  polynomial_is = ap (λ (x : Contents). x.polynomial) q;
}

-- a sheet that passes, with room, is answered
sheet_answered : {b xs ys : List ℕ} {x : Contents} → sheet_bytes ≤ length b → area_words ≤ length xs → check_sheet b ≡ Answered → ReadsSheet b xs ys x → x.outcome ≡ Answered
sheet_answered n k s (of.short e a q) = absurd (never e (roomy n k))
sheet_answered n k s (of.refused e h a q) = absurd (never h s)
sheet_answered n k s (of.taken e h a q) = ap (λ (x : Contents). x.outcome) q

area-answered : {w : ℕ} {xs b c : List ℕ} {o : Outcome} → sheet_bytes ≤ length b → area_words ≤ length xs → check_area w xs ≡ Answered → WritesSheet w xs b c o → o ≡ Answered
unfolding check_writer
area-answered n k s (of.refused e a q) = absurd (never e (simp (roomy n k) s))
area-answered n k s (of.made e a q) = q

-- the reader's polynomial is the composition of its parts
pub read-composes : {b xs ys : List ℕ} {x : Contents} → ReadsSheet b xs ys x → x.outcome ≡ Answered → ComposedOf (modulus x.modulus) ys x.polynomial
read-composes {b} {xs} {ys} {x} k z =
    let r = as_read k z in
    let (p, q, s, t) = sheet_passes b r.passes in
    let one = sheet_modulus b p s q in
    let above = (accepted-modulus one).above_one in
    let (count, ones) = order_exact (λ i. used (record_at b i)) q in
    let same : (i : ℕ) → i < most_parts → held b i ≡ place ys i
    = λ i l. sym (ap (λ (y : List ℕ). place y i) r.area-is ∙ place-taken b (drop area_words xs) i l) in
    let parts = parts_ext (held b) (place ys) most_parts same in
    let within = product-within (held b) t in
    let parted = records_parted b p s in
    subst (λ (w : ℕ). ComposedOf (modulus w) ys x.polynomial) (sym r.word-is) (record {
      modulus = one;
      parts = parted_ext same parted;
      count = count;
      first = record { some = ones.some; most = ones.most; is = λ i l. ap used (sym (same i l)) ∙ used-same b p i l ∙ ones.is i l };
      within = rw (← parts) within;
      reduced = rw r.polynomial_is (reduced-reduced _ (omega arith) _);
      composes = rw (r.polynomial_is, ← parts) (same_sym (composed-same above parted most_parts (omega arith) within));
    })

sheet_long : (w : ℕ) (xs : List ℕ) → length (sheet_of w xs) ≡ sheet_bytes
unfolding sheet_of sheet_bytes
sheet_long w xs = joined_length (λ i. recorded w (place xs i)) record_bytes (λ i. recorded-long w (place xs i)) most_parts

-- the area of the sheet of an area
area_again : {w : ℕ} → w < 2 ^ 32 → (xs rest : List ℕ) → area_words ≤ length xs → check_area w xs ≡ Answered → area_of (sheet_of w xs ++ rest) ≡ take area_words xs
unfolding area_of area_words
area_again {w} small xs rest k s = joined_ext most_parts (held (sheet_of w xs ++ rest)) (place xs) (written_held small xs rest k s) ∙ pieces terms most_parts xs

-- a place of the sheet is used exactly if the part is: the record of a used part is never zero bytes, not even where its modulus word is 0
pub written-used : {w : ℕ} {xs b c : List ℕ} {o : Outcome} → w < 2 ^ 32 → WritesSheet w xs b c o → o ≡ Answered → (i : ℕ) → i < most_parts → used (record_at c i) ≡ used (place xs i)
unfolding check_writer
written-used small (of.refused e a q) z i l = absurd (never q z)
written-used {w} {xs} {b} small (of.made e a q) z i l =
    let (g, s) = then_both (check_room (length b) (length xs)) (check_area w xs) e in
    ap (λ (c : List ℕ). used (record_at c i)) a ∙ written_use small xs (drop sheet_bytes b) (room (length b) (length xs) g).1 s i l

-- the same modulus and the same area, for every area that the writer accepts; w is a word
pub write_read : {w : ℕ} {xs b c ys zs : List ℕ} {o : Outcome} {x : Contents} → w < 2 ^ 32 → WritesSheet w xs b c o → o ≡ Answered → ReadsSheet c ys zs x → area_words ≤ length ys → Again w xs ys zs x
unfolding check_writer
write_read small (of.refused e a q) z r words = absurd (never q z)
write_read {w} {xs} {b} {c} {ys} {zs} {o} {x} small (of.made e a q) z r words =
    let (g, s) = then_both (check_room (length b) (length xs)) (check_area w xs) e in
    let (n, k) = room (length b) (length xs) g in
    let rest = drop sheet_bytes b in
    let r' = subst (λ (c : List ℕ). ReadsSheet c ys zs x) a r in
    let long : sheet_bytes ≤ length (sheet_of w xs ++ rest) = omega (arith, length-append (sheet_of w xs) rest, sheet_long w xs) in
    let y = sheet_answered long words (written_sheet small xs rest k s) r' in
    let d = as_read r' y in
    record {
      answered = y;
      same_modulus = d.word-is ∙ written-modulus small xs rest k s;
      same_area = d.area-is ∙ ap (λ (l : List ℕ). l ++ drop area_words ys) (area_again small xs rest k s);
      composition = d.polynomial_is
          ∙ ap₂ (λ (w : ℕ) (l : List (List ℕ)). reduced (modulus w) (composed l)) (written-modulus small xs rest k s) (parts_ext (held (sheet_of w xs ++ rest)) (place xs) most_parts (written_held small xs rest k s));
    }

-- any valid parts, in an area
module _ (w : ℕ) {parts : List (List ℕ)} (p : ValidParts (modulus w) parts) (ws : List ℕ) {xs : List ℕ} (before : area_words ≤ length ws) (is : xs ≡ written ws parts)
    {b c : List ℕ} {o : Outcome} (wrote : WritesSheet w xs b c o) (bytes : sheet_bytes ≤ length b) where
  -- the writer accepts them
  pub parts-written : o ≡ Answered
  parts-written = area-answered bytes (laid-room p ws before is) (laid_passes p ws before is w refl) wrote

  -- read, they give the area, and whatever is the same as their composition
  pub parts-read : {f ys zs : List ℕ} {x : Contents} → w < 2 ^ 32 → Reduced (modulus w) f → Same (modulus w) f (composed parts) → ReadsSheet c ys zs x → area_words ≤ length ys
      → Again w xs ys zs x × (x.polynomial ≡ f)
  parts-read small red same r words =
      let a = write_read small wrote parts-written r words in
      (a, a.composition ∙ laid-composition p ws before is red same)

-- a chain's area
module _ {w : ℕ} {f ws xs : List ℕ} {y : Chained} (long : length f ≡ terms) (chain : ChainOf (modulus w) f ws xs y) (given : y.outcome ≡ Answered)
    {b c : List ℕ} {o : Outcome} (wrote : WritesSheet w xs b c o) (bytes : sheet_bytes ≤ length b) where
  -- the writer accepts it
  pub chain-written : o ≡ Answered
  chain-written = let (parts, k) = chain-complete long chain given in parts-written w (chain-parts k) ws k.room k.area wrote bytes

  -- read, it gives the area and the f that it came from
  pub chain-read : {ys zs : List ℕ} {x : Contents} → w < 2 ^ 32 → ReadsSheet c ys zs x → area_words ≤ length ys → Again w xs ys zs x × (x.polynomial ≡ f)
  chain-read small r words =
      let (parts, k) = chain-complete long chain given in
      parts-read w (chain-parts k) ws k.room k.area wrote bytes small k.accepted.reduced k.composes r words

-- the sheet of a chain's area alone
pub chain_sheet : {w : ℕ} {f ws xs ys zs : List ℕ} {y : Chained} {x : Contents} → w < 2 ^ 32 → length f ≡ terms → ChainOf (modulus w) f ws xs y → y.outcome ≡ Answered
    → ReadsSheet (sheet_of w xs) ys zs x → area_words ≤ length ys → Again w xs ys zs x × (x.polynomial ≡ f)
unfolding check_writer
chain_sheet {w} {f} {ws} {xs} small long chain given r words =
    let (parts, k) = chain-complete long chain given in
    let p = chain-parts k in
    let bytes = sheet_long w xs in
    let passes : check_writer w xs (sheet_of w xs) ≡ Answered
    = simp (roomy {n = length (sheet_of w xs)} (omega arith) (laid-room p ws k.room k.area)) (laid_passes p ws k.room k.area w refl) in
    let whole : sheet_of w xs ≡ sheet_of w xs ++ drop sheet_bytes (sheet_of w xs)
    = sym (ap (λ (l : List ℕ). sheet_of w xs ++ l) (drop_of_length-le (sheet_of w xs) {i = sheet_bytes} (omega arith)) ∙ append-nil (sheet_of w xs)) in
    chain-read long chain given {b = sheet_of w xs} (of.made passes whole refl) (omega arith) small r words

-- a sheet with no used place: No. 12
pub unused_refused : (b : List ℕ) → ((i : ℕ) → i < most_parts → used (record_at b i) ≡ false) → check_sheet b ≡ refusal Neither Sheet
unfolding check_sheet check_records check_placed check_order most_parts
unused_refused b none =
    let passes = each_all (λ i. check_placed (record_at b i) i) most_parts (λ i l. simp (none i l)) in
    let first = none 0 (omega arith) in
    let twelve : check_order (λ i. used (record_at b i)) ≡ refusal Neither Sheet
    = sym (each_stop (λ i. refuse (not (in_order (λ i. used (record_at b i)) i)) Neither Sheet) most_parts 0 (omega arith) (each_none _) (ap (λ (t : Bool). refuse (not t) Neither Sheet) first)) in
    simp (passes, twelve)

-- so is a sheet of zero bytes
pub blank_refused : {xs ys : List ℕ} {x : Contents} → ReadsSheet (replicate sheet_bytes 0) xs ys x → area_words ≤ length xs → x.outcome ≡ refusal Neither Sheet
unfolding unread
blank_refused (of.short e a q) words = absurd (never e (roomy (omega (arith, length-replicate {A = ℕ} sheet_bytes 0)) words))
blank_refused (of.refused e h a q) words = ap (λ (x : Contents). x.outcome) q ∙ sym h ∙ unused_refused _ blank_unused
blank_refused (of.taken e h a q) words = absurd (never (unused_refused _ blank_unused) h)

-- an accepted sheet, read and written: the same bytes
pub read_write : {b xs ys d c : List ℕ} {x : Contents} {o : Outcome} → Bytes b → ReadsSheet b xs ys x → x.outcome ≡ Answered → WritesSheet x.modulus ys d c o → sheet_bytes ≤ length d
    → (o ≡ Answered) × (c ≡ take sheet_bytes b ++ drop sheet_bytes d)
read_write {b} {xs} {ys} {d} {c} {x} {o} small r given wrote n = go w'
  where
    e : Read b xs ys x
    e = as_read r given

    w' : WritesSheet (word b 0) (area_of b ++ drop area_words xs) d c o
    w' = rw (e.word-is, e.area-is) at wrote

    wide : area_words ≤ length (area_of b ++ drop area_words xs)
    wide = omega (arith, length-append (area_of b) (drop area_words xs), area-long b)

    yes-written : o ≡ Answered
    yes-written = area-answered n wide (taken-area b (drop area_words xs) e.bytes e.passes) w'

    go : WritesSheet (word b 0) (area_of b ++ drop area_words xs) d c o → (o ≡ Answered) × (c ≡ take sheet_bytes b ++ drop sheet_bytes d)
    go (of.refused f a q) = absurd (never q yes-written)
    go (of.made f a q) = (q, a ∙ ap (λ (l : List ℕ). l ++ drop sheet_bytes d) (taken-written b (drop area_words xs) e.bytes e.passes small))

-- over itself it does not change
pub read_back : {b xs ys c : List ℕ} {x : Contents} {o : Outcome} → Bytes b → ReadsSheet b xs ys x → x.outcome ≡ Answered → WritesSheet x.modulus ys b c o → (o ≡ Answered) × (c ≡ b)
read_back {b} small r given wrote = let (p, q) = read_write small r given wrote (as_read r given).bytes in (p, q ∙ take-append-drop sheet_bytes b)
