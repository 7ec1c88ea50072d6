-- The three demands of document 00, over the contracts of the operations, in its words and order.
--
-- Demand 1: every request gets an answer, and each refusal returns and writes what the table says. That the work ends is what the
-- check shows of every function; that the contracts determine the answer and each word of lent memory is said here.
--   record_answer, compose-answer, left-part-answer, split_answer, quick_answer, change_polynomial-answer, change_pair-answer,
--   combine_answer, undo_answer, chain-answer, count-chains-answer, nth-chain-answer, part-answer, write_sheet_answer,
--   read_sheet_answer, read-text-answer, write_text-answer
-- Demand 2: the answers are those of Kozen and Landau.
--   split_exact         where r and s fit and r has no factor in common with m: the pair with h(0) = 0, left and right, exactly if some
--                       monic g and h of those degrees compose to f; else, and exactly if none do, No. 7 with zeros
--   quick_exact         the quick yes is the split's, on every input, and so is each refusal but No. 7, in whose place there is a no
--   quick_report        with a no, the forced pair composed and f agree above the reported power and differ there
--   quick_zero          the power is 0 exactly with a yes
--   left-part_exact     the same of the left part for a given h whose degree fits
--   chain-composes      a chain composes back to f, and none of its parts splits further; the area, read back, gives its parts
--   nth-chain-composes  the same of the j-th chain
--   every-chain_appears each complete chain is the j-th for one j below the number, and for no other: none is left out, none stands twice
--   nth-chain_exact     there is a j-th chain exactly if j is below the number, and No. 18 exactly if it is not
--   chains_in_order     the i-th is earlier than the j-th if i is below j
--   order_strict        and that order is strict: no chain is earlier than itself, and of three it goes on
--   order-within        where two complete chains of one f differ first, both have a part
--   first-chain         the first is the chain, area and all
--   chains-within       there are 1 to n*n
--   round_trip          composing a monic pair with h(0) = 0 and splitting it gives that pair back
-- Demand 3: changing and then asking gives the same as asking first and carrying the change through the parts.
--   split_carried       for a single split of what change_polynomial answers: a pair exactly if f has one, and it is what change_pair
--                       answers; every refusal is that of f, "no pair" included
--   quick_carried       the quick question gives the changed f the same answer: yes or no, and the power
--   chain-carried, chain-outcome-carried     same parts but for the change, same degrees, same number of tries, same refusal
--   chain-read_back     the same for what change_polynomial answers, over the parts that the two areas hand out
--   count-chains-carried, nth-chain-carried     and for the number of complete chains and the j-th of them
--   carried_unique      carrying a change through the parts gives one result
--   combine_associative, combine_identity-left, combine_identity-right, combine_polynomial, combine_pair
--                       what combine answers: three changes in either grouping; (1, 0) before and after a change; changing by one and then
--                       by the other
--   pair-made-normal    a pair changed by (1, 0) composes to the same polynomial, and its right part has constant term 0
-- Typed polynomials (request No. 6), of the reader and the writer of texts.
--   text_language       for a modulus that passes No. 1: 13 or 14 exactly if the text is not in the language, or not of 1 to 8,192 bytes
--   text-one-meaning    a text is the spelling of one tree only
--   text-meaning        what is read passes 1 to 4, and is the meaning of that tree modulo m, with nothing above the limit on the way
--   text-first-fault    a text begins one of the language, or has a first fault from the left, said by the language alone
--   text-fault-one      and that at one place only
--   text-ninth          for such a modulus and a text of 1 to 8,192 bytes: 14 exactly if the first fault is a ninth bracket where one may open
--   text-read_back      what the writer has written, read, answers the polynomial
-- Chain sheets (request No. 2).
--   sheet_composes      the reader's polynomial is the composition of its parts modulo m
--   sheet_again         an area that the writer accepts, written and read, gives the same modulus and area
--   sheet_parts, sheet_chain     so do any valid parts, whether or not they split further, and the parts of a chain, with the f they came from
--   sheet_back          an accepted sheet, read and written, has the same bytes
use mathlib.Core.Path.{◌≡◌, sym, ◌∙◌}
use mathlib.Core.Logic.{◌⊎◌, ◌↔◌, inl, inr, ⊎_elim}
use mathlib.Core.Bool.{true, false}
use mathlib.Core.List.{List, ◌++◌}
use Prim.Native.Nat.{ℕ, ◌*◌, ◌/◌, ◌^◌, ◌≤◌, ◌<◌}
use native.Mathlib.Omega.{arith}
use lib.ListN.{length, take, drop}
use Rattle.algebra.specs.Number.{Coprime}
use Rattle.algebra.specs.Polynomial.{after, degree, terms, limit, Same, Monic, Reduced}
use Rattle.algebra.specs.Pair.{Normal}
use Rattle.algebra.specs.Change.{Changed}
use Rattle.algebra.specs.Chain.{composed, Carried}
use Rattle.algebra.specs.Every.{CompleteChain, Earlier}
use Rattle.algebra.proofs.Factors.{coprime-invertible}
use Rattle.algebra.proofs.Chains as algebra-law
use Rattle.algebra.proofs.Lists.{earlier_not, earlier_trans}
use Rattle.refusal.specs.Refusal.{refusal}
use Rattle.refusal.specs.declared.Concerns.TheVariants.{Neither}
use Rattle.refusal.specs.declared.Reason.TheVariants.{Depth, Beyond}
use Rattle.refusal.specs.Refusal.{Outcome}
use Rattle.refusal.specs.Refusal.{Answered}
use Rattle.polynomial.specs.Moduli.{modulus, check_modulus}
use Rattle.polynomial.specs.Checks.{check_one, Accepted}
use Rattle.polynomial.specs.Answers.{Answer}
use Rattle.polynomial.specs.Answers.{Parts}
use Rattle.record.specs.Record.{checked}
use Rattle.record.specs.Record.{Checked}
use Rattle.record.proofs.Answers as record-law
use Rattle.pair.specs.Pairing.{compose, LeftPartOf, Splits}
use Rattle.pair.proofs.Determined as pair-law
use Rattle.demands.proofs.Exact as exact-law
use Rattle.pair.specs.Asking.{Verdict}
use Rattle.pair.specs.Asking.{QuickOf}
use Rattle.pair.proofs.Reports as report-law
use Rattle.demands.specs.Splitting.{ExactSplit, ExactLeft, Agree, Reported, SplitCarried}
use Rattle.demands.proofs.Quick as quick-law
use Rattle.change.specs.declared.Change.{Change}
use Rattle.change.specs.Changing.{Made}
use Rattle.change.specs.Changing.{identity, ChangesPolynomial, ChangesPair, Combines, Undoing}
use Rattle.change.proofs.Determined as change-law
use Rattle.area.specs.Area.{part_of, area_words, written, handed_out}
use Rattle.chain.specs.Chaining.{Chained}
use Rattle.chain.specs.Chaining.{ChainOf}
use Rattle.chain.proofs.Promises as chain-law
use Rattle.demands.specs.Chains.{Complete, Carries, ChainCarried, NthParts, Appears, NthCarried, without_tries}
use Rattle.demands.proofs.Chain as parts-law
use Rattle.demands.proofs.Chains as every-law
use Rattle.demands.proofs.Order as order-law
use Rattle.demands.proofs.Changes as combine-law
use Rattle.demands.specs.Sheets.{ValidParts, ComposedOf, Again}
use Rattle.demands.proofs.Sheets as round-law
use Rattle.chains.specs.Choosing.{Numbered}
use Rattle.chains.specs.Choosing.{Chosen}
use Rattle.chains.specs.Choosing.{NumberOf, NthOf}
use Rattle.chains.proofs.Promises as chains-law
use Rattle.sheet.specs.Answers.{Contents}
use Rattle.sheet.specs.Sheet.{sheet_bytes}
use Rattle.sheet.specs.Answers.{ReadsSheet, WritesSheet}
use Rattle.sheet.proofs.Words.{Bytes}
use Rattle.sheet.proofs.Promises as sheet-law
use Rattle.text.specs.Answers.{Written}
use Rattle.text.specs.Grammar.{Sum, spell, Fits, most_deep}
use Rattle.text.specs.Language.{Start, FaultAt, Ninth}
use Rattle.text.specs.Answers.{Sized, ReadsText, WritesText}
use Rattle.text.proofs.Spelling as spelling-law
use Rattle.text.proofs.Exact as text-fault
use Rattle.text.proofs.Promises as text-law
use Rattle.demands.specs.Texts.{Language, Means, FirstFault}
use Rattle.demands.proofs.Texts as meaning-law
use Rattle.text.proofs.Writing as writing-law
use Rattle.demands.proofs.SplitChanged as split-law
use Rattle.demands.proofs.SplitChanged.{altered}
use Rattle.demands.proofs.ChainChanged as read-law

-- Demand 1: two answers to one request are equal, refused ones too

pub record_answer : (b : List ℕ) {x y : Checked} → x ≡ checked b → y ≡ checked b → x ≡ y
record_answer = record-law.check_unique

pub compose-answer : (m : ℕ) (g h : List ℕ) {x y : Answer} → x ≡ compose m g h → y ≡ compose m g h → x ≡ y
compose-answer = pair-law.compose_determined

pub left-part-answer : {m : ℕ} {f h : List ℕ} → length f ≡ terms → length h ≡ terms → {x y : Answer} → LeftPartOf m f h x → LeftPartOf m f h y → x ≡ y
left-part-answer = pair-law.left-part_determined

pub split_answer : {m r : ℕ} {f : List ℕ} → length f ≡ terms → {x y : Parts} → Splits m f r x → Splits m f r y → x ≡ y
split_answer = pair-law.split_determined

pub quick_answer : {m r : ℕ} {f : List ℕ} → length f ≡ terms → {x y : Verdict} → QuickOf m f r x → QuickOf m f r y → x ≡ y
quick_answer = report-law.quick_determined

pub change_polynomial-answer : {m : ℕ} {f : List ℕ} {c : Change} {x y : Answer} → ChangesPolynomial m f c x → ChangesPolynomial m f c y → x ≡ y
change_polynomial-answer = change-law.change_polynomial_determined

pub change_pair-answer : {m : ℕ} {g h : List ℕ} {c : Change} {x y : Parts} → ChangesPair m g h c x → ChangesPair m g h c y → x ≡ y
change_pair-answer = change-law.change_pair_determined

pub combine_answer : {m : ℕ} {c d : Change} {x y : Made} → Combines m c d x → Combines m c d y → x ≡ y
combine_answer = change-law.combine_determined

pub undo_answer : {m : ℕ} {c : Change} {x y : Made} → Undoing m c x → Undoing m c y → x ≡ y
undo_answer = change-law.undo_determined

-- with every word of the area
pub chain-answer : {m : ℕ} {f xs ys zs : List ℕ} {x y : Chained} → length f ≡ terms → ChainOf m f xs ys x → ChainOf m f xs zs y → (x ≡ y) × (ys ≡ zs)
chain-answer = chain-law.chain_determined

pub count-chains-answer : {m : ℕ} {f : List ℕ} → length f ≡ terms → {x y : Numbered} → NumberOf m f x → NumberOf m f y → x ≡ y
count-chains-answer = chains-law.number_determined

-- with every word of the area
pub nth-chain-answer : {m : ℕ} {f : List ℕ} → length f ≡ terms → {j : ℕ} {xs ys zs : List ℕ} {x y : Chosen} → NthOf m f j xs ys x → NthOf m f j xs zs y → (x ≡ y) × (ys ≡ zs)
nth-chain-answer = chains-law.nth_determined

pub part-answer : (xs : List ℕ) (i : ℕ) {p q : List ℕ} → p ≡ part_of xs i → q ≡ part_of xs i → p ≡ q
part-answer xs i e f = e ∙ sym f

pub write_sheet_answer : {w : ℕ} {xs b c d : List ℕ} {o p : Outcome} → WritesSheet w xs b c o → WritesSheet w xs b d p → (o ≡ p) × (c ≡ d)
write_sheet_answer = sheet-law.write_determined

pub read_sheet_answer : {b xs ys zs : List ℕ} {x y : Contents} → ReadsSheet b xs ys x → ReadsSheet b xs zs y → (x ≡ y) × (ys ≡ zs)
read_sheet_answer = sheet-law.read_determined

pub read-text-answer : {m : ℕ} {w : List ℕ} {x y : Answer} → ReadsText m w x → ReadsText m w y → x ≡ y
read-text-answer = text-law.read_determined

-- with every byte of the area
pub write_text-answer : {m : ℕ} {f xs ys zs : List ℕ} {x y : Written} → WritesText m f xs ys x → WritesText m f xs zs y → (x ≡ y) × (ys ≡ zs)
write_text-answer = text-law.write_determined

-- Demand 2

pub quick_exact : {m r : ℕ} {f : List ℕ} → length f ≡ terms → {x : Verdict} {y : Parts} → QuickOf m f r x → Splits m f r y → Agree m f r x y
quick_exact = quick-law.quick_split

pub quick_report : {m r : ℕ} {f : List ℕ} → length f ≡ terms → {x : Verdict} → QuickOf m f r x → x.outcome ≡ Answered → x.splits ≡ false → Reported m f r (degree f / r) x.power
quick_report = quick-law.quick_report

pub quick_zero : {m r : ℕ} {f : List ℕ} → length f ≡ terms → {x : Verdict} → QuickOf m f r x → x.outcome ≡ Answered → (x.power ≡ 0) ↔ (x.splits ≡ true)
quick_zero = quick-law.quick_zero

pub split_exact : {m r s : ℕ} {f : List ℕ} → Accepted m f → 2 ≤ r → 2 ≤ s → r * s ≡ degree f → Coprime r m → {x : Parts} → Splits m f r x → ExactSplit m f r s x
split_exact = exact-law.split_exact

pub left-part_exact : {m r : ℕ} {f h : List ℕ} → Accepted m f → Accepted m h → 2 ≤ r → r * degree h ≡ degree f → {x : Answer} → LeftPartOf m f h x → ExactLeft m f h r x
left-part_exact = exact-law.left_exact

pub chain-composes : {m : ℕ} {f xs ys : List ℕ} {x : Chained} → length f ≡ terms → ChainOf m f xs ys x → x.outcome ≡ Answered
    → (parts : List (List ℕ)) × Complete m f xs ys x parts
chain-composes = parts-law.chain-complete

pub nth-chain-composes : {m j : ℕ} {f xs ys : List ℕ} {x : Chosen} → length f ≡ terms → NthOf m f j xs ys x → x.outcome ≡ Answered
    → (parts : List (List ℕ)) × NthParts m f j xs ys x parts
nth-chain-composes = every-law.nth-complete

pub every-chain_appears : {m : ℕ} {f : List ℕ} → length f ≡ terms → {x : Numbered} → NumberOf m f x → x.outcome ≡ Answered
    → (parts : List (List ℕ)) → CompleteChain m f parts → Appears m f x parts
every-chain_appears = every-law.each_appears

pub nth-chain_exact : {m : ℕ} {f : List ℕ} {x : Numbered} → length f ≡ terms → NumberOf m f x → x.outcome ≡ Answered → {j : ℕ} {xs ys : List ℕ} {y : Chosen}
    → area_words ≤ length xs → NthOf m f j xs ys y → ((y.outcome ≡ Answered) ↔ (j < x.number)) × ((y.outcome ≡ refusal Neither Beyond) ↔ (x.number ≤ j))
nth-chain_exact = every-law.nth_exact

pub chains_in_order : {m : ℕ} {f : List ℕ} → length f ≡ terms → {i j : ℕ} {xs ys xs' ys' : List ℕ} {x x' : Chosen} → i < j → NthOf m f i xs ys x → NthOf m f j xs' ys' x'
    → x.outcome ≡ Answered → x'.outcome ≡ Answered → Earlier (handed_out ys x.parts) (handed_out ys' x'.parts)
chains_in_order = every-law.nth_in_order

pub order_strict : ((x : List (List ℕ)) → Earlier x x → ⊥) × ((x y z : List (List ℕ)) → Earlier x y → Earlier y z → Earlier x z)
order_strict = (earlier_not, λ x y z. earlier_trans)

pub order-within : {m n : ℕ} {f : List ℕ} {x y : List (List ℕ)} → 2 ≤ m → Monic m n f → CompleteChain m f x → CompleteChain m f y
    → (e : Earlier x y) → (e.place < length x) × (e.place < length y)
order-within = order-law.earlier_within

pub first-chain : {m : ℕ} {f xs ys : List ℕ} {x : Chained} → length f ≡ terms → {zs : List ℕ} {y : Chosen} → ChainOf m f xs ys x → NthOf m f 0 xs zs y
    → (y ≡ without_tries x) × (zs ≡ ys)
first-chain = every-law.nth-first

pub chains-within : {m : ℕ} {f : List ℕ} → length f ≡ terms → {x : Numbered} → NumberOf m f x → x.outcome ≡ Answered → (1 ≤ x.number) × (x.number ≤ degree f * degree f)
chains-within = every-law.number-within

pub round_trip : {m : ℕ} {g h : List ℕ} → Accepted m g → Accepted m h → degree g * degree h ≤ limit → Normal m h → Coprime (degree g) m
    → {y : Parts} → Splits m (compose m g h).polynomial (degree g) y → y ≡ record { outcome = Answered; left = g; right = h }
round_trip = pair-law.round_trip

-- Demand 3

-- f' is what the change of f answers; y and z are the splits of f and of f'
pub split_carried : {m : ℕ} {c : Change} {f : List ℕ} {w : Answer} → length f ≡ terms → ChangesPolynomial m f c w → w.outcome ≡ Answered
    → (r : ℕ) {y z : Parts} → Splits m f r y → Splits m w.polynomial r z → SplitCarried m c y z
split_carried long k o = split-law.split_changed (altered long k o)

pub quick_carried : {m : ℕ} {c : Change} {f : List ℕ} {w : Answer} → length f ≡ terms → ChangesPolynomial m f c w → w.outcome ≡ Answered
    → (r : ℕ) {y z : Verdict} → QuickOf m f r y → QuickOf m w.polynomial r z → z ≡ y
quick_carried long k o = split-law.quick_changed (altered long k o)

-- for any f that the chain accepts: the chain of the changed f has the parts with the change carried from the right
pub chain-carried : {m a b : ℕ} {f f' xs ys xs' ys' : List ℕ} {x x' : Chained} → length f ≡ terms → Coprime a m → Changed m (degree f) a b f f'
    → ChainOf m f xs ys x → ChainOf m f' xs' ys' x' → Reduced m f' → area_words ≤ length xs' → x.outcome ≡ Answered
    → (parts parts' : List (List ℕ)) × Complete m f xs ys x parts × Complete m f' xs' ys' x' parts' × Carries m a b x x' parts parts'
chain-carried = parts-law.chain-carried

-- and whether the chain takes f or refuses it by 5, it does the same with the changed f
pub chain-outcome-carried : {m a b : ℕ} {f f' xs ys xs' ys' : List ℕ} {x x' : Chained} → length f ≡ terms → Coprime a m → Changed m (degree f) a b f f'
    → ChainOf m f xs ys x → ChainOf m f' xs' ys' x' → Reduced m f' → area_words ≤ length xs' → area_words ≤ length xs → check_one m f ≡ Answered → x'.outcome ≡ x.outcome
chain-outcome-carried = parts-law.outcome-changed

-- f' is what the change of f answers; ys and ys' are the areas of f and of f' afterwards, read back part by part
pub chain-read_back : {m : ℕ} {c : Change} {f xs ys xs' ys' : List ℕ} {w : Answer} {x x' : Chained} → length f ≡ terms → ChangesPolynomial m f c w → w.outcome ≡ Answered
    → area_words ≤ length xs → area_words ≤ length xs' → ChainOf m f xs ys x → ChainOf m w.polynomial xs' ys' x' → ChainCarried m c ys ys' x x'
chain-read_back long k o = read-law.chain-changed (altered long k o)

-- f' is what the change of f answers: it has as many complete chains
pub count-chains-carried : {m : ℕ} {c : Change} {f : List ℕ} {w : Answer} {x x' : Numbered} → length f ≡ terms → ChangesPolynomial m f c w → w.outcome ≡ Answered
    → NumberOf m f x → NumberOf m w.polynomial x' → x' ≡ x
count-chains-carried long k o = let z = altered long k o in every-law.number-changed z.long z.proper.invertible z.changed z.reduced z.accepted

-- and its j-th chain, read back from its area, is that of f with the change carried from the right
pub nth-chain-carried : {m j : ℕ} {c : Change} {f xs ys xs' ys' : List ℕ} {w : Answer} {x x' : Chosen} → length f ≡ terms → ChangesPolynomial m f c w → w.outcome ≡ Answered
    → area_words ≤ length xs → area_words ≤ length xs' → NthOf m f j xs ys x → NthOf m w.polynomial j xs' ys' x' → NthCarried m c.unit c.origin ys ys' x x'
nth-chain-carried long k o = let z = altered long k o in every-law.nth-changed z.long z.proper.invertible z.changed z.reduced z.accepted

-- so that "the change carried through the parts" is one list of parts
pub carried_unique : {m a b : ℕ} {parts x y : List (List ℕ)} → 2 ≤ m → Coprime a m → Carried m a b parts x → Carried m a b parts y → x ≡ y
carried_unique {m} two unit = algebra-law.carried_unique two (coprime-invertible m (omega arith) unit)

-- c and d, then e; or c, then d and e
pub combine_associative : {m : ℕ} {c d e : Change} {x y z w : Made} → Combines m c d x → x.outcome ≡ Answered → Combines m x.change e y
    → Combines m d e z → z.outcome ≡ Answered → Combines m c z.change w → y ≡ w
combine_associative = combine-law.associative

pub combine_identity-left : {m : ℕ} {c : Change} {x : Made} → Combines m identity c x → x.outcome ≡ Answered → x.change ≡ c
combine_identity-left = combine-law.identity-left

pub combine_identity-right : {m : ℕ} {c : Change} {x : Made} → Combines m c identity x → x.outcome ≡ Answered → x.change ≡ c
combine_identity-right = combine-law.identity-right

-- w is what combine answers
pub combine_polynomial : {m : ℕ} {f : List ℕ} → length f ≡ terms → {c d : Change} {w : Made} {x y z : Answer} → Combines m c d w → w.outcome ≡ Answered
    → ChangesPolynomial m f c x → x.outcome ≡ Answered → ChangesPolynomial m x.polynomial d y → y.outcome ≡ Answered → ChangesPolynomial m f w.change z → y ≡ z
combine_polynomial = combine-law.combined-polynomial

pub combine_pair : {m : ℕ} {g h : List ℕ} → length g ≡ terms → length h ≡ terms → {c d : Change} {w : Made} {x y z : Parts} → Combines m c d w → w.outcome ≡ Answered
    → ChangesPair m g h c x → x.outcome ≡ Answered → ChangesPair m x.left x.right d y → y.outcome ≡ Answered → ChangesPair m g h w.change z → y ≡ z
combine_pair = combine-law.combined-pair

-- whatever its h(0) was
pub pair-made-normal : {m : ℕ} {g h : List ℕ} {x : Parts} → length g ≡ terms → length h ≡ terms → ChangesPair m g h identity x → x.outcome ≡ Answered
    → Normal m x.right × Same m (after g h) (after x.left x.right)
pair-made-normal = combine-law.made-normal

-- Chain sheets

pub sheet_composes : {b xs ys : List ℕ} {x : Contents} → ReadsSheet b xs ys x → x.outcome ≡ Answered → ComposedOf (modulus x.modulus) ys x.polynomial
sheet_composes = round-law.read-composes

-- w is a word
pub sheet_again : {w : ℕ} {xs b c ys zs : List ℕ} {o : Outcome} {x : Contents} → w < 2 ^ 32 → WritesSheet w xs b c o → o ≡ Answered → ReadsSheet c ys zs x
    → area_words ≤ length ys → Again w xs ys zs x
sheet_again = round-law.write_read

-- xs is the area ws with the parts in it
pub sheet_parts : (w : ℕ) {parts : List (List ℕ)} → ValidParts (modulus w) parts → (ws : List ℕ) {xs : List ℕ} → area_words ≤ length ws → xs ≡ written ws parts
    → {b c : List ℕ} {o : Outcome} → WritesSheet w xs b c o → sheet_bytes ≤ length b → {f ys zs : List ℕ} {x : Contents} → w < 2 ^ 32 → Reduced (modulus w) f
    → Same (modulus w) f (composed parts) → ReadsSheet c ys zs x → area_words ≤ length ys → (o ≡ Answered) × Again w xs ys zs x × (x.polynomial ≡ f)
sheet_parts w p ws before is wrote bytes small red same r words =
    let (again, f) = round-law.parts-read w p ws before is wrote bytes small red same r words in
    (round-law.parts-written w p ws before is wrote bytes, again, f)

pub sheet_chain : {w : ℕ} {f ws xs : List ℕ} {y : Chained} → length f ≡ terms → ChainOf (modulus w) f ws xs y → y.outcome ≡ Answered
    → {b c : List ℕ} {o : Outcome} → WritesSheet w xs b c o → sheet_bytes ≤ length b → {ys zs : List ℕ} {x : Contents} → w < 2 ^ 32
    → ReadsSheet c ys zs x → area_words ≤ length ys → (o ≡ Answered) × Again w xs ys zs x × (x.polynomial ≡ f)
sheet_chain long chain given wrote bytes small r words =
    let (again, f) = round-law.chain-read long chain given wrote bytes small r words in
    (round-law.chain-written long chain given wrote bytes, again, f)

-- b has bytes
pub sheet_back : {b xs ys d c : List ℕ} {x : Contents} {o : Outcome} → Bytes b → ReadsSheet b xs ys x → x.outcome ≡ Answered → WritesSheet x.modulus ys d c o
    → sheet_bytes ≤ length d → (o ≡ Answered) × (c ≡ take sheet_bytes b ++ drop sheet_bytes d)
sheet_back = round-law.read_write

-- Typed polynomials

pub text_language : {m : ℕ} {w : List ℕ} {r : Answer} → check_modulus m ≡ Answered → ReadsText m w r → Language w r
text_language = meaning-law.read_language

pub text-one-meaning : (s t : Sum) → Fits s most_deep 0 → Fits t most_deep 0 → spell s ≡ spell t → s ≡ t
text-one-meaning = spelling-law.one-meaning most_deep

pub text-meaning : {m : ℕ} {w : List ℕ} {r : Answer} → ReadsText m w r → r.outcome ≡ Answered → Means m w r.polynomial
text-meaning = meaning-law.read-accepted

pub text-first-fault : (w : List ℕ) → Start most_deep w ⊎ FirstFault w
text-first-fault w = ⊎_elim inl (λ (before, byte, first). inr (record { before = before; byte = byte; first = first })) (text-fault.fault_or_start w)

pub text-fault-one : {w b c : List ℕ} {x y : ℕ} → FaultAt w b x → FaultAt w c y → (b ≡ c) × (x ≡ y)
text-fault-one = text-law.fault-one

pub text-ninth : {m : ℕ} {w : List ℕ} {r : Answer} → check_modulus m ≡ Answered → Sized w → ReadsText m w r → Ninth w ↔ (r.outcome ≡ refusal Neither Depth)
text-ninth = meaning-law.read-ninth

pub text-read_back : {m : ℕ} {f xs ys : List ℕ} {x : Written} {r : Answer} → length f ≡ terms → WritesText m f xs ys x → x.outcome ≡ Answered
    → ReadsText m (take x.length ys) r → r ≡ record { outcome = Answered; polynomial = f }
text-read_back = writing-law.written-read_back
