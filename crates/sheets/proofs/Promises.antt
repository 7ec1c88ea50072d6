-- The promises of the program `sheets`.
--
--   sheet_determined     two sheets of one record are equal
--   sheets_determined    so are two outputs for the same bytes
--   pieces               the sheets of whole records and then the sheets of what follows them are the sheets of all
--   run_sheeted          what a run that has come to its end has put is the sheets of its input, whatever the pieces
--   refused_sheet        the sheet of a record that is refused is zero bytes
--   refused-read         which the reader refuses by No. 12
--   record_read          the sheet of any other record, read, gives its modulus word and its polynomial
use mathlib.Core.Path.{◌≡◌, sym, ap, ap₂, subst, ◌∙◌}
use mathlib.Core.List.{List, ◌++◌}
use Prim.Native.Nat.{ℕ, suc, ◌+◌, ◌*◌, ◌-◌, ◌%◌, ◌≤◌, ◌<◌}
use native.Mathlib.Nat as N
use native.Mathlib.Omega.{arith}
use native.Mathlib.Decide.{dec_lt}
use lib.ListN.{length, take, drop, replicate, length-append, length-replicate}
use lib.Seq.{take_all, drop-append-add}
use Rattle.algebra.specs.Number.{Coprime}
use Rattle.algebra.specs.Polynomial.{limit, terms, degree}
use Rattle.refusal.specs.Refusal.{refusal}
use Rattle.refusal.specs.declared.Concerns.TheVariants.{Neither}
use Rattle.refusal.specs.declared.Reason.TheVariants.{Sheet}
use Rattle.refusal.specs.Refusal.{Answered}
use Rattle.refusal.proofs.Outcomes.{never}
use Rattle.polynomial.specs.Moduli.{modulus}
use Rattle.area.specs.Area.{area_words}
use Rattle.record.specs.Record.{word, record_bytes, coefficients, check_record}
use Rattle.record.proofs.Answers.{coefficients-long, one-checked}
use Rattle.chain.specs.Chaining.{Chained}
use Rattle.chain.proofs.Promises.{chain_determined, chain_exact}
use Rattle.sheet.specs.Answers.{Contents}
use Rattle.sheet.specs.Sheet.{sheet_bytes, record_at, joined, sheet_of}
use Rattle.sheet.specs.Answers.{ReadsSheet}
use Rattle.sheet.proofs.Joining.{joined_ext, pieces as cut_and_joined}
use Rattle.sheet.proofs.Words.{Bytes, word_small}
use Rattle.demands.proofs.Sheets.{chain_sheet, blank_refused}
use Rattle.reading.specs.Running.{Whole}
use Rattle.reading.proofs.Running.{whole}
use Rattle.sheets.specs.Sheets.{SheetOf, records, sheet_at, SheetsOf, Makes}
use Rattle.sheets.specs.Sheets as of
use Rattle.sheets.proofs.Pieces.{front}

-- two sheets of one record are equal
pub sheet_determined : {b c d : List ℕ} → SheetOf b c → SheetOf b d → c ≡ d
sheet_determined (of.refused e a) (of.refused f d) = a ∙ sym d
sheet_determined (of.refused e a) (of.unchained f k o d) = a ∙ sym d
sheet_determined (of.refused e a) (of.chained f k o d) = absurd (never e f)
sheet_determined (of.unchained e k o a) (of.refused f d) = a ∙ sym d
sheet_determined (of.unchained e k o a) (of.unchained f l p d) = a ∙ sym d
sheet_determined {b} (of.unchained e k o a) (of.chained f l p d) =
    let (x, y) = chain_determined (coefficients-long b) k l in absurd (never o (ap (λ (x : Chained). x.outcome) x ∙ p))
sheet_determined (of.chained e k o a) (of.refused f d) = absurd (never f e)
sheet_determined {b} (of.chained e k o a) (of.unchained f l p d) =
    let (x, y) = chain_determined (coefficients-long b) k l in absurd (never p (ap (λ (x : Chained). x.outcome) (sym x) ∙ o))
sheet_determined {b} (of.chained e k o a) (of.chained f l p d) =
    let (x, y) = chain_determined (coefficients-long b) k l in a ∙ ap (sheet_of (word b 0)) y ∙ sym d

-- two outputs for the same bytes are equal
pub sheets_determined : {b t u : List ℕ} → SheetsOf b t → SheetsOf b u → t ≡ u
sheets_determined {b} {t} {u} x y = sym (whole t x.long) ∙ joined_ext (records (length b)) (sheet_at t) (sheet_at u) (λ i l. sheet_determined (x.each i l) (y.each i l)) ∙ whole u y.long
  where
    whole : (v : List ℕ) → length v ≡ records (length b) * sheet_bytes → joined (records (length b)) (sheet_at v) ≡ v
    whole v long = cut_and_joined sheet_bytes (records (length b)) v ∙ take_all (records (length b) * sheet_bytes) v (omega arith)

-- the sheets of whole records, and then the sheets of what follows them
pub pieces : {b t c u : List ℕ} → length b % record_bytes ≡ 0 → SheetsOf b t → SheetsOf c u → SheetsOf (b ++ c) (t ++ u)
unfolding records record_bytes terms limit
pieces {b} {t} {c} {u} even x y = record { long = long; each = λ i l. go i l (dec_lt i n) }
  where
    n : ℕ
    n = records (length b)

    bytes : length b ≡ n * record_bytes
    bytes = omega arith

    all : records (length (b ++ c)) ≡ n + records (length c)
    all = omega (arith, length-append b c)

    long : length (t ++ u) ≡ records (length (b ++ c)) * sheet_bytes
    long = length-append t u ∙ ap₂ ◌+◌ x.long y.long ∙ sym (N.add-mul n (records (length c)) sheet_bytes) ∙ ap (λ (k : ℕ). k * sheet_bytes) (sym all)

    -- piece i past the first n of the list p
    past : (w : ℕ) (p q : List ℕ) (i : ℕ) → length p ≡ n * w → n ≤ i → take w (drop (i * w) (p ++ q)) ≡ take w (drop ((i - n) * w) q)
    past w p q i e l =
        let k : n + (i - n) ≡ i = omega arith in
        let f : i * w ≡ length p + (i - n) * w = ap (λ (j : ℕ). j * w) (sym k) ∙ N.add-mul n (i - n) w ∙ ap (λ (j : ℕ). j + (i - n) * w) (sym e) in
        ap (λ (j : ℕ). take w (drop j (p ++ q))) f ∙ ap (take w) (drop-append-add p q ((i - n) * w))

    go : (i : ℕ) → i < records (length (b ++ c)) → Dec (i < n) → SheetOf (record_at (b ++ c) i) (sheet_at (t ++ u) i)
    go i l (yes h) =
        rw (front record_bytes b c i (omega (arith, bytes)), front sheet_bytes t u i (omega (arith, x.long, N.mul-le-mul_right {m = suc i} {n = n} sheet_bytes h))) (x.each i h)
    go i l (no h) =
        rw (past record_bytes b c i bytes (omega arith), past sheet_bytes t u i x.long (omega arith)) (y.each (i - n) (omega (arith, all)))

-- sheets written piece by piece are the sheets of all
pub run_sheeted : {input out : List ℕ} → Whole Makes input out → SheetsOf input out
unfolding records record_bytes terms limit
run_sheeted = whole (record { none = record { long = sym (N.zero-mul sheet_bytes); each = λ i l. absurd (N.not-suc-le-zero l) }; pieces = λ b t c u k even first others. pieces even first others })

-- the blank area is long enough
room : area_words ≤ length (replicate {A = ℕ} area_words 0)
room = omega (arith, length-replicate {A = ℕ} area_words 0)

-- a record that is refused, by its check or since n and m share a factor, gives zero bytes
pub refused_sheet : {b c : List ℕ} → SheetOf b c → (check_record b ≡ Answered → Coprime (degree (coefficients b)) (modulus (word b 0)) → ⊥) → c ≡ replicate sheet_bytes 0
refused_sheet (of.refused e a) never_both = a
refused_sheet (of.unchained e k o a) never_both = a
refused_sheet {b} (of.chained e k o a) never_both = absurd (never_both e ((chain_exact room (one-checked b e) k).0.0 o))

-- which the reader refuses by No. 12
pub refused-read : {b c xs ys : List ℕ} {x : Contents} → SheetOf b c → (check_record b ≡ Answered → Coprime (degree (coefficients b)) (modulus (word b 0)) → ⊥)
    → ReadsSheet c xs ys x → area_words ≤ length xs → x.outcome ≡ refusal Neither Sheet
refused-read {xs = xs} {ys} {x} s never_both r words = blank_refused (subst (λ (c : List ℕ). ReadsSheet c xs ys x) (refused_sheet s never_both) r) words

-- any other record's sheet, read, gives the record's modulus word and its polynomial
pub record_read : {b c xs ys : List ℕ} {x : Contents} → Bytes b → SheetOf b c → check_record b ≡ Answered → Coprime (degree (coefficients b)) (modulus (word b 0))
    → ReadsSheet c xs ys x → area_words ≤ length xs → (x.outcome ≡ Answered) × (x.modulus ≡ word b 0) × (x.polynomial ≡ coefficients b)
record_read small (of.refused e a) ok coprime r words = absurd (never e ok)
record_read {b} small (of.unchained e k o a) ok coprime r words = absurd (never o ((chain_exact room (one-checked b ok) k).0.1 coprime))
record_read {b} {c} {xs} {ys} {x} small (of.chained e k o a) ok coprime r words =
    let (again, same) = chain_sheet (word_small small 0) (coefficients-long b) k o (subst (λ (c : List ℕ). ReadsSheet c xs ys x) a r) words in
    (again.answered, again.same_modulus, same)
