-- The sheets of records.
--
--   SheetOf b c               c is the sheet of the record whose bytes are b: that of its chain, or zero bytes if it is refused
--   records n                 how many records n bytes are cut into, of which the last may be short
--   sheet_at out i            the bytes of sheet i
--   SheetsOf b out            out is the sheets of the records that b is cut into
--   most_sheets               how many records are read at a time
--   sheets_buffer             their bytes
--   SheetsIn b xs ys r        the sheets of b stand at the start of ys, which was xs, and r is their length
--   Makes b k out             the same as `SheetsOf`, for `RunOf` of `reading/specs/Running`: what a run promises
use Rattle.std.specs.Prelude.{◌≡◌, List, ℕ, ◌+◌, ◌-◌, ◌*◌, ◌/◌, ◌<◌, length, take, drop, replicate}
use Rattle.refusal.specs.declared.Refusal.{Refusal}
use Rattle.refusal.specs.Refusal.{Answered, Refused}
use Rattle.polynomial.specs.Moduli.{modulus}
use Rattle.area.specs.Area.{area_words}
use Rattle.record.specs.Record.{word, record_bytes, coefficients, check_record}
use Rattle.chain.specs.Chaining.{Chained}
use Rattle.chain.specs.Chaining.{ChainOf}
use Rattle.sheet.specs.Sheet.{sheet_bytes, record_at, sheet_of}

-- refused by its check, refused by the chain, or chained: then the sheet of the chain's area
pub data SheetOf (b c : List ℕ) : Type 0 where
  refused : {r : Refusal} → check_record b ≡ Refused r → c ≡ replicate sheet_bytes 0 → SheetOf b c
  unchained : {r : Refusal} {x : Chained} {ys : List ℕ} → check_record b ≡ Answered → ChainOf (modulus (word b 0)) (coefficients b) (replicate area_words 0) ys x
      → x.outcome ≡ Refused r → c ≡ replicate sheet_bytes 0 → SheetOf b c
  chained : {x : Chained} {ys : List ℕ} → check_record b ≡ Answered → ChainOf (modulus (word b 0)) (coefficients b) (replicate area_words 0) ys x
      → x.outcome ≡ Answered → c ≡ sheet_of (word b 0) ys → SheetOf b c

-- the last record may be short
unfoldable pub records : ℕ → ℕ
records n = (n + (record_bytes - 1)) / record_bytes

-- the bytes of sheet i
abbrev pub sheet_at : List ℕ → ℕ → List ℕ
sheet_at out i = take sheet_bytes (drop (i * sheet_bytes) out)

-- sheet i belongs to record i
pub record SheetsOf (b out : List ℕ) : Type 0 where
  pub long : length out ≡ records (length b) * sheet_bytes
  pub each : (i : ℕ) → i < records (length b) → SheetOf (record_at b i) (sheet_at out i)

-- so many records go through the program's memory at a time
unfoldable pub most_sheets : ℕ
most_sheets = 21

-- those of the records that are read at a time
unfoldable pub sheets_buffer : ℕ
sheets_buffer = most_sheets * record_bytes

-- sheets in a buffer, and nothing past them has changed
pub record SheetsIn (b xs ys : List ℕ) (r : ℕ) : Type 0 where
  pub sheets : SheetsOf b (take r ys)
  pub end : r ≡ records (length b) * sheet_bytes
  pub past : drop r ys ≡ drop r xs

-- what a run makes of its records, whatever their numbers
abbrev pub Makes : List ℕ → ℕ → List ℕ → Type 0
Makes b k out = SheetsOf b out
