-- The listing: the lines of records, as 01 has them.
--
--   zero_area                  an area of zeros
--   chain_numbers n ys x       the numbers that a chain's answer x gives in a line; n is the degree of f, ys the area afterwards
--   Line b k text              text is the line of the record whose bytes are b and whose number is k
--   Lines b k text             text is the lines of the records that b is cut into, numbered from k on
--   LineIn b k xs ys r         the line of b stands at the start of ys, which was xs, and r is its length
--   AcceptedIn m f k xs ys r   the same for a record whose check accepts its words m and f
--   most_records, most_lines   how many records are listed at a time, and the most bytes of their lines
--   LinesIn b k xs ys r        the lines of b stand at the start of ys, which was xs, and r is their length
use Rattle.std.specs.Prelude.{◌≡◌, List, [], ◌∷◌, ◌++◌, ℕ, ◌+◌, ◌*◌, ◌<◌, length, take, drop, replicate, Ok, Err}
use Rattle.algebra.specs.Number.{table}
use Rattle.algebra.specs.Polynomial.{degree}
use Rattle.refusal.specs.Refusal.{number}
use Rattle.refusal.specs.declared.Refusal.{Refusal}
use Rattle.refusal.specs.Refusal.{Answered, Refused}
use Rattle.digits.specs.Digits.{Put}
use Rattle.polynomial.specs.Moduli.{modulus}
use Rattle.area.specs.Area.{area_words, place}
use Rattle.chain.specs.Chaining.{Chained, ChainOf}
use Rattle.record.specs.Record.{word, record_bytes, coefficients, check_record}
use Rattle.listing.specs.Text.{most_line, fields}

-- the area that the listing lends to a chain
abbrev pub zero_area : List ℕ
zero_area = replicate area_words 0

-- of a refusal its number alone; of an answer 0, the degree, parts, tries, price, and the degrees of the parts in their places
abbrev pub chain_numbers : ℕ → List ℕ → Chained → List ℕ
chain_numbers n ys x = elim x.outcome [
  | Ok _ ↦ 0 ∷ n ∷ x.parts ∷ x.tries ∷ x.price ∷ table x.parts (λ i. degree (place ys i))
  | Err r ↦ number r.reason ∷ []
]

-- a record that its check refuses gives the refusal's number; any other the numbers of its chain
pub data Line (b : List ℕ) (k : ℕ) (text : List ℕ) : Type 0 where
  refused : {r : Refusal} → check_record b ≡ Refused r → text ≡ fields k (number r.reason ∷ []) → Line b k text
  chained : {x : Chained} {ys : List ℕ} → check_record b ≡ Answered → ChainOf (modulus (word b 0)) (coefficients b) zero_area ys x
      → text ≡ fields k (chain_numbers (degree (coefficients b)) ys x) → Line b k text

-- no line for no bytes; the last record may be short
pub data Lines : List ℕ → ℕ → List ℕ → Type 0 where
  none : {b : List ℕ} {k : ℕ} {text : List ℕ} → b ≡ [] → text ≡ [] → Lines b k text
  more : {b : List ℕ} {k : ℕ} {t u text : List ℕ} → 0 < length b → Line (take record_bytes b) k t → Lines (drop record_bytes b) (k + 1) u → text ≡ t ++ u → Lines b k text

-- the line of a record in a buffer, and nothing else has changed
pub record LineIn (b : List ℕ) (k : ℕ) (xs ys : List ℕ) (r : ℕ) : Type 0 where
  pub text : List ℕ
  pub line : Line b k text
  pub put : Put xs 0 text most_line ys r

-- the line of a record whose check accepts its words m and f
pub record AcceptedIn (m : ℕ) (f : List ℕ) (k : ℕ) (xs ys : List ℕ) (r : ℕ) : Type 0 where
  pub answer : Chained
  pub area : List ℕ
  pub chain : ChainOf (modulus m) f zero_area area answer
  pub put : Put xs 0 (fields k (chain_numbers (degree f) area answer)) most_line ys r

-- so many records go through the program's memory at a time
unfoldable pub most_records : ℕ
most_records = 128

-- a line for each
unfoldable pub most_lines : ℕ
most_lines = most_records * most_line

-- the lines of several records in a buffer, and nothing else has changed
pub record LinesIn (b : List ℕ) (k : ℕ) (xs ys : List ℕ) (r : ℕ) : Type 0 where
  pub text : List ℕ
  pub lines : Lines b k text
  pub put : Put xs 0 text most_lines ys r
