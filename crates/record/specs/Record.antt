-- A record: words of 4 bytes, low byte first. Word 0 is the modulus word, word 1 + i the coefficient of x^i.
--
--   word b i            word i of the bytes b
--   record_bytes        how many bytes a record has
--   coefficients b      words 1 to `terms`
--   check_record b      No. 9, then 1, 2, 3, 4
--   no_record o         the outcome o with zeros beside it, as after a refusal
--   checked_of x        what is returned for the result x of the code: what the record holds, or zeros beside its refusal
--   Checked             what is returned: an outcome, modulus word, polynomial and degree
--   checked b           the answer of the record check: modulus word, polynomial and degree, all zero after a refusal
use Rattle.std.specs.Prelude.{List, ℕ, ◌+◌, ◌*◌, ltb, length, get_or, replicate, Result, Ok, Err}
use Rattle.algebra.specs.Number.{table}
use Rattle.algebra.specs.Polynomial.{terms, degree}
use Rattle.refusal.specs.Refusal.{Outcome, Answered, Refused, refuse, ◌then◌}
use Rattle.refusal.specs.declared.Refusal.{Refusal}
use Rattle.refusal.specs.declared.Concerns.TheVariants.{Neither}
use Rattle.refusal.specs.declared.Reason.TheVariants.{Short}
use Rattle.polynomial.specs.Moduli.{modulus}
use Rattle.polynomial.specs.Checks.{check_one}
use Rattle.record.specs.declared.Record.{Record}

-- four bytes, low byte first
unfoldable pub word : List ℕ → ℕ → ℕ
word b i = get_or b (4 * i) 0 + 256 * (get_or b (4 * i + 1) 0 + 256 * (get_or b (4 * i + 2) 0 + 256 * get_or b (4 * i + 3) 0))

-- the words of the modulus and the coefficients, 4 bytes each
unfoldable pub record_bytes : ℕ
record_bytes = 4 * (terms + 1)

-- the polynomial that the record holds
unfoldable pub coefficients : List ℕ → List ℕ
coefficients b = table terms (λ i. word b (i + 1))

-- fewer bytes than a record has; then the checks of one polynomial
unfoldable pub check_record : List ℕ → Outcome
check_record b = refuse (ltb (length b) record_bytes) Neither Short then check_one (modulus (word b 0)) (coefficients b)

-- a record of zeros, as it is handed out after a refusal
abbrev pub zeros : Record
zeros = record { modulus = 0; polynomial = replicate terms 0; degree = 0 }

-- what is returned: an outcome beside what the record holds, its modulus as the word that stands there
pub record Checked : Type 0 where
  pub outcome : Outcome
  pub modulus : ℕ
  pub polynomial : List ℕ
  pub degree : ℕ

-- zeros beside an outcome
unfoldable pub no_record : Outcome → Checked
no_record o = record { outcome = o; modulus = 0; polynomial = replicate terms 0; degree = 0 }

-- what is returned beside an outcome
abbrev pub answer : Outcome → List ℕ → Checked
answer (Ok x) b = record { outcome = Answered; modulus = word b 0; polynomial = coefficients b; degree = degree (coefficients b) }
answer (Err r) b = no_record (Refused r)

-- the answer
unfoldable pub checked : List ℕ → Checked
checked b = answer (check_record b) b

-- what is returned for the result x: what the record holds, or zeros beside the refusal
abbrev pub checked_of : Result Record Refusal → Checked
checked_of (Ok x) = record { outcome = Answered; modulus = x.modulus; polynomial = x.polynomial; degree = x.degree }
checked_of (Err r) = no_record (Refused r)
