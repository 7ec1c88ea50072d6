-- What the steps of the reader and the writer hand on to each other. Only leaves need this.
--
--   put_word b j w            the record b with the word w in place j
--   put_record b i r          the sheet b with r in place i
--   Taken b xs ys o           o: each used record's own 1 to 4; where none refuses the area xs, now ys, holds the polynomials
--   TakesSheet b xs ys x      x: what the reader answers past No. 11, before it zeroes the places of the area after a refusal
--   Rising g                  every used one of g(0), g(1), .. has a degree of 1 or more, within the limit
--   Used b xs                 the area xs has the used places of the sheet b
--   Composes m g              every used one of g(0), g(1), .. is a part, and they compose within the limit
--   ComposedTo m g i p n      p is what the used ones of the first i compose to, modulo m, and n its degree
use Rattle.std.specs.Prelude.{◌≡◌, true, List, ◌++◌, ℕ, ◌*◌, ◌≤◌, ◌<◌, take, drop, Result, Ok, Err}
use Rattle.algebra.specs.Polynomial.{limit, degree, reduced}
use Rattle.algebra.specs.Chain.{composed, degrees, product}
use Rattle.refusal.specs.Refusal.{Outcome, Answered, Refused}
use Rattle.refusal.specs.declared.Refusal.{Refusal}
use Rattle.polynomial.specs.Moduli.{modulus}
use Rattle.area.specs.Area.{most_parts, area_words, place, cleared}
use Rattle.record.specs.Record.{word, record_bytes}
use Rattle.sheet.specs.Sheet.{record_at, used, bytes, held, area_of, parts_in, Parted}
use Rattle.sheet.specs.Checks.{check_records, check_sheet}
use Rattle.sheet.specs.declared.Sheet.{Sheet}

-- the four bytes of w, and nothing else changed
unfoldable pub put_word : List ℕ → ℕ → ℕ → List ℕ
put_word b j w = take (j * 4) b ++ (bytes w ++ drop 4 (drop (j * 4) b))

-- r in place i, and nothing else changed
unfoldable pub put_record : List ℕ → ℕ → List ℕ → List ℕ
put_record b i r = take (i * record_bytes) b ++ (r ++ drop record_bytes (drop (i * record_bytes) b))

-- after a refusal some places are filled, and what lies past them has not changed
pub record Taken (b xs ys : List ℕ) (o : Outcome) : Type 0 where
  pub outcome : o ≡ check_records b
  pub filled : o ≡ Answered → ys ≡ area_of b ++ drop area_words xs
  pub past : cleared ys ≡ cleared xs

-- the same of all checks past No. 11, and what is read where none refuses
pub data TakesSheet (b xs ys : List ℕ) (x : Result Sheet Refusal) : Type 0 where
  refused : {r : Refusal} → check_sheet b ≡ Refused r → cleared ys ≡ cleared xs → x ≡ Err r → TakesSheet b xs ys x
  taken : check_sheet b ≡ Answered → ys ≡ area_of b ++ drop area_words xs
      → x ≡ Ok (record { modulus = word b 0; polynomial = reduced (modulus (word b 0)) (composed (parts_in (held b) most_parts)) }) → TakesSheet b xs ys x

-- by one more used place the product of the degrees does not fall
pub record Rising (g : ℕ → List ℕ) : Type 0 where
  pub some : (i : ℕ) → i < most_parts → used (g i) ≡ true → 1 ≤ degree (g i)
  pub most : (i : ℕ) → i < most_parts → used (g i) ≡ true → degree (g i) ≤ limit

-- past 1 to 4 the used records are those with a used polynomial
pub record Used (b xs : List ℕ) : Type 0 where
  pub is : (i : ℕ) → i < most_parts → used (place xs i) ≡ used (record_at b i)

-- parts, and the composed degree is within the limit
pub record Composes (m : ℕ) (g : ℕ → List ℕ) : Type 0 where
  pub parts : Parted m g
  pub within : product (degrees (parts_in g most_parts)) ≤ limit

-- the composition of the first i places
pub record ComposedTo (m : ℕ) (g : ℕ → List ℕ) (i : ℕ) (p : List ℕ) (n : ℕ) : Type 0 where
  pub polynomial_is : p ≡ reduced m (composed (parts_in g i))
  pub degree_is : n ≡ product (degrees (parts_in g i))
