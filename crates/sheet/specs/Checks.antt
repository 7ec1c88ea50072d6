-- The refusals of a sheet, in the order of the reader and in that of the writer.
--
--   each n c                  the checks c(0) to c(n - 1), left to right
--   check_room bytes words    No. 11
--   in_order u i              place i is where it may be, by the used places u
--   check_order u             No. 12 of the used places u: they are the first ones, and there is one
--   FirstOnes u k             in words: the used places are the first k, and k is not 0 (`order_exact`, `exact_order`)
--   check_moduli b            No. 12 of the moduli: every used record has that of the first
--   check_words w f i         1 to 4 of a record in place i, whose words are w and f
--   check_placed r i          1 to 4 of the record r in place i, if it is used, by its own modulus
--   check_records b           each used record's own 1 to 4
--   check_part m p i          2 to 4 of the part p in place i, if it is used
--   check_parts m xs          each used part's 2 to 4
--   check_product g           No. 10: the degrees of the used ones of g multiply to more than the limit
--   check_sheet b             the reader's checks past No. 11, in their order
--   check_writer w xs b       the writer's checks, in their order; check_area are those past No. 11
use Rattle.std.specs.Prelude.{◌≡◌, Bool, not, cond, ◌&&◌, ◌||◌, List, ℕ, zero, suc, ◌≤◌, ◌<◌, ltb, eqb, length}
use Rattle.algebra.specs.Polynomial.{limit}
use Rattle.algebra.specs.Chain.{degrees, product}
use Rattle.refusal.specs.Refusal.{refuse, ◌then◌}
use Rattle.refusal.specs.declared.Concerns.TheVariants.{Neither, Place}
use Rattle.refusal.specs.declared.Reason.TheVariants.{Limit, Area, Sheet}
use Rattle.refusal.specs.Refusal.{Outcome}
use Rattle.refusal.specs.Refusal.{Answered}
use Rattle.polynomial.specs.Moduli.{modulus, check_modulus}
use Rattle.polynomial.specs.Checks.{check_polynomial}
use Rattle.area.specs.Area.{most_parts, area_words, place}
use Rattle.record.specs.Record.{word, coefficients}
use Rattle.sheet.specs.Sheet.{sheet_bytes, record_at, used, held, parts_in}

-- the first that refuses decides
unfoldable pub each : ℕ → (ℕ → Outcome) → Outcome
each zero c = Answered
each (suc n) c = each n c then c n

-- fewer bytes than a sheet has, or fewer words than an area has
unfoldable pub check_room : ℕ → ℕ → Outcome
check_room bytes words = refuse (ltb bytes sheet_bytes || ltb words area_words) Neither Area

-- the first place is used, and any other only after a used one
abbrev pub in_order : (ℕ → Bool) → ℕ → Bool
in_order u zero = u zero
in_order u (suc i) = not (u (suc i)) || u i

-- the used places are not the first ones, or none is used
unfoldable pub check_order : (ℕ → Bool) → Outcome
check_order u = each most_parts (λ i. refuse (not (in_order u i)) Neither Sheet)

-- a used record has not the modulus of the first
unfoldable pub check_moduli : List ℕ → Outcome
check_moduli b = each most_parts (λ i. refuse (used (record_at b i) && not (eqb (word (record_at b i) 0) (word b 0))) Neither Sheet)

-- by the modulus that the word w means
unfoldable pub check_words : ℕ → List ℕ → ℕ → Outcome
check_words w f i = check_modulus (modulus w) then check_polynomial (Place i) (modulus w) f

-- a place that is not used passes
unfoldable pub check_placed : List ℕ → ℕ → Outcome
check_placed r i = cond (used r) (check_words (word r 0) (coefficients r) i) Answered

-- one record after the other, left to right
unfoldable pub check_records : List ℕ → Outcome
check_records b = each most_parts (λ i. check_placed (record_at b i) i)

-- a place that is not used passes
unfoldable pub check_part : ℕ → List ℕ → ℕ → Outcome
check_part m p i = cond (used p) (check_polynomial (Place i) m p) Answered

-- one part after the other, left to right
unfoldable pub check_parts : ℕ → List ℕ → Outcome
check_parts m xs = each most_parts (λ i. check_part m (place xs i) i)

-- the composed degree is above the limit
unfoldable pub check_product : (ℕ → List ℕ) → Outcome
check_product g = refuse (ltb limit (product (degrees (parts_in g most_parts)))) Neither Limit

-- each used record's own 1 to 4; 12; 10
unfoldable pub check_sheet : List ℕ → Outcome
check_sheet b = check_records b then check_order (λ i. used (record_at b i)) then check_moduli b then check_product (held b)

-- 1; 12; each used part's 2 to 4; 10
unfoldable pub check_area : ℕ → List ℕ → Outcome
check_area w xs = check_modulus (modulus w) then check_order (λ i. used (place xs i)) then check_parts (modulus w) xs then check_product (place xs)

-- 11 before everything
unfoldable pub check_writer : ℕ → List ℕ → List ℕ → Outcome
check_writer w xs b = check_room (length b) (length xs) then check_area w xs

-- No. 12 in words: the used places are the first k, and k is not 0
pub record FirstOnes (u : ℕ → Bool) (k : ℕ) : Type 0 where
  pub some : 1 ≤ k
  pub most : k ≤ most_parts
  pub is : (i : ℕ) → i < most_parts → u i ≡ ltb i k
