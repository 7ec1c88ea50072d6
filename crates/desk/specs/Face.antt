-- What the functions for other languages return and write, in 01's numbers.
--
--   told outcome        number, polynomial and power of the refusal; all 0 if it is answered
--   told_by refusal     the same of the refusal of a request, if there is one
--   CheckedAs b r ..    what desk_check returns and writes for the bytes b
--   AnswersAs Of r f    what a function for an operation that answers one polynomial returns and writes
--   MadeAs Of r out     the same for an operation that answers a change: its unit and its origin
--   PartsAs Of r g h    the same for an operation that answers two parts
--   said b              1 for a yes, 0 for a no
--   QuickAs ..          what desk_quick returns and writes
--   ChainedAs ..        what desk_chain returns and writes
--   NumberedAs ..       what desk_count_chains returns and writes
--   ChosenAs ..         what desk_nth_chain returns and writes
--   SheetAs ..        what desk_write_sheet returns and writes
--   ReadAs ..           what desk_read_sheet returns and writes
--   TextAs ..           what desk_write_text returns and writes
--   place_of xs i       where part i stands in the area xs: its start and its length, 0 and 0 if it is empty
use Rattle.std.specs.Prelude.{◌≡◌, Bool, true, false, List, [], ◌∷◌, ℕ, zero, suc, length, Option, Some, None, Ok, Err}
use Rattle.refusal.specs.Refusal.{number, polynomial, power}
use Rattle.refusal.specs.Refusal.{Outcome, Answered, Refused}
use Rattle.refusal.specs.declared.Refusal.{Refusal}
use Rattle.polynomial.specs.Answers.{Answer}
use Rattle.polynomial.specs.Answers.{Parts}
use Rattle.pair.specs.Asking.{Verdict}
use Rattle.pair.specs.Asking.{QuickOf}
use Rattle.change.specs.Changing.{Made}
use Rattle.chain.specs.Chaining.{Chained}
use Rattle.chain.specs.Chaining.{ChainOf}
use Rattle.chains.specs.Choosing.{Numbered}
use Rattle.chains.specs.Choosing.{Chosen}
use Rattle.chains.specs.Choosing.{NumberOf, NthOf}
use Rattle.area.specs.Area.{start, part_of}
use Rattle.record.specs.Record.{checked}
use Rattle.sheet.specs.Answers.{Contents}
use Rattle.sheet.specs.Answers.{ReadsSheet, WritesSheet}
use Rattle.text.specs.Answers.{Written}
use Rattle.text.specs.Answers.{WritesText}
use Rattle.desk.specs.declared.Refused as face

-- 01's numbers of an outcome
abbrev pub told : Outcome → face.Refused
told (Ok x) = record { number = 0; polynomial = 0; power = 0 }
told (Err r) = record { number = number r.reason; polynomial = polynomial r.concerns; power = power r.reason }

-- of the refusal of a request, if there is one
abbrev pub told_by : Option Refusal → face.Refused
told_by None = told Answered
told_by (Some r) = told (Refused r)

-- the refusal, and the answer through the last parameters
pub record CheckedAs (b : List ℕ) (r : face.Refused) (modulus : ℕ) (f : List ℕ) (degree : ℕ) : Type 0 where
  pub refused : r ≡ told (checked b).outcome
  pub modulus_is : modulus ≡ (checked b).modulus
  pub f_is : f ≡ (checked b).polynomial
  pub degree_is : degree ≡ (checked b).degree

-- some answer of the operation, in numbers
pub record AnswersAs (Of : Answer → Type 0) (r : face.Refused) (f : List ℕ) : Type 0 where
  pub answer : Answer
  pub is : Of answer
  pub refused : r ≡ told answer.outcome
  pub f_is : f ≡ answer.polynomial

-- some two parts of the operation, in numbers
pub record PartsAs (Of : Parts → Type 0) (r : face.Refused) (g h : List ℕ) : Type 0 where
  pub parts : Parts
  pub is : Of parts
  pub refused : r ≡ told parts.outcome
  pub g_is : g ≡ parts.left
  pub h_is : h ≡ parts.right

-- some change of the operation, in numbers
pub record MadeAs (Of : Made → Type 0) (r : face.Refused) (out : List ℕ) : Type 0 where
  pub made : Made
  pub is : Of made
  pub refused : r ≡ told made.outcome
  pub out_is : out ≡ made.change.unit ∷ made.change.origin ∷ []

-- a yes or a no as a number
abbrev pub said : Bool → ℕ
said true = 1
said false = 0

-- the verdict: whether f splits, and the power; 0 and 0 after a refusal
pub record QuickAs (m : ℕ) (f : List ℕ) (r : ℕ) (x : face.Refused) (answer : List ℕ) : Type 0 where
  pub verdict : Verdict
  pub is : QuickOf m f r verdict
  pub refused : x ≡ told verdict.outcome
  pub answer_is : answer ≡ said verdict.splits ∷ verdict.power ∷ []

-- some chain, in numbers: parts, tries, price; and the area afterwards
pub record ChainedAs (m : ℕ) (f xs ys : List ℕ) (r : face.Refused) (numbers : List ℕ) : Type 0 where
  pub chained : Chained
  pub is : ChainOf m f xs ys chained
  pub refused : r ≡ told chained.outcome
  pub numbers_are : numbers ≡ chained.parts ∷ chained.tries ∷ chained.price ∷ []

-- some number of complete chains
pub record NumberedAs (m : ℕ) (f : List ℕ) (r : face.Refused) (number : ℕ) : Type 0 where
  pub numbered : Numbered
  pub is : NumberOf m f numbered
  pub refused : r ≡ told numbered.outcome
  pub number_is : number ≡ numbered.number

-- some j-th chain, in numbers: parts, price; and the area afterwards
pub record ChosenAs (m : ℕ) (f : List ℕ) (j : ℕ) (xs ys : List ℕ) (r : face.Refused) (numbers : List ℕ) : Type 0 where
  pub chosen : Chosen
  pub is : NthOf m f j xs ys chosen
  pub refused : r ≡ told chosen.outcome
  pub numbers_are : numbers ≡ chosen.parts ∷ chosen.price ∷ []

-- some outcome of the writer, in numbers; and the sheet afterwards
pub record SheetAs (w : ℕ) (xs b c : List ℕ) (r : face.Refused) : Type 0 where
  pub outcome : Outcome
  pub is : WritesSheet w xs b c outcome
  pub refused : r ≡ told outcome

-- some contents of a sheet, in numbers; and the area afterwards
pub record ReadAs (b xs ys : List ℕ) (r : face.Refused) (modulus : ℕ) (f : List ℕ) : Type 0 where
  pub contents : Contents
  pub is : ReadsSheet b xs ys contents
  pub refused : r ≡ told contents.outcome
  pub modulus_is : modulus ≡ contents.modulus
  pub f_is : f ≡ contents.polynomial

-- some answer of the writer of texts, in numbers; and the area afterwards
pub record TextAs (m : ℕ) (f xs ys : List ℕ) (r : face.Refused) (length : ℕ) : Type 0 where
  pub written : Written
  pub is : WritesText m f xs ys written
  pub refused : r ≡ told written.outcome
  pub length_is : length ≡ written.length

-- an empty part stands nowhere
abbrev pub start_of : ℕ → ℕ → ℕ
start_of zero i = 0
start_of (suc n) i = start i

-- start and length of part i
unfoldable pub place_of : List ℕ → ℕ → List ℕ
place_of xs i = start_of (length (part_of xs i)) i ∷ length (part_of xs i) ∷ []
