-- What the reader and the writer of texts answer, over the number m that the modulus word means.
--
--   most_bytes             the longest text
--   Sized w                1 to 8,192 bytes
--   answer_text o f        the outcome o, and f beside it if it is an answer
--   checked_text f         f, or the refusal of 3 or 4
--   ReadsText m w r        r is what the reader answers for the text w
--   Written                what the writer returns: an outcome beside the number of bytes of the text
--   written_of x           what is returned for the result x: the length, or 0 beside the refusal
--   check_text m f n       the writer's checks, of an area of n bytes: 1 to 4, then 11
--   WritesText m f xs ys r r is what the writer answers for f, and ys the area afterwards, which was xs
use Rattle.std.specs.Prelude.{◌≡◌, List, ◌++◌, ℕ, ◌≤◌, ltb, length, drop, Result, Ok, Err}
use Rattle.algebra.specs.Polynomial.{reduced}
use Rattle.refusal.specs.Refusal.{refusal, refuse, ◌then◌}
use Rattle.refusal.specs.declared.Refusal.{Refusal}
use Rattle.refusal.specs.declared.Concerns.TheVariants.{Neither, First}
use Rattle.refusal.specs.declared.Reason.TheVariants.{Limit, Area, Spelling, Depth}
use Rattle.refusal.specs.Refusal.{Outcome, Answered, Refused}
use Rattle.polynomial.specs.Answers.{Answer, nothing}
use Rattle.polynomial.specs.Moduli.{check_modulus}
use Rattle.polynomial.specs.Checks.{check_degree, check_leading, check_one}
use Rattle.text.specs.Grammar.{most_deep}
use Rattle.text.specs.Meaning.{meaning, Within}
use Rattle.text.specs.Language.{Sentence, Ninth}
use Rattle.text.specs.Writing.{text_of}

-- the longest text
abbrev pub most_bytes : ℕ
most_bytes = 8192

-- not empty, and not too long
pub record Sized (w : List ℕ) : Type 0 where
  pub some : 1 ≤ length w
  pub few : length w ≤ most_bytes

-- the polynomial, and zeros beside a refusal
abbrev pub answer_text : Outcome → List ℕ → Answer
answer_text (Ok x) f = record { outcome = Answered; polynomial = f }
answer_text (Err e) f = nothing (Refused e)

-- 3 and 4
unfoldable pub checked_text : List ℕ → Answer
checked_text f = answer_text (check_degree First f then check_leading First f) f

-- in their order: 1; 13 for length; 14 or 13 for the first fault; 10; 3, 4
pub data ReadsText (m : ℕ) (w : List ℕ) (r : Answer) : Type 0 where
  modulus : {e : Refusal} → check_modulus m ≡ Refused e → r ≡ nothing (Refused e) → ReadsText m w r
  unsized : check_modulus m ≡ Answered → (Sized w → ⊥) → r ≡ nothing (refusal Neither Spelling) → ReadsText m w r
  ninth : check_modulus m ≡ Answered → Sized w → Ninth w → r ≡ nothing (refusal Neither Depth) → ReadsText m w r
  misspelt : check_modulus m ≡ Answered → Sized w → (Ninth w → ⊥) → (Sentence most_deep w → ⊥) → r ≡ nothing (refusal Neither Spelling) → ReadsText m w r
  high : check_modulus m ≡ Answered → Sized w → (z : Sentence most_deep w) → (Within z.tree m → ⊥) → r ≡ nothing (refusal Neither Limit) → ReadsText m w r
  read : check_modulus m ≡ Answered → Sized w → (z : Sentence most_deep w) → Within z.tree m → r ≡ checked_text (reduced m (meaning z.tree m)) → ReadsText m w r

-- what the writer returns: the number of bytes of the text, 0 after a refusal
pub record Written : Type 0 where
  pub outcome : Outcome
  pub length : ℕ

-- the length, or 0 beside the refusal
abbrev pub written_of : Result ℕ Refusal → Written
written_of (Ok n) = record { outcome = Answered; length = n }
written_of (Err e) = record { outcome = Refused e; length = 0 }

-- 1 to 4 of f, then 11 if the area is shorter than the text
unfoldable pub check_text : ℕ → List ℕ → ℕ → Outcome
check_text m f n = check_one m f then refuse (ltb n (length (text_of f))) Neither Area

-- nothing is written on refusal, nor past the text
pub data WritesText (m : ℕ) (f xs ys : List ℕ) (r : Written) : Type 0 where
  refused : {e : Refusal} → check_text m f (length xs) ≡ Refused e → ys ≡ xs → r ≡ record { outcome = Refused e; length = 0 } → WritesText m f xs ys r
  wrote : check_text m f (length xs) ≡ Answered → ys ≡ text_of f ++ drop (length (text_of f)) xs → r ≡ record { outcome = Answered; length = length (text_of f) } → WritesText m f xs ys r
