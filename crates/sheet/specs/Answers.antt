-- What the reader and the writer of chain sheets answer and write.
--
--   zeros                     the contents of a refused sheet
--   Contents                  what the reader answers beside the area: an outcome, the modulus word, and what the parts compose to
--   unread o                  the outcome o beside zeros, as after a refusal
--   contents_of x             what is returned for the result x of the code: what the sheet holds, or zeros beside its refusal
--   ReadsSheet b xs ys x      x answers: the sheet b read; xs is the area before, ys the area afterwards
--   WritesSheet w xs b c o    o answers: the modulus word w and the area xs written; b is the sheet before, c the sheet afterwards
use Rattle.std.specs.Prelude.{◌≡◌, List, ◌++◌, ℕ, length, drop, replicate, Result, Ok, Err}
use Rattle.algebra.specs.Polynomial.{terms, reduced}
use Rattle.algebra.specs.Chain.{composed}
use Rattle.refusal.specs.declared.Refusal.{Refusal}
use Rattle.refusal.specs.Refusal.{Outcome, Answered, Refused}
use Rattle.polynomial.specs.Moduli.{modulus}
use Rattle.area.specs.Area.{most_parts, area_words, cleared}
use Rattle.record.specs.Record.{word}
use Rattle.sheet.specs.Sheet.{sheet_bytes, sheet_of, held, area_of, parts_in}
use Rattle.sheet.specs.Checks.{check_room, check_sheet, check_writer}
use Rattle.sheet.specs.declared.Sheet.{Sheet}

-- zeros, as they are handed out after a refusal
abbrev pub zeros : Sheet
zeros = record { modulus = 0; polynomial = replicate terms 0 }

-- what is returned beside the area, the modulus as the word that stands on the sheet
pub record Contents : Type 0 where
  pub outcome : Outcome
  pub modulus : ℕ
  pub polynomial : List ℕ

-- zeros beside an outcome
unfoldable pub unread : Outcome → Contents
unread o = record { outcome = o; modulus = 0; polynomial = replicate terms 0 }

-- what is returned for the result x: what the sheet holds, or zeros beside the refusal
abbrev pub contents_of : Result Sheet Refusal → Contents
contents_of (Ok x) = record { outcome = Answered; modulus = x.modulus; polynomial = x.polynomial }
contents_of (Err r) = unread (Refused r)

-- 11, and nothing is written; any other refusal, and all places are zero; else the modulus word of the first record, the polynomials
-- in their places, and what they compose to. Words past the places never change.
pub data ReadsSheet (b xs ys : List ℕ) (x : Contents) : Type 0 where
  short : {r : Refusal} → check_room (length b) (length xs) ≡ Refused r → ys ≡ xs → x ≡ unread (Refused r) → ReadsSheet b xs ys x
  refused : {r : Refusal} → check_room (length b) (length xs) ≡ Answered → check_sheet b ≡ Refused r → ys ≡ cleared xs → x ≡ unread (Refused r) → ReadsSheet b xs ys x
  taken : check_room (length b) (length xs) ≡ Answered → check_sheet b ≡ Answered → ys ≡ area_of b ++ drop area_words xs
      → x ≡ record { outcome = Answered; modulus = word b 0; polynomial = reduced (modulus (word b 0)) (composed (parts_in (held b) most_parts)) } → ReadsSheet b xs ys x

-- a refusal, and nothing is written; else the sheet. Bytes past it never change.
pub data WritesSheet (w : ℕ) (xs b c : List ℕ) (o : Outcome) : Type 0 where
  refused : {r : Refusal} → check_writer w xs b ≡ Refused r → c ≡ b → o ≡ Refused r → WritesSheet w xs b c o
  made : check_writer w xs b ≡ Answered → c ≡ sheet_of w xs ++ drop sheet_bytes b → o ≡ Answered → WritesSheet w xs b c o
