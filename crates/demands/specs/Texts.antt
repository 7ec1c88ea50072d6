-- What request No. 6 says of typed polynomials. Believed.
--
--   Misspelt o        the outcome o is No. 13 or 14
--   Language w r      the answer r to the text w says whether w is in the language
--   Means m w f       f is the meaning of the text w modulo m
--   FirstFault w      the text w has a first fault from the left
use Rattle.std.specs.Prelude.{◌≡◌, ◌⊎◌, List, ℕ, Ok, Err}
use Rattle.algebra.specs.Polynomial.{Same}
use Rattle.refusal.specs.Refusal.{number}
use Rattle.refusal.specs.Refusal.{Outcome}
use Rattle.polynomial.specs.Checks.{Accepted}
use Rattle.polynomial.specs.Answers.{Answer}
use Rattle.text.specs.Grammar.{most_deep}
use Rattle.text.specs.Meaning.{meaning, Within}
use Rattle.text.specs.Language.{Sentence, FaultAt}
use Rattle.text.specs.Answers.{Sized}

-- No. 13 or 14
abbrev pub Misspelt : Outcome → Type 0
Misspelt (Ok x) = ⊥
Misspelt (Err e) = (number e.reason ≡ 13) ⊎ (number e.reason ≡ 14)

-- what the reader says of the spelling, for a modulus that passes No. 1
pub record Language (w : List ℕ) (r : Answer) : Type 0 where
  pub taken : Sized w → Sentence most_deep w → Misspelt r.outcome → ⊥
  pub spelled : (Misspelt r.outcome → ⊥) → Sized w × Sentence most_deep w

-- it is a polynomial of the desk, and the meaning of the one tree modulo m
pub record Means (m : ℕ) (w f : List ℕ) : Type 0 where
  pub sentence : Sentence most_deep w
  pub within : Within sentence.tree m
  pub accepted : Accepted m f
  pub same : Same m f (meaning sentence.tree m)

-- a first fault, wherever it is
pub record FirstFault (w : List ℕ) : Type 0 where
  pub before : List ℕ
  pub byte : ℕ
  pub first : FaultAt w before byte
