-- The language, and the first fault from the left, said by the language alone.
--
--   Sentence most w     w is the spelling of a tree that keeps the limits, with `most` brackets open at once
--   Start most w        some sentence begins with w
--   FaultAt w before byte     that byte, which stands behind `before`, is the first fault of w from the left
--   Ninth w             the first fault of w is a ninth open bracket, where one may open
use Rattle.std.specs.Prelude.{◌≡◌, List, [], ◌∷◌, ◌++◌, ℕ, suc}
use Rattle.text.specs.Grammar.{Sum, spell, Fits, most_deep, open_byte}

-- a text of the language
pub record Sentence (most : ℕ) (w : List ℕ) : Type 0 where
  pub tree : Sum
  pub fits : Fits tree most 0
  pub spelled : spell tree ≡ w

-- what a text of the language may begin with
pub record Start (most : ℕ) (w : List ℕ) : Type 0 where
  pub rest : List ℕ
  pub sentence : Sentence most (w ++ rest)

-- the byte after `before` is the first fault of w: what stands before it begins a text of the language, and with it none does
pub record FaultAt (w before : List ℕ) (byte : ℕ) : Type 0 where
  pub after : List ℕ
  pub whole : before ++ (byte ∷ after) ≡ w
  pub start : Start most_deep before
  pub fault : Start most_deep (before ++ (byte ∷ [])) → ⊥

-- the first fault is a bracket that might open if one more could be open
pub record Ninth (w : List ℕ) : Type 0 where
  pub before : List ℕ
  pub first : FaultAt w before open_byte
  pub deeper : Start (suc most_deep) (before ++ (open_byte ∷ []))
