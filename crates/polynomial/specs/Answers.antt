-- What 01 returns: an answer, or zeros beside a refusal.
--
--   Answer, Parts          an outcome beside a polynomial; beside a left part and a right part
--   nothing o, no_parts o  the outcome o beside zeros
--   zero_pair              two parts of zeros
--   answer_of x            what is returned for the result x: its polynomial, or zeros beside its refusal
--   parts_of x             the same for two parts
use Rattle.std.specs.Prelude.{List, ℕ, Result, Ok, Err, replicate}
use Rattle.algebra.specs.Polynomial.{terms}
use Rattle.refusal.specs.Refusal.{Outcome, Answered, Refused}
use Rattle.refusal.specs.declared.Refusal.{Refusal}
use Rattle.polynomial.specs.declared.Pair.{Pair}

-- what an operation on polynomials returns
pub record Answer : Type 0 where
  pub outcome : Outcome
  pub polynomial : List ℕ

-- what an operation on pairs returns
pub record Parts : Type 0 where
  pub outcome : Outcome
  pub left : List ℕ
  pub right : List ℕ

-- for an operation that returns one polynomial
unfoldable pub nothing : Outcome → Answer
nothing o = record { outcome = o; polynomial = replicate terms 0 }

-- for one that returns a left part and a right part
unfoldable pub no_parts : Outcome → Parts
no_parts o = record { outcome = o; left = replicate terms 0; right = replicate terms 0 }

-- two parts of zeros
abbrev pub zero_pair : Pair
zero_pair = record { left = replicate terms 0; right = replicate terms 0 }

-- the polynomial, or zeros beside the refusal
abbrev pub answer_of : Result (List ℕ) Refusal → Answer
answer_of (Ok p) = record { outcome = Answered; polynomial = p }
answer_of (Err e) = nothing (Refused e)

-- the two parts, or zeros beside the refusal
abbrev pub parts_of : Result Pair Refusal → Parts
parts_of (Ok p) = record { outcome = Answered; left = p.left; right = p.right }
parts_of (Err e) = no_parts (Refused e)
