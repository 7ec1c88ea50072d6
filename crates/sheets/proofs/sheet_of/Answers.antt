use mathlib.Core.Path.{ap, ◌∙◌}
use Prim.Native.Nat.{ℕ}
use native.Mathlib.Omega.{arith}
use lib.ListN.{replicate}
use Rattle.algebra.specs.Polynomial.{limit, terms}
use Rattle.area.specs.Area.{most_parts, area_words}
use Rattle.sheets.proofs.Writing.{of_refused, of_unchained, of_chained, alone}
use Rattle.sheets.proofs.sheet_of.Goals as goal

pub returns-in_default : goal.returns-in_default
returns-in_default c = of_refused _ _ c.in_default.ensures (c.blank.ensures ∙ ap (λ (n : ℕ). replicate n 0) c.requires)

pub returns-in-Err : goal.returns-in-Err
unfolding area_words most_parts terms limit
returns-in-Err c = of_unchained _ c.in-Ok.ensures _ c.in-Err.ensures (c.blank-in-Err.ensures ∙ ap (λ (n : ℕ). replicate n 0) c.requires)

pub put-requires : goal.put-requires
unfolding area_words most_parts terms limit
put-requires c = (omega arith, omega arith)

pub returns-in-Ok-chain : goal.returns-in-Ok-chain
unfolding area_words most_parts terms limit
returns-in-Ok-chain c = of_chained _ c.in-Ok.ensures c.in-Ok-chain.ensures (alone _ c.requires c.put.ensures)
