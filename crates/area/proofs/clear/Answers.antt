use mathlib.Core.Path.{ap, ◌∙◌}
use mathlib.Core.List.{List, ◌++◌}
use Prim.Native.Nat.{ℕ}
use lib.ListN.{replicate, drop}
use lib.Seq.{length-take-le}
use Rattle.algebra.specs.Polynomial.{limit, terms}
use Rattle.area.specs.Area.{most_parts, area_words, cleared}
use Rattle.area.proofs.clear.Goals as goal

-- the words that are used are zero, and the others as they were
pub returns : goal.returns
unfolding cleared area_words most_parts terms limit
returns c =
    let a = c.args.area.now in
    ap (λ (s : List ℕ). s ++ drop 762 a) (c.fill.ensures.after (λ y e. e) ∙ ap (λ (n : ℕ). replicate n 0) (length-take-le 762 a c.requires))
