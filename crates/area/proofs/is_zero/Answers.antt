use mathlib.Core.Path.{◌≡◌, refl, ap, ◌∙◌}
use mathlib.Core.Bool.{◌&&◌}
use mathlib.Core.List.{List, [], ◌∷◌}
use Prim.Native.Nat.{ℕ}
use lib.Dec.{eqb}
use Rattle.std.specs.List.{list_all}
use Rattle.std.proofs.Common.{rules, tests}
use Rattle.std.proofs.lemmas.Iterator.{YieldsList-from_slice}
use Rattle.std.proofs.lemmas.Iterator.Search.{all_from_yields_List}
use Rattle.area.specs.Area.{all_zero}
use Rattle.area.proofs.is_zero.Goals as goal

every : (xs : List ℕ) → list_all (λ x. eqb x 0) xs ≡ all_zero xs
unfolding all_zero
every [] = refl
every (x ∷ xs) = ap (λ b. eqb x 0 && b) (every xs)

pub returns : goal.returns
returns c =
    all_from_yields_List (λ x. eqb x 0) _ _ c.all.result c.all.ensures.ran (YieldsList-from_slice c.args.p.now cc) (λ x b q k. search (rules, tests))
    ∙ every c.args.p.now
