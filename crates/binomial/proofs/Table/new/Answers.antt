use mathlib.Core.Path.{refl}
use Rattle.binomial.specs.Triangle.{rows, sums, row, triangle}
use Rattle.binomial.proofs.Table.new.Goals as goal

-- all entries at once, by computation
pub invariant_of-result : goal.invariant_of-result
unfolding rows triangle row sums
invariant_of-result c = record { exact = refl }
