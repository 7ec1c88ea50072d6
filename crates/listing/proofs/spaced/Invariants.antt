use Prim.Native.Nat.{◌*◌}
use lib.ListN.{take}
use Rattle.digits.specs.Digits.{Put}
use Rattle.listing.specs.Text.{most_field, spaced}
use Rattle.listing.proofs.spaced.Given as goal

abbrev pub invariant-loop-n : goal.invariant-loop-n
invariant-loop-n l = Put l.initial.out l.at (spaced (take l.n-index l.numbers)) (most_field * l.n-index) l.out l.end
