use Prim.Native.Nat.{◌-◌}
use lib.ListN.{length}
use Rattle.numeral.proofs.Counting as law
use Rattle.numeral.proofs.number.Given as goal

abbrev pub invariant-loop-d : goal.invariant-loop-d
invariant-loop-d l = law.Counting l.s l.at l.next l.value

abbrev pub decreases-loop-d : goal.decreases-loop-d
decreases-loop-d l = length l.s - l.next
