use lib.ListN.{length}
use Rattle.phrase.specs.Reading.{Done, a_factor, a_product, a_sum}
use Prim.Native.Nat.{◌+◌, ◌*◌, ◌-◌}
use Rattle.sums.proofs.+base_factor_leading_product_sum.Given as goal

abbrev pub decreases-base : goal.decreases-base
decreases-base l = 5 * (length l.s.now - l.at) + 1

abbrev pub decreases-factor : goal.decreases-factor
decreases-factor l = 5 * (length l.s.now - l.at) + 2

abbrev pub decreases-leading : goal.decreases-leading
decreases-leading l = 5 * (length l.s.now - l.at) + 4

abbrev pub decreases-product : goal.decreases-product
decreases-product l = 5 * (length l.s.now - l.at) + 3

abbrev pub decreases-sum : goal.decreases-sum
decreases-sum l = 5 * (length l.s.now - l.at) + 5

abbrev pub invariant-product-loop-m : goal.invariant-product-loop-m
invariant-product-loop-m l = Done a_product a_factor l.m.number l.s l.at l.depth l.next l.built

abbrev pub decreases-product-loop-m : goal.decreases-product-loop-m
decreases-product-loop-m l = length l.s - l.next

abbrev pub invariant-sum-loop-sign : goal.invariant-sum-loop-sign
invariant-sum-loop-sign l = Done a_sum a_product l.m.number l.s l.at l.depth l.next l.built

abbrev pub decreases-sum-loop-sign : goal.decreases-sum-loop-sign
decreases-sum-loop-sign l = length l.s - l.next
