use Rattle.chains.proofs.Counting.{Below}
use Rattle.chains.proofs.+count.Given as goal

abbrev pub decreases-count : goal.decreases-count
decreases-count l = l.n

abbrev pub invariant-loop-s : goal.invariant-loop-s
invariant-loop-s l = Below l.m.number l.f l.s l.c
