use mathlib.Core.Path.{◌≡◌}
use Rattle.chains.proofs.Walking.{Gone}
use Rattle.chains.proofs.+walk.Given as goal

abbrev pub decreases-walk : goal.decreases-walk
decreases-walk l = l.n

-- nothing is written before the j-th chain is reached
abbrev pub invariant-loop-s : goal.invariant-loop-s
invariant-loop-s l = (l.area ≡ l.initial.area) × Gone l.m.number l.f l.s l.j l.rest
