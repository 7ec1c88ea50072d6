use Rattle.round.proofs.Asking.{chainable, left-coprime, right_asked}
use Rattle.round.proofs.Rounds.{hit, miss}
use Rattle.ending.proofs.Ends.{missed, splits-on, ends_there}
use Rattle.ending.proofs.rightmost.Goals as goal

pub split_at-requires : goal.split_at-requires
split_at-requires c =
    let d = c.at_right in
    let a = c.requires.0 in
    record { modulus = a.modulus; degrees = d.result.fit; whole = rw d.ensures.0 a.whole }

-- f does not split at s
pub returns-in_default : goal.returns-in_default
returns-in_default c =
    let (n, r, s) = c.at_right.ensures in
    let p = c.requires in
    missed (chainable p.0) p.1 (miss _ (left-coprime _ p.0.modulus.above_one p.0.coprime p.1.product) (rw (r, s) at c.in_default.ensures))

pub splits-requires : goal.splits-requires
splits-requires c = let d = c.at_right.ensures in right_asked c.requires.0 c.requires.1.two_left c.requires.1.two_right c.requires.1.product (hit (rw (d.1, d.2) at c.in-Ok.ensures))

-- its right part splits
pub returns-then-splits : goal.returns-then-splits
returns-then-splits c = let d = c.at_right.ensures in splits-on (chainable c.requires.0) c.in-Ok.pair c.requires.1 (hit (rw (d.1, d.2) at c.in-Ok.ensures)) c.splits.ensures c.if-splits.true

-- it does not
pub returns-else-splits : goal.returns-else-splits
returns-else-splits c = let d = c.at_right.ensures in ends_there (chainable c.requires.0) c.in-Ok.pair c.requires.1 (hit (rw (d.1, d.2) at c.in-Ok.ensures)) c.splits.ensures c.if-splits.false
