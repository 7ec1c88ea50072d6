use Rattle.phrase.proofs.Readers as law
use Rattle.phrase.proofs.closed.Goals as goal

pub returns-then-not-stands : goal.returns-then-not-stands
returns-then-not-stands c = λ m at d v l b h x. law.bracket_open m _ at d l b h x (c.stands.ensures.no c.if-not-stands.true)

pub returns : goal.returns
returns c = λ m at d v l b h x. let z = c.stands.ensures.yes c.if-not-stands.false in law.bracket_shut m _ at d l b h x z.0 z.1
