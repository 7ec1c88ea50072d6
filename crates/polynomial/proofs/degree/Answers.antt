use Rattle.polynomial.proofs.Greatest.{degree_found}
use Rattle.polynomial.proofs.degree.Goals as goal

pub returns : goal.returns
returns c = rw c.unwrap_or.ensures (degree_found _ c.highest.result c.highest.ensures.none c.highest.ensures.some)
