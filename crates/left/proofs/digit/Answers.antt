use Rattle.left.proofs.Expanding.{lowest_digit}
use Rattle.left.proofs.digit.Goals as goal

pub returns : goal.returns
returns c =
    let p = c.requires in
    lowest_digit p.0 p.1 c.divide.ensures c.is_constant.ensures
