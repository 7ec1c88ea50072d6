use mathlib.Core.Path.{ap, ◌∙◌}
use native.Mathlib.Omega.{arith}
use Rattle.algebra.specs.Polynomial.{limit, degree}
use Rattle.sheet.proofs.Composing.{factor_skip, factor-take}
use Rattle.sheet.proofs.Handing.{empty_unused, handed-used, handed-place}
use Rattle.sheet_checks.proofs.factor.Goals as goal

pub returns-then-p-eq0 : goal.returns-then-p-eq0
unfolding limit
returns-then-p-eq0 c =
    let p = c.requires in
    (factor_skip _ _ (empty_unused _ _ p.0 p.1 c.part-p.ensures c.if-p-eq0.true), omega arith, omega arith)

pub returns : goal.returns
returns c =
    let p = c.requires in
    let u = handed-used _ _ p.0 p.1 c.part-p.ensures c.if-p-eq0.false in
    let e = c.degree.ensures ∙ ap degree (handed-place _ _ p.0 p.1 c.part-p.ensures c.if-p-eq0.false) in
    (factor-take _ _ u e, rw e (p.2.some _ p.0 u), rw e (p.2.most _ p.0 u))
