use mathlib.Core.Path.{ap, ◌∙◌}
use mathlib.Core.List.{List}
use Prim.Native.Nat.{ℕ}
use lib.ListN.{length}
use Rattle.refusal.specs.declared.Concerns.TheVariants.{Place}
use Rattle.polynomial.specs.Checks.{check_polynomial}
use Rattle.sheet.specs.Checks.{check_part}
use Rattle.sheet.proofs.Handing.{place-long, empty_unused, handed-used, handed-place}
use Rattle.sheet_writer.proofs.check_part.Goals as goal

pub returns-then-p-eq0 : goal.returns-then-p-eq0
unfolding check_part
returns-then-p-eq0 c = let p = c.requires in simp (empty_unused _ _ p.0 p.1 c.part-p.ensures c.if-p-eq0.true)

pub check_polynomial-requires : goal.check_polynomial-requires
check_polynomial-requires c =
    let p = c.requires in
    record { long = ap length (handed-place _ _ p.0 p.1 c.part-p.ensures c.if-p-eq0.false) ∙ place-long _ _ p.0 p.1; is = c.degree.ensures }

pub returns : goal.returns
unfolding check_part
returns c =
    let p = c.requires in
    let a = c.args in
    simp (handed-used _ _ p.0 p.1 c.part-p.ensures c.if-p-eq0.false) (c.check_polynomial.ensures ∙ ap (λ (q : List ℕ). check_polynomial (Place a.i) a.m q) (handed-place _ _ p.0 p.1 c.part-p.ensures c.if-p-eq0.false))
