use mathlib.Core.Path.{refl, sym, ap, ◌∙◌}
use Prim.Native.Nat.{ℕ, ◌+◌}
use native.Mathlib.Nat as N
use native.Mathlib.Omega.{arith}
use lib.ListN.{length}
use Rattle.left.proofs.Found.{asked_division, asked_long}
use Rattle.report.proofs.Reporting.{expanded_wide, expanded_front, digits_report}
use Rattle.report.proofs.report.Goals as goal

pub raise-requires : goal.raise-requires
raise-requires c =
    let p = c.requires in
    let k = c.at_once-k.ensures in
    (p.right, refl, k.0, omega (arith, p.degrees.product, p.degrees.within, N.mul-le-mul_right c.args.d.right k.1))

pub all_digits-requires : goal.all_digits-requires
all_digits-requires c =
    let p = c.requires in
    (asked_division p, c.raise.ensures, c.at_once-k.ensures.0, omega (arith, asked_long p))

pub highest-requires : goal.highest-requires
highest-requires c =
    let p = c.requires in
    let x = c.all_digits.ensures in
    (ap length (expanded_front p x) ∙ expanded_wide p x ∙ ap (λ (k : ℕ). k + 1) (sym p.degrees.product), omega (arith, p.degrees.two_right), omega (arith, p.degrees.product, p.degrees.within))

pub returns : goal.returns
returns c =
    let p = c.requires in
    let x = c.all_digits.ensures in
    digits_report p x (rw (expanded_front p x) at c.highest.ensures)
