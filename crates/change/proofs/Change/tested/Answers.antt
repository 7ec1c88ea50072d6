use mathlib.Core.Path.{refl}
use native.Mathlib.Omega.{arith}
use Rattle.inverse.proofs.Inverses.{shared_not_coprime}
use Rattle.change.proofs.Answering.{proper_by, inverts_by}
use Rattle.change.proofs.Change.tested.Goals as goal

pub returns-then-m-from : goal.returns-then-m-from
returns-then-m-from c = (λ p. omega (arith, p.unit_below), c.into.ensures)

pub returns-then-m-from-2 : goal.returns-then-m-from-2
returns-then-m-from-2 c = (λ p. omega (arith, p.origin_below), c.into-then-m-from-2.ensures)

pub returns-in_default : goal.returns-in_default
returns-in_default c =
    (λ p. shared_not_coprime {d = c.in_default.field-0} (rw (c.in_default.is, c.from-3.ensures) at c.invert.ensures) p.invertible, c.into-in_default.ensures)

pub invariant_of-result : goal.invariant_of-result
invariant_of-result c = record { inverts = inverts_by c.args.m.modulus (rw c.from-3.ensures at c.in-Ok.ensures) }

pub returns : goal.returns
returns c =
    let i = rw c.from-3.ensures at c.in-Ok.ensures in
    (proper_by (omega arith) (omega arith) i, refl, refl, refl, i.0)
