use mathlib.Core.Path.{◌≡◌, refl}
use Prim.Native.Nat.{◌+◌, ◌*◌, ◌-◌}
use native.Mathlib.Omega.{arith}
use Rattle.algebra.specs.Polynomial.{limit}
use Rattle.report.proofs.Reporting.{scanned_none, scanned_here, scanned_more, scanned_all, digit-end, digit-below}
use Rattle.report.proofs.highest.Goals as goal

pub loop-j-init : goal.loop-j-init
loop-j-init c = scanned_none _ _ _ c.requires.0

pub overflow_add-result : goal.overflow_add-result
unfolding limit
overflow_add-result c =
    let l = c.loop-j in
    let a = c.args in
    let d = digit-end l.j a.r a.s (λ z. omega (arith, c.loop-j-test.true)) l.auto.j in
    omega (arith, digit-below (l.j - 1) ((l.j - 1) * a.s + a.s - (l.j - 1) * a.s) a.p.now refl (omega arith) (omega arith) (omega arith) c.degree-d.ensures)

pub returns-then-d-ne0 : goal.returns-then-d-ne0
returns-then-d-ne0 c =
    let l = c.loop-j in
    let a = c.args in
    let e : l.j ≡ l.j - 1 + 1 = omega (arith, c.loop-j-test.true) in
    let d = digit-end l.j a.r a.s (λ z. omega (arith, c.loop-j-test.true)) l.auto.j in
    scanned_here (l.j - 1) ((l.j - 1) * a.s + a.s - (l.j - 1) * a.s) a.p.now refl (omega arith) (omega arith) (omega arith) c.degree-d.ensures c.if-d-ne0.true (rw e at l.invariant)

pub loop-j-preserved : goal.loop-j-preserved
loop-j-preserved c =
    let l = c.loop-j in
    let a = c.args in
    let e : l.j ≡ l.j - 1 + 1 = omega (arith, c.loop-j-test.true) in
    let d = digit-end l.j a.r a.s (λ z. omega (arith, c.loop-j-test.true)) l.auto.j in
    scanned_more (l.j - 1) ((l.j - 1) * a.s + a.s - (l.j - 1) * a.s) a.p.now refl (omega arith) (omega arith) (omega arith) c.degree-d.ensures c.if-d-ne0.false (rw e at l.invariant)

pub returns : goal.returns
returns c = scanned_all _ _ (let e : c.loop-j.j ≡ 0 = omega (arith, c.loop-j-test.false) in rw e at c.loop-j.invariant)
