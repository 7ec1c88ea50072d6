use mathlib.Core.Path.{◌≡◌}
use borrow.Author.Rules.{rules}
use native.Mathlib.Omega.{arith}
use Rattle.std.specs.Prelude.{Err}
use Rattle.algebra.specs.Polynomial.{limit}
use Rattle.phrase.proofs.Readers as law
use Rattle.sums.proofs.+base_factor_leading_product_sum.Goals as goal

pub base-returns-then-depth-ge-DEPTH : goal.base-returns-then-depth-ge-DEPTH
base-returns-then-depth-ge-DEPTH t c = let z = c.stands.ensures.yes c.if-stands.true in law.base-deep c.args.m.number _ _ _ z.0 z.1 (omega (arith, c.if-depth-ge-DEPTH.true))

pub base-returns-in_err-next : goal.base-returns-in_err-next
base-returns-in_err-next t c =
    let z = c.stands.ensures.yes c.if-stands.true in
    let q : c.from_residual.result ≡ Err c.in_err-next.field-0.0 = search rules in
    rw q (law.bracket_missed c.args.m.number _ _ _ z.0 z.1 c.if-depth-ge-DEPTH.false _ c.in_err-next.ensures)

pub base-single-requires : goal.base-single-requires
unfolding limit
base-single-requires t c = omega arith

pub base-returns-then-stands-2 : goal.base-returns-then-stands-2
base-returns-then-stands-2 t c = let z = c.stands-2.ensures.yes c.if-stands-2.true in law.base_x _ _ _ _ z.0 z.1 c.single.ensures

pub base-returns : goal.base-returns
base-returns t c = c.numbered.ensures _

pub leading-returns-in_err-next : goal.leading-returns-in_err-next
leading-returns-in_err-next t c =
    let z = c.stands.ensures.yes c.if-stands.true in
    let q : c.from_residual.result ≡ Err c.in_err-next.field-0.0 = search rules in
    rw q (law.sum-minus_missed c.args.m.number _ _ _ z.0 z.1 _ c.in_err-next.ensures)

pub leading-returns : goal.leading-returns
leading-returns t c = law.sum-plain _ _ _ _ _ _ (c.stands.ensures.no c.if-stands.false) c.product-2.ensures

pub product-loop-m-init : goal.product-loop-m-init
product-loop-m-init t c = law.product-first _ _ _ _ c.in_ok-next.ensures

pub product-returns-in_err-next-2 : goal.product-returns-in_err-next-2
product-returns-in_err-next-2 t c =
    let z = c.stands.ensures.yes c.loop-m-test.true in
    let q : c.from_residual-in_err-next-2.result ≡ Err c.in_err-next-2.field-0.0 = search rules in
    rw q (law.product-more_missed _ _ _ _ c.loop-m.invariant z.0 z.1 _ c.in_err-next-2.ensures)

pub product-loop-m-preserved : goal.product-loop-m-preserved
product-loop-m-preserved t c =
    let z = c.stands.ensures.yes c.loop-m-test.true in
    law.product-more _ _ _ _ c.loop-m.invariant z.0 z.1 (omega arith) c.in_ok-next-2.ensures c.multiply.ensures

pub sum-returns-in_err-next-2 : goal.sum-returns-in_err-next-2
sum-returns-in_err-next-2 t c =
    let z = c.in-Some.ensures in
    let q : c.from_residual-in_err-next-2.result ≡ Err c.in_err-next-2.field-0.0 = search rules in
    rw q (law.sum-more_missed _ _ _ _ c.loop-sign.invariant z.0 z.1 z.2 _ c.in_err-next-2.ensures)

pub sum-loop-sign-preserved : goal.sum-loop-sign-preserved
sum-loop-sign-preserved t c =
    let z = c.in-Some.ensures in
    law.sum_more _ _ _ _ c.loop-sign.invariant z.0 z.1 z.2 (omega arith) c.in_ok-next-2.ensures c.added.ensures

pub sum-returns : goal.sum-returns
sum-returns t c = law.sum-end _ _ _ _ c.in_default.ensures c.loop-sign.invariant
