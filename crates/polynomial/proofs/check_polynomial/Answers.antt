use mathlib.Core.Path.{◌∙◌, refl, sym}
use borrow.Author.Rules.{rules}
use native.Mathlib.Omega.{arith}
use borrow.Author.Tests.{lt-ltb, le-ltb, eq-eqb, ne_eqb}
use Rattle.algebra.specs.Polynomial.{terms, limit}
use Rattle.polynomial.specs.Checks.{check_polynomial, check_coefficients, check_degree, check_leading}
use Rattle.algebra.proofs.Highest.{degree-below}
use Rattle.polynomial.proofs.Lowest.{position_offends, position-none}
use Rattle.polynomial.proofs.check_polynomial.Goals as goal

pub overflow_cast-i : goal.overflow_cast-i
unfolding terms limit
overflow_cast-i c =
    let o = position_offends c.args.m c.args.f.now (sym c.offending.ensures ∙ c.in-Some.is) in
    omega (arith, o)

pub returns-in-Some : goal.returns-in-Some
unfolding check_polynomial check_coefficients
returns-in-Some c =
    let o = position_offends c.args.m c.args.f.now (sym c.offending.ensures ∙ c.in-Some.is) in
    rw (← o.0, lt-ltb _ _ o.1) (search rules)

pub returns-then-degree-lt2 : goal.returns-then-degree-lt2
unfolding check_polynomial check_coefficients check_degree
returns-then-degree-lt2 c =
    let o = position-none c.args.m c.args.f.now (sym c.offending.ensures ∙ c.in_default.is) in
    rw (le-ltb _ _ o, ← c.requires.is, lt-ltb _ _ c.if-degree-lt2.true) (search rules)

pub offset_bounds-f-degree : goal.offset_bounds-f-degree
unfolding terms
offset_bounds-f-degree c = omega (arith, degree-below c.args.f.now (omega arith))

pub bounds-f-degree : goal.bounds-f-degree
unfolding terms
bounds-f-degree c = omega (arith, degree-below c.args.f.now (omega arith))

pub returns-then-f-degree-ne1 : goal.returns-then-f-degree-ne1
unfolding check_polynomial check_coefficients check_degree check_leading
returns-then-f-degree-ne1 c =
    let o = position-none c.args.m c.args.f.now (sym c.offending.ensures ∙ c.in_default.is) in
    rw (le-ltb _ _ o, ← c.requires.is, le-ltb _ _ c.if-degree-lt2.false, ne_eqb _ _ c.if-f-degree-ne1.true) (search rules)

pub returns : goal.returns
unfolding check_polynomial check_coefficients check_degree check_leading
returns c =
    let o = position-none c.args.m c.args.f.now (sym c.offending.ensures ∙ c.in_default.is) in
    rw (le-ltb _ _ o, ← c.requires.is, le-ltb _ _ c.if-degree-lt2.false, eq-eqb _ _ c.if-f-degree-ne1.false) refl
