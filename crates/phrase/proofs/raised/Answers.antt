use mathlib.Core.Path.{◌≡◌}
use native.Mathlib.Omega.{arith}
use borrow.Author.Rules.{rules}
use Rattle.std.specs.Prelude.{Some, None, Err}
use Rattle.phrase.specs.declared.Fault.TheVariants.{Spelling}
use Rattle.phrase.proofs.Readers as law
use Rattle.phrase.proofs.raised.Goals as goal

pub returns-then-not-stands : goal.returns-then-not-stands
returns-then-not-stands c = λ at d x. law.factor-plain _ _ at d x (c.stands.ensures.no c.if-not-stands.true)

pub returns-in_err-e : goal.returns-in_err-e
returns-in_err-e c =
    let z = c.stands.ensures.yes c.if-not-stands.false in
    let o : c.exponent.result ≡ None = grind arith in
    let q : c.from_residual.result ≡ Err Spelling = search rules in
    rw q (λ at d x. law.factor_unraised c.args.m.number _ at d x z.0 z.1 (rw o at c.exponent.ensures))

pub returns : goal.returns
returns c =
    let z = c.stands.ensures.yes c.if-not-stands.false in
    let o : c.exponent.result ≡ Some c.in_ok-e.e = grind arith in
    let p = rw o at c.exponent.ensures in
    λ at d x. law.factor-raised _ _ at d x z.0 z.1 (omega arith) p.0 p.1 c.raise.ensures
