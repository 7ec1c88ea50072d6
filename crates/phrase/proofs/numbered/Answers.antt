use mathlib.Core.Path.{◌≡◌}
use native.Mathlib.Omega.{arith}
use borrow.Author.Rules.{rules}
use Rattle.std.specs.Prelude.{Some, None, Err}
use Rattle.phrase.specs.declared.Fault.TheVariants.{Spelling}
use Rattle.phrase.proofs.Readers as law
use Rattle.phrase.proofs.numbered.Goals as goal

pub returns-in_err-n : goal.returns-in_err-n
returns-in_err-n c =
    let o : c.number.result ≡ None = grind arith in
    let q : c.from_residual.result ≡ Err Spelling = search rules in
    rw q (λ d. law.base-unnumbered c.args.m.number _ _ d (rw o at c.number.ensures) c.requires.bracket c.requires.unknown)

pub returns : goal.returns
returns c =
    let o : c.number.result ≡ Some c.in_ok-n.n = grind arith in
    λ d. law.base-number _ _ _ d (rw o at c.number.ensures) c.single.ensures
