use mathlib.Core.Path.{sym}
use Rattle.polynomial.specs.Moduli.{machine_words}
use Rattle.polynomial.proofs.Moduli.{modulus_zero, modulus_itself}
use Rattle.polynomial.proofs.modulus.Goals as goal

pub returns-then-word-eq0 : goal.returns-then-word-eq0
unfolding machine_words
returns-then-word-eq0 c = rw c.if-word-eq0.true (sym modulus_zero)

pub returns : goal.returns
returns c = rw c.from.ensures (sym (modulus_itself _ c.if-word-eq0.false))
