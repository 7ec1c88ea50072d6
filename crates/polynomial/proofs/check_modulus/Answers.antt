use mathlib.Core.Path.{sym}
use native.Mathlib.Omega.{arith}
use Rattle.polynomial.specs.Moduli.{machine_words, smallest, largest}
use Rattle.polynomial.proofs.Moduli.{words-taken, within-taken, below-refused, above-refused}
use Rattle.polynomial.proofs.check_modulus.Goals as goal

pub returns-then-m-eq-MACHINE_WORDS : goal.returns-then-m-eq-MACHINE_WORDS
unfolding machine_words
returns-then-m-eq-MACHINE_WORDS c = rw c.if-m-eq-MACHINE_WORDS.true (sym words-taken)

pub returns-then-m-lt-SMALLEST : goal.returns-then-m-lt-SMALLEST
unfolding smallest
returns-then-m-lt-SMALLEST c = rw c.into.ensures (sym (below-refused _ (omega arith)))

pub returns-then-m-gt-LARGEST : goal.returns-then-m-gt-LARGEST
unfolding machine_words largest
returns-then-m-gt-LARGEST c = rw c.into-then-m-gt-LARGEST.ensures (sym (above-refused _ (omega arith) c.if-m-eq-MACHINE_WORDS.false))

pub returns : goal.returns
unfolding smallest largest
returns c = sym (within-taken _ (omega arith) (omega arith))
