use mathlib.Core.Path.{refl}
use native.Mathlib.Omega.{arith}
use Rattle.algebra.specs.Polynomial.{terms, limit}
use Rattle.polynomial.proofs.Filling.{filled_none, filled_more, filled-all}
use Rattle.record.specs.Record.{record_bytes, coefficients}
use Rattle.record.proofs.coefficients.Goals as goal

pub loop-i-init : goal.loop-i-init
unfolding terms limit
loop-i-init c = filled_none refl

pub word-requires : goal.word-requires
unfolding terms limit record_bytes
word-requires c = omega arith

pub loop-i-preserved : goal.loop-i-preserved
unfolding terms limit
loop-i-preserved c = filled_more (omega arith) c.word.ensures c.loop-i.invariant

pub returns : goal.returns
unfolding terms limit coefficients
returns c = filled-all (omega arith) c.loop-i.invariant
