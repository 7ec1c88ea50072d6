use mathlib.Core.Path.{◌∙◌}
use native.Mathlib.Omega.{arith}
use Rattle.algebra.proofs.Sizes.{product-fits, carried-fits}
use Rattle.inner.proofs.Words.{one_word, two-words}
use Rattle.inner.proofs.reduced.Goals as goal

pub returns-then-w-eq0 : goal.returns-then-w-eq0
returns-then-w-eq0 c = c.remainder.ensures ∙ one_word _ _ c.if-w-eq0.true

pub overflow_mul-w : goal.overflow_mul-w
overflow_mul-w c = record { fits = product-fits (omega arith) (omega arith) }

pub overflow_add-w : goal.overflow_add-w
overflow_add-w c = record { fits = carried-fits (omega arith) (omega arith) (omega arith) }

pub returns : goal.returns
returns c = c.remainder-2.ensures ∙ two-words _ _ _ _ _ c.carry.ensures.0 c.near.ensures.0
