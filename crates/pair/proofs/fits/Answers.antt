use mathlib.Core.Path.{◌∙◌}
use borrow.Author.Tests.{le-leb, lt-leb}
use Rattle.pair.specs.Pairing.{fits}
use Rattle.pair.proofs.fits.Goals.{then-d-ge2, else-d-ge2}
use Rattle.pair.proofs.fits.Goals as goal

pub returns-then-n-d-eq0 : goal.returns-then-n-d-eq0
unfolding fits
returns-then-n-d-eq0 c = elim c.if-d-ge2.branch [
  | then-d-ge2 w ↦ simp (le-leb _ _ w.if-d-ge2.true, ← w.value-is, c.if-n-d-eq0.true)
  | else-d-ge2 w ↦ let e = lt-leb _ _ w.if-d-ge2.false in cc (e, w.value-is, c.if-n-d-eq0.true)
]

pub returns-else-n-d-eq0 : goal.returns-else-n-d-eq0
unfolding fits
returns-else-n-d-eq0 c = elim c.if-d-ge2.branch [
  | then-d-ge2 w ↦ simp (le-leb _ _ w.if-d-ge2.true, ← w.value-is, c.if-n-d-eq0.false)
  | else-d-ge2 w ↦ w.value-is ∙ simp (lt-leb _ _ w.if-d-ge2.false)
]
