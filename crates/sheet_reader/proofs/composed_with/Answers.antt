use native.Mathlib.Omega.{arith}
use Rattle.algebra.specs.Polynomial.{limit}
use Rattle.sheet.proofs.Composing.{composed_skip, composed_asks, composed-more}
use Rattle.sheet.proofs.Handing.{empty_unused, handed-used, handed-place}
use Rattle.sheet_reader.proofs.composed_with.Goals as goal

pub returns-then-h-eq0 : goal.returns-then-h-eq0
returns-then-h-eq0 c = let q = c.requires.ready in composed_skip c.args.m.modulus.above_one q.2 q.0 c.requires.composed_to (empty_unused _ _ q.0 q.1 c.part-h.ensures c.if-h-eq0.true)

pub compose-requires : goal.compose-requires
compose-requires c =
    let q = c.requires.ready in composed_asks c.args.m.modulus.above_one q.2 q.0 c.requires.composed_to (handed-used _ _ q.0 q.1 c.part-h.ensures c.if-h-eq0.false) (handed-place _ _ q.0 q.1 c.part-h.ensures c.if-h-eq0.false) c.degree-s.ensures

pub overflow_mul-result : goal.overflow_mul-result
unfolding limit
overflow_mul-result c =
    let q = c.requires.ready in
    let z = composed_asks c.args.m.modulus.above_one q.2 q.0 c.requires.composed_to (handed-used _ _ q.0 q.1 c.part-h.ensures c.if-h-eq0.false) (handed-place _ _ q.0 q.1 c.part-h.ensures c.if-h-eq0.false) c.degree-s.ensures in
    omega (arith, z.within)

pub returns : goal.returns
returns c =
    let q = c.requires.ready in composed-more c.args.m.modulus.above_one q.2 q.0 c.requires.composed_to (handed-used _ _ q.0 q.1 c.part-h.ensures c.if-h-eq0.false) (handed-place _ _ q.0 q.1 c.part-h.ensures c.if-h-eq0.false) c.degree-s.ensures c.compose.ensures
