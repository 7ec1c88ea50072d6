use mathlib.Core.Path.{sym}
use native.Mathlib.Omega.{arith}
use lib.Seq.{length-take-le}
use Rattle.algebra.specs.Polynomial.{terms, limit}
use Rattle.record.specs.Record.{record_bytes}
use Rattle.reading.proofs.Running.{stepped}
use Rattle.reading.proofs.step.Goals as goal

pub slice_bounds-make-end : goal.slice_bounds-make-end
unfolding record_bytes terms limit
slice_bounds-make-end g c = omega arith

pub slice_bounds-make-end-2 : goal.slice_bounds-make-end-2
unfolding record_bytes terms limit
slice_bounds-make-end-2 g c = sym (length-take-le _ _ (omega arith))

pub slice_bounds-put_made-end : goal.slice_bounds-put_made-end
unfolding record_bytes terms limit
slice_bounds-put_made-end g c = omega arith

pub slice_bounds-put_made-end-2 : goal.slice_bounds-put_made-end-2
unfolding record_bytes terms limit
slice_bounds-put_made-end-2 g c = sym (length-take-le _ _ (omega arith))

pub keep-requires : goal.keep-requires
unfolding record_bytes terms limit
keep-requires g c = omega arith

pub returns : goal.returns
unfolding record_bytes terms limit
returns g c =
    stepped g.M.Maker.makes c.args.taken c.args.more _ (omega arith) (rw c.listed-to.ensures.1 at c.make-n.ensures.1) (rw c.listed-to.ensures.1 at c.keep.ensures)
