use mathlib.Core.Path.{◌≡◌, sym, ap, ◌∙◌}
use mathlib.Core.List.{List, ◌++◌}
use Prim.Native.Nat.{ℕ, ◌≤◌, ◌%◌}
use native.Mathlib.Omega.{arith}
use lib.ListN.{length, take}
use lib.Seq.{take-append_seam, length-take-le}
use Rattle.algebra.specs.Polynomial.{terms, limit}
use Rattle.record.specs.Record.{record_bytes}
use Rattle.reading.specs.Reading.{most_listed, most_read}
use Rattle.reading.proofs.more.Goals as goal

-- what stands before the part that is lent stays
stays : (n : ℕ) (xs zs : List ℕ) → n ≤ length xs → take n (take n xs ++ zs) ≡ take n xs
stays n xs zs h = ap (λ (k : ℕ). take k (take n xs ++ zs)) (sym (length-take-le n xs h)) ∙ take-append_seam (take n xs) zs

pub slice_bounds-read_after-end : goal.slice_bounds-read_after-end
unfolding record_bytes terms limit
slice_bounds-read_after-end c = omega arith

pub returns-in_default : goal.returns-in_default
unfolding record_bytes terms limit
returns-in_default c = record { brings = tt; kept = stays (c.args.taken % record_bytes) c.args.buf.now _ (omega arith) }

pub returns : goal.returns
unfolding most_read most_listed record_bytes terms limit
returns c = record { brings = (omega arith, omega arith); kept = stays (c.args.taken % record_bytes) c.args.buf.now _ (omega arith) }
