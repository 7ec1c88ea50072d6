-- A listing may be written piece by piece, as the input comes.
--
--   pieces      the lines of whole records and then the lines of what follows them, numbered on, are the lines of all
--   lines-put   the lines that stand in a buffer, by their length
--   run-listed  what a run that has come to its end has put is the listing of its input, whatever the pieces
use mathlib.Core.Path.{◌≡◌, refl, sym, subst, ap, ◌∙◌}
use mathlib.Core.List.{List, ◌++◌, append_assoc}
use Prim.Native.Nat.{ℕ, ◌+◌, ◌/◌, ◌%◌, ◌≤◌}
use native.Mathlib.Nat.{add-zero}
use native.Mathlib.Omega.{arith}
use lib.ListN.{length, take, drop, length-append, length-drop}
use lib.Seq.{take-append-le, drop-append-le, take_at, sets-eq}
use Rattle.algebra.specs.Polynomial.{terms, limit}
use Rattle.record.specs.Record.{record_bytes}
use Rattle.listing.specs.Listing.{Line, Lines, none, more, most_lines, LinesIn}
use Rattle.reading.specs.Running.{Whole}
use Rattle.reading.proofs.Running.{whole}

pub pieces : {b : List ℕ} {k : ℕ} {t : List ℕ} (c u : List ℕ) → length b % record_bytes ≡ 0 → Lines b k t
    → Lines c (k + length b / record_bytes) u → Lines (b ++ c) k (t ++ u)
unfolding record_bytes terms limit
pieces {b} {k} {t} c u w (none e f) l = rw (e, f) (rw (e, add-zero) at l)
pieces {b} {k} {t} c u w (more {t = x} {u = y} h line rest e) l =
    let whole : record_bytes ≤ length b = omega arith in
    let left : length (drop record_bytes b) % record_bytes ≡ 0 = simp length-drop (omega arith) in
    let on : k + length b / record_bytes ≡ k + 1 + length (drop record_bytes b) / record_bytes = simp length-drop (omega arith) in
    let first : Line (take record_bytes (b ++ c)) k x = rw (take-append-le record_bytes b c whole) line in
    let others : Lines (drop record_bytes (b ++ c)) (k + 1) (y ++ u) = rw (drop-append-le record_bytes b c whole) (pieces c u left rest (rw on at l)) in
    more {b = b ++ c} {text = t ++ u} (simp length-append (omega arith)) first others (rw (e, append_assoc))

-- they stand at its start
pub lines-put : {b : List ℕ} {k : ℕ} {xs ys : List ℕ} {r : ℕ} → most_lines ≤ length xs → LinesIn b k xs ys r → Lines b k (take r ys)
lines-put {b} {k} {xs} {ys} {r} room l =
    let t : List ℕ = l.text in
    let e : r ≡ length t = omega (arith, l.put.end) in
    let fits : 0 + length t ≤ length xs = omega (arith, l.put.within) in
    let f : take r ys ≡ t = ap (take r) (l.put.stored ∙ sets-eq t xs 0 fits) ∙ take_at t _ r (sym e) in
    subst (Lines b k) (sym f) l.lines

-- a listing written piece by piece is the listing of all
pub run-listed : {input t : List ℕ} → Whole Lines input t → Lines input 1 t
run-listed = whole (record { none = none refl refl; pieces = λ b t c u k w first others. pieces c u w first others })
