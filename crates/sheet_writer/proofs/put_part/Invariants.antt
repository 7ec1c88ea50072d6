use mathlib.Core.Path.{◌≡◌}
use mathlib.Core.List.{◌++◌}
use Prim.Native.Nat.{◌+◌, ◌*◌}
use lib.ListN.{drop}
use Rattle.sheet.specs.Sheet.{joined}
use Rattle.sheet.proofs.Words.{words}
use Rattle.sheet_writer.proofs.put_part.Given as goal

abbrev pub invariant-loop-j : goal.invariant-loop-j
invariant-loop-j l = l.r ≡ joined (l.j + 1) (words l.m l.p) ++ drop ((l.j + 1) * 4) l.initial.r
