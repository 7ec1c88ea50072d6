use Rattle.area.specs.Area.{place}
use Rattle.sheet.specs.Steps.{ComposedTo}
use Rattle.sheet_reader.proofs.compose.Given as goal

abbrev pub invariant-loop-i : goal.invariant-loop-i
invariant-loop-i l = ComposedTo l.m.number (place l.area) l.i l.g.polynomial l.g.degree
