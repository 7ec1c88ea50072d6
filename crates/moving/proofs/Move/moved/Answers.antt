use native.Mathlib.Omega.{arith}
use Rattle.moving.proofs.Moving.{composable_line, moved-is}
use Rattle.moving.proofs.Move.moved.Goals as goal

pub compose-requires : goal.compose-requires
compose-requires c = composable_line c.requires c.line.ensures

pub returns : goal.returns
returns c = moved-is (omega arith) _ _ _ c.line.ensures c.compose.ensures
