use Rattle.sheet.proofs.Composing.{composed-none}
use Rattle.sheet_reader.proofs.compose.Goals as goal

pub loop-i-init : goal.loop-i-init
loop-i-init c = composed-none c.args.m.modulus.above_one _ c.identity.ensures
