use Rattle.sheet.proofs.Handing.{handed_test}
use Rattle.sheet_checks.proofs.used.Goals as goal

pub returns : goal.returns
returns c = let p = c.requires in handed_test _ _ p.0 p.1 c.part.ensures
