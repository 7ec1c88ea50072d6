use mathlib.Core.Path.{sym, ap, ◌∙◌}
use lib.ListN.{length}
use Rattle.area.proofs.Handing.{part_placed}
use Rattle.desk.proofs.Answers.{place_empty, place-full}
use Rattle.desk.proofs.desk_part.Goals as goal

pub returns-then-n-eq0 : goal.returns-then-n-eq0
returns-then-n-eq0 c = place_empty _ _ (sym (ap length c.part-p.ensures) ∙ c.if-n-eq0.true)

pub start-requires : goal.start-requires
start-requires c = part_placed _ _ (λ e. c.if-n-eq0.false (ap length c.part-p.ensures ∙ e))

pub returns : goal.returns
returns c = rw (c.start.ensures, c.part-p.ensures) (place-full _ _ (λ e. c.if-n-eq0.false (ap length c.part-p.ensures ∙ e)))
