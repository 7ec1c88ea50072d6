use mathlib.Core.Path.{sym, ◌∙◌}
use Rattle.sheet.proofs.Composing.{parted_rising}
use Rattle.sheet.proofs.Taking.{parts_parted}
use Rattle.sheet_writer.proofs.check_area.Goals as goal

pub check_product-requires : goal.check_product-requires
check_product-requires c =
    (c.requires, parted_rising (parts_parted _ c.requires (sym c.check_modulus.ensures ∙ c.in_ok-check_modulus.was) (sym c.check_parts.ensures ∙ c.in_ok-check_parts.was)))
