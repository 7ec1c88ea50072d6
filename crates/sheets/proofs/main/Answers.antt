use borrow.Author.Rules.{rules}
use Rattle.algebra.specs.Polynomial.{terms, limit}
use Rattle.area.specs.Area.{most_parts}
use Rattle.record.specs.Record.{record_bytes}
use Rattle.sheet.specs.Sheet.{sheet_bytes}
use Rattle.sheets.specs.Sheets.{most_sheets, sheets_buffer}
use Rattle.sheets.proofs.main.Goals as goal

pub run-requires : goal.run-requires
unfolding sheets_buffer most_sheets sheet_bytes most_parts record_bytes terms limit
run-requires c = search rules
