use borrow.Author.Rules.{rules}
use Rattle.algebra.specs.Polynomial.{terms, limit}
use Rattle.digits.specs.Digits.{most_digits}
use Rattle.area.specs.Area.{most_parts}
use Rattle.record.specs.Record.{record_bytes}
use Rattle.listing.specs.Text.{most_field, before_degrees, most_line}
use Rattle.listing.specs.Listing.{most_records, most_lines}
use Rattle.list.specs.Buffer.{buffer_bytes}
use Rattle.list.proofs.main.Goals as goal

pub run-requires : goal.run-requires
unfolding buffer_bytes most_lines most_line before_degrees most_field most_digits most_parts most_records record_bytes terms limit
run-requires c = search rules
