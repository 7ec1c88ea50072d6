-- The program's memory; only the leaves need it. What a run promises is `RunOf` of `reading/specs/Running`, with the lines of records.
--
--   buffer_bytes          the bytes of the buffer
use Rattle.std.specs.Prelude.{ℕ, ◌*◌}
use Rattle.record.specs.Record.{record_bytes}
use Rattle.listing.specs.Listing.{most_records}

-- those of the records that are listed at a time
unfoldable pub buffer_bytes : ℕ
buffer_bytes = most_records * record_bytes
