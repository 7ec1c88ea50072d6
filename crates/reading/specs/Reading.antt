-- How much of its input a program reads, and where the bytes of a read go.
--
--   most_listed             how many records are read at the most
--   most_read               their bytes
--   number_after taken      the number of the record that is next, or begun, after `taken` bytes
--   MayRead taken bytes r   r bytes may be read into a buffer of so many bytes, after `taken`
--   Brings taken room got   how many bytes a read into a buffer of `room` bytes may bring
--   Came taken xs ys got    what a read into the buffer xs may come to, which is ys afterwards
--   upto kept more          how many bytes are listed where `more` have come after `kept`
--   to_front xs from n      xs after its n elements from index `from` on were put at the front
use Rattle.std.specs.Prelude.{◌≡◌, cond, Result, Ok, Err, List, ◌++◌, ℕ, ◌+◌, ◌-◌, ◌*◌, ◌/◌, ◌%◌, ◌<◌, ◌≤◌, eqb, length, take, drop}
use Rattle.record.specs.Record.{record_bytes}
use Rattle.reading.specs.declared.Failed.{Failed}

-- after so many a program stops reading
unfoldable pub most_listed : ℕ
most_listed = 1000000

-- no byte past these is asked for
unfoldable pub most_read : ℕ
most_read = most_listed * record_bytes

-- records are numbered from 1
unfoldable pub number_after : ℕ → ℕ
number_after taken = taken / record_bytes + 1

-- they have room behind the bytes of the record that is begun, and none of them lies past the last record that is read
pub record MayRead (taken bytes r : ℕ) : Type 0 where
  pub some : 0 < r
  pub behind : taken % record_bytes + r ≤ bytes
  pub listed : taken + r ≤ most_read

-- so many bytes have room behind those of the record that is begun, and none of them lies past the last record that is read
abbrev pub Brings : ℕ → ℕ → Result ℕ Failed → Type 0
Brings taken room (Ok n) = (taken + n ≤ most_read) × (taken % record_bytes + n ≤ room)
Brings taken room (Err e) = Unit

-- the bytes of the record that is begun stay as they are
pub record Came (taken : ℕ) (xs ys : List ℕ) (got : Result ℕ Failed) : Type 0 where
  pub brings : Brings taken (length xs) got
  pub kept : take (taken % record_bytes) ys ≡ take (taken % record_bytes) xs

-- all at the end of the input, and before it those of whole records
unfoldable pub upto : ℕ → ℕ → ℕ
upto kept more = cond (eqb more 0) kept (kept + more - (kept + more) % record_bytes)

-- the n elements stand at the front, and what lies behind them has not changed
unfoldable pub to_front : List ℕ → ℕ → ℕ → List ℕ
to_front xs from n = take n (drop from xs) ++ drop n xs
