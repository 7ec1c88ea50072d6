-- A whole run of a program that reads records: what it puts is made of what the reads brought, whatever the pieces.
-- Believed, with `Reading`: what the programs promise. `Makes b k t` is a program's own word: t is made of the records that b is cut
-- into, numbered from k on.
--
--   handed taken xs brought              what a turn after `taken` bytes is handed, of the buffer xs: the bytes kept, and those that were brought
--   Turn Makes taken xs ys brought t     a turn: a read has brought these bytes, t was put, and the buffer xs is ys afterwards
--   Run Makes taken xs input t           all turns so far: `taken` bytes were brought, the input, t was put, and the buffer is xs
--   Step Makes taken more xs ys          what is made of a read that brought `more` bytes into the buffer xs, which is ys afterwards
--   TurnOf Makes taken xs ys r           what a turn promises, by its answer r
--   Whole Makes input t                  a run that has come to its end
--   RunOf Makes r                        what all turns together promise, by their answer r
use Rattle.std.specs.Prelude.{◌≡◌, Result, Ok, IsErr, List, [], ◌++◌, ℕ, ◌+◌, ◌%◌, ◌<◌, ◌≤◌, length, take, drop}
use Rattle.record.specs.Record.{record_bytes}
use Rattle.reading.specs.Reading.{most_read, number_after, upto}
use Rattle.reading.specs.declared.Failed.{Failed}

-- those of the record that is begun stand first
unfoldable pub handed : ℕ → List ℕ → List ℕ → List ℕ
handed taken xs brought = take (taken % record_bytes) xs ++ brought

-- of what is handed the whole records are made something of, at the end of the input all; the rest is kept
pub record Turn (Makes : List ℕ → ℕ → List ℕ → Type 0) (taken : ℕ) (xs ys brought t : List ℕ) : Type 0 where
  pub made : Makes (take (upto (taken % record_bytes) (length brought)) (handed taken xs brought)) (number_after taken) t
  pub rest : 0 < length brought → take ((taken + length brought) % record_bytes) ys ≡ drop (upto (taken % record_bytes) (length brought)) (handed taken xs brought)

-- the input is what was brought, and what was put stands one after the other too
pub data Run (Makes : List ℕ → ℕ → List ℕ → Type 0) : ℕ → List ℕ → List ℕ → List ℕ → Type 0 where
  begun : {xs : List ℕ} → Run Makes 0 xs [] []
  turned : {taken : ℕ} {xs ys input t brought u : List ℕ} → Run Makes taken xs input t → 0 < length brought → Turn Makes taken xs ys brought u
      → Run Makes (taken + length brought) ys (input ++ brought) (t ++ u)

-- what was brought stands behind the bytes that were kept
pub record Step (Makes : List ℕ → ℕ → List ℕ → Type 0) (taken more : ℕ) (xs ys : List ℕ) : Type 0 where
  pub text : List ℕ
  pub turn : Turn Makes taken xs ys (take more (drop (taken % record_bytes) xs)) text

-- bytes were brought, none since the input has ended, or reading or writing failed
pub data TurnOf (Makes : List ℕ → ℕ → List ℕ → Type 0) (taken : ℕ) (xs ys : List ℕ) (r : Result ℕ Failed) : Type 0 where
  on : {brought t : List ℕ} → r ≡ Ok (length brought) → 0 < length brought → taken + length brought ≤ most_read → Turn Makes taken xs ys brought t
      → TurnOf Makes taken xs ys r
  ended : {t : List ℕ} → r ≡ Ok 0 → Turn Makes taken xs ys [] t → TurnOf Makes taken xs ys r
  failed : IsErr r → TurnOf Makes taken xs ys r

-- the input has ended, or as many records were read as are read at the most
pub data Whole (Makes : List ℕ → ℕ → List ℕ → Type 0) (input : List ℕ) : List ℕ → Type 0 where
  ended : {taken : ℕ} {xs ys t u : List ℕ} → Run Makes taken xs input t → Turn Makes taken xs ys [] u → Whole Makes input (t ++ u)
  full : {xs t : List ℕ} → Run Makes most_read xs input t → Whole Makes input t

-- it has come to its end, or reading or writing failed
pub data RunOf (Makes : List ℕ → ℕ → List ℕ → Type 0) (r : Result Unit Failed) : Type 0 where
  whole : {input t : List ℕ} → r ≡ Ok tt → Whole Makes input t → RunOf Makes r
  failed : {taken : ℕ} {xs input t : List ℕ} → IsErr r → Run Makes taken xs input t → RunOf Makes r
