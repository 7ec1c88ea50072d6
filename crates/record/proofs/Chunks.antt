-- Bytes cut into records, chunk by chunk: the last may be short.
--
--   first, others     a chunk at the front of the bytes is their next record, and behind it is what is left
use mathlib.Core.Path.{◌≡◌, refl, sym, ap, ◌∙◌}
use mathlib.Core.List.{List, ◌++◌}
use Prim.Native.Nat.{ℕ, ◌≤◌, min}
use native.Mathlib.Decide.{dec_le}
use native.Mathlib.Omega.{arith}
use lib.ListN.{length, take, drop, take-append-drop}
use lib.Seq.{take_all, take_at}
use Rattle.std.proofs.lemmas.List.{append_cancel_left}
use Rattle.record.specs.Record.{record_bytes}

module _ {b : List ℕ} (x r : List ℕ) (is : b ≡ x ++ r) (long : length x ≡ min record_bytes (length b)) where
  -- it is the next record
  pub first : take record_bytes b ≡ x
  first = go (dec_le record_bytes (length b))
    where
      go : Dec (record_bytes ≤ length b) → take record_bytes b ≡ x
      go (yes whole) = ap (take record_bytes) is ∙ take_at x r record_bytes (omega arith)
      go (no short) =
          take_all record_bytes b (omega arith) ∙ sym (take_all (length x) b (omega arith)) ∙ ap (take (length x)) is ∙ take_at x r (length x) refl

  -- and behind it is what is left
  pub others : drop record_bytes b ≡ r
  others = append_cancel_left x (drop record_bytes b) r (ap (λ (l : List ℕ). l ++ drop record_bytes b) (sym first) ∙ take-append-drop record_bytes b ∙ is)
