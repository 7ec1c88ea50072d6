-- Bytes cut into records, and their lines one after the other in a buffer.
--
--   Progress                 what a loop over the records has listed, and what is left
--   begun, turned, ended     before the first record; after one more; after the last
use mathlib.Core.Path.{◌≡◌, refl, sym, ap, ◌∙◌}
use mathlib.Core.List.{List, [], ◌∷◌, ◌++◌, append_assoc, append-nil}
use Prim.Native.Nat.{ℕ, zero, suc, ◌+◌, ◌*◌, ◌-◌, ◌<◌, ◌≤◌, min}
use native.Mathlib.Omega.{arith}
use native.Mathlib.Nat.{add-zero, mul-suc, mul-le-mul_left}
use lib.ListN.{length, take, drop, set, length-append, length-drop, drop_of_length-le}
use lib.Seq.{sets, take_all}
use Rattle.algebra.specs.Polynomial.{terms, limit}
use Rattle.digits.specs.Digits.{Put}
use Rattle.digits.proofs.Text.{put-append, put-most}
use Rattle.record.specs.Record.{record_bytes}
use Rattle.record.proofs.Chunks.{first, others}
use Rattle.listing.specs.Text.{most_line}
use Rattle.listing.specs.Listing.{Lines, none, more, LineIn, LinesIn, most_records, most_lines}

-- ---- stores into a part, said of the whole

sets_suc : (t : List ℕ) (x : ℕ) (xs : List ℕ) (w : ℕ) → sets (x ∷ xs) (suc w) t ≡ x ∷ sets xs w t
sets_suc [] x xs w = refl
sets_suc (v ∷ t) x xs w = sets_suc t x (set xs w v) (suc w)

sets_nil : (t : List ℕ) (i : ℕ) → sets [] i t ≡ []
sets_nil [] i = refl
sets_nil (v ∷ t) i = sets_nil t (suc i)

sets_drop : (w : ℕ) (xs t : List ℕ) → sets xs w t ≡ take w xs ++ sets (drop w xs) 0 t
sets_drop zero xs t = refl
sets_drop (suc w) [] t = sets_nil t (suc w) ∙ sym (sets_nil t 0)
sets_drop (suc w) (x ∷ xs) t = sets_suc t x xs w ∙ ap (λ (l : List ℕ). x ∷ l) (sets_drop w xs t)

-- `&mut xs[w..]` as it is lent, and as it comes back
module _ (xs : List ℕ) (w : ℕ) {t : List ℕ} {m : ℕ} {ys : List ℕ} {q : ℕ} (p : Put (take (length xs - w) (drop w xs)) 0 t m ys q) where
  part_sets : take w xs ++ (ys ++ drop (length xs - w) (drop w xs)) ≡ sets xs w t
  part_sets =
      let l : length (drop w xs) ≤ length xs - w = omega (arith, length-drop w xs) in
      rw (p.stored, take_all (length xs - w) (drop w xs) l, drop_of_length-le (drop w xs) l, append-nil, ← sets_drop w xs t)

  part-put : Put xs w t m (take w xs ++ (ys ++ drop (length xs - w) (drop w xs))) (w + q)
  part-put = record { stored = part_sets; end = omega (arith, p.end); within = omega (arith, p.within) }

-- ---- the loop

-- the text of the first i records, and that the lines of what is left complete it
pub record Progress (s : List ℕ) (number : ℕ) (before rest : List ℕ) (i w : ℕ) (now : List ℕ) : Type 0 where
  pub passed : record_bytes * i < length s + record_bytes
  pub left : 0 < length rest → record_bytes * i + length rest ≡ length s
  pub text : List ℕ
  pub put : Put before 0 text (most_line * i) now w
  pub whole : (u : List ℕ) → Lines rest (number + i) u → Lines s number (text ++ u)

module _ (s : List ℕ) (number : ℕ) (before : List ℕ) where
  pub begun : Progress s number before s 0 0 before
  unfolding record_bytes terms limit
  begun = record {
    passed = omega arith;
    left = λ _. omega arith;
    text = [];
    put = record { stored = refl; end = refl; within = omega arith };
    whole = λ u l. rw add-zero at l;
  }

  module _ {rest : List ℕ} {i w : ℕ} {now : List ℕ} (g : Progress s number before rest i w now) where
    pub ended : length rest ≡ 0 → length s ≤ most_records * record_bytes → LinesIn s number before now w
    unfolding most_lines most_records record_bytes terms limit
    ended h l =
        record {
          text = g.text;
          lines = rw append-nil at (g.whole [] (none (drop_of_length-le rest {i = 0} (omega arith)) refl));
          put = put-most (few most_line) g.put;
        }
      where
        few : (n : ℕ) → n * i ≤ most_records * n
        few n = let d : i ≤ most_records = omega (arith, g.passed) in omega (arith, mul-le-mul_left n d)

    -- a turn
    module _ (some : 0 < length rest) (x r : List ℕ) (is : rest ≡ x ++ r) (long : length x ≡ min record_bytes (length rest)) {ys : List ℕ} {q : ℕ} (z : LineIn x (number + i) (take (length now - w) (drop w now)) ys q) where
      pub turned : Progress s number before r (i + 1) (w + q) (take w now ++ (ys ++ drop (length now - w) (drop w now)))
      unfolding record_bytes terms limit
      turned =
          record {
            passed = omega (arith, g.left some);
            left = λ h. omega (arith, g.left some, long, ap length is, length-append x r);
            text = g.text ++ z.text;
            put = put-most (omega (arith, mul-suc most_line i)) (put-append g.put (part-put now w z.put));
            whole = λ u l. rw append_assoc (g.whole (z.text ++ u) (more {t = z.text} {u = u} some (rw (first x r is long) z.line) (rw (others x r is long) (rw (on i) at l)) refl));
          }
        where
          on : (i : ℕ) → number + (i + 1) ≡ number + i + 1
          on i = omega arith
