-- What the code has found after each test, as the contracts say it: one law for each return.
--
--   told_blank                       what the chain finds in an area of zeros
--   Fitting, told-answered           the numbers of an answered chain fit a line
--   told-refused, told-accepted      a record that its check refuses; one that it accepts
use mathlib.Core.Path.{◌≡◌, refl, sym, ap, ◌∙◌}
use mathlib.Core.List.{List, [], ◌∷◌, ◌++◌, append-nil}
use Prim.Native.Nat.{ℕ, ◌*◌, ◌≤◌}
use native.Mathlib.Omega.{arith}
use lib.ListN.{length, drop, drop_of_length-le, length-replicate}
use Rattle.std.specs.Prelude.{Ok, Err}
use Rattle.algebra.specs.Polynomial.{degree, terms, limit}
use Rattle.refusal.specs.Refusal.{Answered, number}
use Rattle.refusal.specs.declared.Refusal.{Refusal}
use Rattle.refusal.proofs.Outcomes.{never}
use Rattle.digits.specs.Digits.{Put}
use Rattle.polynomial.specs.Checks.{check_one}
use Rattle.polynomial.proofs.Acceptance.{accepted-one, accepted-above, degree-fits}
use Rattle.area.specs.Area.{most_parts, area_words, cleared, laid}
use Rattle.chain.specs.declared.Numbers.{Numbers}
use Rattle.chain.specs.Chaining.{Chained, ChainedIn, chained_of, ChainFound, ChainOf}
use Rattle.chain.proofs.Answering.{told-found}
use Rattle.chain.specs.Chaining as chain
use Rattle.chain.proofs.Placing.{chained-within, parts_within}
use Rattle.record.specs.declared.Record.{Record}
use Rattle.record.specs.Record.{no_record, checked, checked_of}
use Rattle.record.proofs.Answers.{check_outcome, check_answered}
use Rattle.listing.specs.Text.{most_line, fields}
use Rattle.listing.specs.Listing.{zero_area, LineIn, AcceptedIn}
use Rattle.listing.specs.Listing as of

-- ---- the chain of an accepted record

blank_long : length zero_area ≡ area_words
blank_long = length-replicate area_words 0

-- an area of zeros is cleared already
blank_cleared : zero_area ≡ cleared zero_area
unfolding cleared
blank_cleared = sym (append-nil zero_area) ∙ ap (◌++◌ zero_area) (sym (drop_of_length-le zero_area {i = area_words} (omega (arith, blank_long))))

-- what the search finds in it answers: the chain
pub told_blank : {m n : ℕ} {f ys : List ℕ} {x : Chained} → check_one m f ≡ Answered → n ≡ degree f → ChainFound m n f zero_area ys x → ChainOf m f zero_area ys x
told_blank e n-is k = told-found (omega (arith, blank_long)) e n-is blank_cleared k

-- its numbers are no larger than a line has room for
pub record Fitting (f : List ℕ) (x : Numbers) : Type 0 where
  pub few-parts : x.parts ≤ most_parts
  pub few-tries : x.tries ≤ limit
  pub low-price : x.price ≤ limit
  pub low-degree : degree f ≤ limit

pub told-answered : {m : ℕ} {f xs ys : List ℕ} {x : Numbers} → ChainOf m f xs ys (chained_of (Ok x)) → length f ≡ terms → Fitting f x
told-answered (chain.short l a p) long = absurd (never (ap (λ (x : Chained). x.outcome) p) refl)
told-answered (chain.refused l e a p) long = absurd (never (ap (λ (x : Chained). x.outcome) p) refl)
told-answered (chain.shared l e n a p) long = absurd (never (ap (λ (x : Chained). x.outcome) p) refl)
told-answered {m} {f} {x = x} (chain.chained {parts = parts} l e c k a p) long =
    let accepted = accepted-one long e in
    let low-degree : degree f ≤ limit = degree-fits accepted in
    let count = ap (λ (x : Chained). x.parts) p in
    let stands : ChainedIn m (degree f) f [] (laid parts ++ drop (x.parts * terms) []) x.parts x.tries x.price
    = record { parts = parts; chain = rw (ap (λ (x : Chained). x.tries) p) k; count_is = count; cost_is = ap (λ (x : Chained). x.price) p; area = refl } in
    let (few, low) = chained-within (accepted-above accepted) stands in
    record { few-parts = omega (arith, count, parts_within accepted.two low-degree k); few-tries = omega arith; low-price = omega arith; low-degree = low-degree }

-- ---- the record check

module _ (b : List ℕ) {k q : ℕ} {before after : List ℕ} where
  -- refused: its number is in the line
  pub told-refused : (r : Refusal) {v : ℕ} → checked_of (Err r) ≡ checked b → v ≡ number r.reason → Put before 0 (fields k (v ∷ [])) most_line after q → LineIn b k before after q
  unfolding no_record
  told-refused r is e p = record { text = _; line = of.refused (sym (check_outcome b is)) refl; put = rw e at p }

  -- the line of what the answer holds is the record's
  pub told-accepted : {x : Record} → checked_of (Ok x) ≡ checked b → AcceptedIn x.modulus x.polynomial k before after q → LineIn b k before after q
  told-accepted is z = let (ok, m, f, n) = check_answered b is refl refl in record { text = _; line = of.chained ok (rw (m, f) at z.chain) refl; put = rw f at z.put }
