-- What a line of the listing says of a record's chain.
--
--   shared     the line of an accepted record whose n and m share a factor: No. 5
--   listed     and if they share none: the numbers of 01's chain, and the degrees of its parts left to right
use mathlib.Core.Path.{◌≡◌, ap, ◌∙◌}
use mathlib.Core.List.{List, [], ◌∷◌}
use Prim.Native.Nat.{ℕ, ◌≤◌}
use native.Mathlib.Omega.{arith}
use lib.ListN.{length, length-replicate}
use Rattle.algebra.specs.Number.{Coprime}
use Rattle.algebra.specs.Polynomial.{degree}
use Rattle.algebra.specs.Chain.{Chain, degrees, price}
use Rattle.refusal.specs.Refusal.{number}
use Rattle.refusal.specs.declared.Reason.TheVariants.{Factor}
use Rattle.refusal.specs.Refusal.{Answered}
use Rattle.refusal.proofs.Outcomes.{never}
use Rattle.polynomial.specs.Moduli.{modulus}
use Rattle.polynomial.proofs.Acceptance.{accepted-above}
use Rattle.area.specs.Area.{area_words}
use Rattle.area.proofs.Reading.{part_fills}
use Rattle.chain.specs.Chaining.{Chained}
use Rattle.chain.proofs.Promises.{chain_exact}
use Rattle.demands.specs.Chains.{Complete}
use Rattle.demands.proofs.Chain.{chain-complete}
use Rattle.record.specs.Record.{word, coefficients, check_record}
use Rattle.record.proofs.Answers.{coefficients-long, one-checked}
use Rattle.listing.specs.Text.{fields}
use Rattle.listing.specs.Listing.{zero_area, chain_numbers, Line, refused, chained}
use Rattle.listing.proofs.Places.{left_to_right, written-degrees}

-- the numbers of an answer: those of 01's chain
answer_numbers : {m : ℕ} {f xs ys : List ℕ} {x : Chained} {parts : List (List ℕ)} → Complete m f xs ys x parts → x.outcome ≡ Answered
    → chain_numbers (degree f) ys x ≡ 0 ∷ degree f ∷ length parts ∷ x.tries ∷ price parts ∷ left_to_right (degrees parts)
answer_numbers {xs = xs} {parts = parts} q z =
    let two = accepted-above q.accepted in
    rw (z, q.count, q.cost, q.area, written-degrees xs parts (λ i l. part_fills two (q.is_part i l)))

-- it is long enough
room : area_words ≤ length zero_area
room = omega (arith, length-replicate {A = ℕ} area_words 0)

module _ {b : List ℕ} {k : ℕ} {text : List ℕ} (ok : check_record b ≡ Answered) where
  -- n and m share a factor: No. 5
  pub shared : Line b k text → (Coprime (degree (coefficients b)) (modulus (word b 0)) → ⊥) → text ≡ fields k (number Factor ∷ [])
  shared (refused c e) share = absurd (never c ok)
  shared (chained c x e) share = rw ((chain_exact room (one-checked b ok) x).1.1 share) at e

  -- they share none: the chain
  pub listed : Line b k text → Coprime (degree (coefficients b)) (modulus (word b 0))
      → (parts : List (List ℕ)) × (t : ℕ) × Chain (modulus (word b 0)) (degree (coefficients b)) (coefficients b) parts t
      × (text ≡ fields k (0 ∷ degree (coefficients b) ∷ length parts ∷ t ∷ price parts ∷ left_to_right (degrees parts)))
  listed (refused c e) coprime = absurd (never c ok)
  listed (chained {x = x} c is e) coprime =
      let z = (chain_exact room (one-checked b ok) is).0.1 coprime in
      let (parts, q) = chain-complete (coefficients-long b) is z in
      (parts, x.tries, q.chain, e ∙ ap (fields k) (answer_numbers q z))
