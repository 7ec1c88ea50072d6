-- The listing determines its text.
--
--   line_determined     two lines of one record are equal
--   lines_determined    so are two texts of the same bytes
--   line_unique         two answers of `line` to one call are equal, and so is what they leave in the buffer
--   lines_unique        the same of `lines`
use mathlib.Core.Path.{◌≡◌, sym, ap, ap₂, ◌∙◌}
use mathlib.Core.List.{List, [], ◌∷◌, ◌++◌}
use Prim.Native.Nat.{ℕ, ◌+◌, ◌<◌}
use native.Mathlib.Omega.{arith}
use lib.ListN.{length}
use lib.Seq.{sets}
use Rattle.algebra.specs.Polynomial.{degree}
use Rattle.refusal.specs.Refusal.{number_of}
use Rattle.refusal.specs.Refusal.{Outcome}
use Rattle.refusal.proofs.Outcomes.{never}
use Rattle.digits.specs.Digits.{Put}
use Rattle.chain.specs.Chaining.{Chained}
use Rattle.chain.proofs.Promises.{chain_determined}
use Rattle.record.specs.Record.{coefficients}
use Rattle.record.proofs.Answers.{coefficients-long}
use Rattle.listing.specs.Text.{fields}
use Rattle.listing.specs.Listing.{chain_numbers, Line, refused, chained, Lines, none, more, LineIn, LinesIn}

module _ {b : List ℕ} {k : ℕ} {text text' : List ℕ} where
  -- the line of a record is determined
  pub line_determined : Line b k text → Line b k text' → text ≡ text'
  line_determined (refused c e) (refused c' e') = e ∙ ap (λ (o : Outcome). fields k (number_of o ∷ [])) (sym c ∙ c') ∙ sym e'
  line_determined (refused c e) (chained c' x' e') = absurd (never c c')
  line_determined (chained c x e) (refused c' e') = absurd (never c' c)
  line_determined (chained c x e) (chained c' x' e') =
      let (answer, area) = chain_determined (coefficients-long b) x x' in
      e ∙ ap₂ (λ (x : Chained) (ys : List ℕ). fields k (chain_numbers (degree (coefficients b)) ys x)) answer area ∙ sym e'

-- some bytes, or none
not_both : {b : List ℕ} → b ≡ [] → 0 < length b → ⊥
not_both e l = let n = ap length e in omega arith

-- the lines of the records that b is cut into are determined
pub lines_determined : {b : List ℕ} {k : ℕ} {text text' : List ℕ} → Lines b k text → Lines b k text' → text ≡ text'
lines_determined (none e t) (none e' t') = t ∙ sym t'
lines_determined (none e t) (more l x y z) = absurd (not_both e l)
lines_determined (more l x y z) (none e t) = absurd (not_both e l)
lines_determined (more l x y z) (more l' x' y' z') = z ∙ ap₂ ◌++◌ (line_determined x x') (lines_determined y y') ∙ sym z'

-- equal texts in one buffer
put_determined : {xs : List ℕ} {at : ℕ} {t t' : List ℕ} {m : ℕ} {ys ys' : List ℕ} {r r' : ℕ} → t ≡ t' → Put xs at t m ys r → Put xs at t' m ys' r' → (ys ≡ ys') × (r ≡ r')
put_determined {xs} {at} e p q = (p.stored ∙ ap (sets xs at) e ∙ sym q.stored, p.end ∙ ap (λ (t : List ℕ). at + length t) e ∙ sym q.end)

module _ {b : List ℕ} {k : ℕ} {xs ys ys' : List ℕ} {r r' : ℕ} where
  -- the answer and every byte of the buffer are determined, for one record
  pub line_unique : LineIn b k xs ys r → LineIn b k xs ys' r' → (ys ≡ ys') × (r ≡ r')
  line_unique x y = put_determined (line_determined x.line y.line) x.put y.put

  -- and for several
  pub lines_unique : LinesIn b k xs ys r → LinesIn b k xs ys' r' → (ys ≡ ys') × (r ≡ r')
  lines_unique x y = put_determined (lines_determined x.lines y.lines) x.put y.put
