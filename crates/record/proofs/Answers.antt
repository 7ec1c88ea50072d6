-- The answer of the record check.
--
--   short-checked      fewer bytes than a record has: No. 9 and nothing else is the answer
--   refused-checked    a whole record, and its checks refuse: their refusal and nothing else is the answer
--   answered-checked   a whole record, and its checks pass: its words and the degree are the answer
--   coefficients-long  how many coefficients a record has
--   check_outcome      the answer's outcome is that of the checks
--   check_answered     what an accepting record check has found
--   one-checked        what passes the record check passes the checks of one polynomial
--   check_unique       two answers that satisfy the contract are equal
--   first-bytes        the answer comes from the first record_bytes bytes
use mathlib.Core.Path.{◌≡◌, refl, sym, ◌∙◌, ap}
use mathlib.Core.Bool.{Bool, false}
use mathlib.Core.List.{List}
use Prim.Native.Nat.{ℕ, ◌+◌, ◌*◌, ◌≤◌, ◌<◌}
use native.Mathlib.Decide.{dec_le}
use native.Mathlib.Omega.{arith}
use borrow.Author.Tests.{lt-ltb, le-ltb}
use lib.Dec.{ltb}
use lib.ListN.{length, take}
use lib.Seq.{get_or-take, take_all, length-take-le}
use Rattle.algebra.specs.Polynomial.{terms, degree}
use Rattle.refusal.specs.Refusal.{refusal, refuse, is_refused}
use Rattle.refusal.specs.declared.Concerns.TheVariants.{Neither}
use Rattle.refusal.specs.declared.Reason.TheVariants.{Short}
use Rattle.refusal.specs.Refusal.{Outcome, Answered, Refused}
use Rattle.refusal.specs.declared.Refusal.{Refusal}
use Rattle.std.specs.Prelude.{Ok, Err}
use Rattle.refusal.proofs.Outcomes.{then_both, passed_on}
use Rattle.polynomial.specs.Moduli.{modulus}
use Rattle.polynomial.specs.Checks.{check_one}
use Rattle.algebra.proofs.Numbers.{table-length, table_ext}
use Rattle.record.specs.Record.{word, record_bytes, coefficients, check_record, no_record, answer, checked, Checked}

module _ (b : List ℕ) where
  -- fewer bytes than a record has: No. 9 and nothing else is the answer
  pub short-checked : length b < record_bytes → no_record (refusal Neither Short) ≡ checked b
  unfolding checked check_record
  short-checked h = simp (lt-ltb _ _ h)

  enough : record_bytes ≤ length b → check_record b ≡ check_one (modulus (word b 0)) (coefficients b)
  unfolding check_record
  enough l = simp (le-ltb _ _ l)

  module _ {w m : ℕ} {f : List ℕ} {o : Outcome} (long : record_bytes ≤ length b) (w-is : w ≡ word b 0) (m-is : m ≡ modulus w) (f_is : f ≡ coefficients b) (o_is : o ≡ check_one m f) where
    outcome : check_record b ≡ o
    outcome = enough long ∙ (simp (← w-is, ← m-is, ← f_is)) ∙ sym o_is

    -- a whole record, and its checks refuse: their refusal and nothing else is the answer
    pub refused-checked : {r : Refusal} → o ≡ Refused r → no_record (Refused r) ≡ checked b
    unfolding checked
    refused-checked h = rw (outcome, h) refl

    -- a whole record, and its checks pass: its words and the degree are the answer
    pub answered-checked : {n : ℕ} → n ≡ degree f → o ≡ Answered
        → ◌≡◌ {A = Checked} (record { outcome = Answered; modulus = w; polynomial = f; degree = n }) (checked b)
    unfolding checked
    answered-checked n-is h = simp (outcome, h, n-is, ← w-is, ← f_is)

pub coefficients-long : (b : List ℕ) → length (coefficients b) ≡ terms
unfolding coefficients
coefficients-long b = table-length terms _

answer-outcome : (o : Outcome) (b : List ℕ) → (answer o b).outcome ≡ o
unfolding no_record
answer-outcome (Ok x) b = refl
answer-outcome (Err r) b = refl

module _ (b : List ℕ) {x : Checked} (is : x ≡ checked b) where
  -- its outcome is that of the checks
  pub check_outcome : x.outcome ≡ check_record b
  unfolding checked
  check_outcome = ap (λ (x : Checked). x.outcome) is ∙ answer-outcome (check_record b) b

  -- accepted: what the answer holds
  pub check_answered : {t : Bool} → t ≡ is_refused x.outcome → t ≡ false
      → (check_record b ≡ Answered) × (x.modulus ≡ word b 0) × (x.polynomial ≡ coefficients b) × (x.degree ≡ degree (coefficients b))
  unfolding checked
  check_answered tells h =
      let ok = passed_on check_outcome tells h in
      let y : x ≡ answer Answered b = is ∙ ap (λ (o : Outcome). answer o b) ok in
      (ok, ap (λ (x : Checked). x.modulus) y, ap (λ (x : Checked). x.polynomial) y, ap (λ (x : Checked). x.degree) y)

-- what passes the record check passes the checks of one polynomial
pub one-checked : (b : List ℕ) → check_record b ≡ Answered → check_one (modulus (word b 0)) (coefficients b) ≡ Answered
unfolding check_record
one-checked b h = (then_both (refuse (ltb (length b) record_bytes) Neither Short) _ h).1

-- two answers that satisfy the contract are equal
pub check_unique : (b : List ℕ) {x y : Checked} → x ≡ checked b → y ≡ checked b → x ≡ y
check_unique b p q = p ∙ sym q

word-take : (n i : ℕ) (b : List ℕ) → 4 * i + 4 ≤ n → word (take n b) i ≡ word b i
unfolding word
word-take n i b l =
    simp (get_or-take n b (4 * i) 0 (omega arith), get_or-take n b (4 * i + 1) 0 (omega arith), get_or-take n b (4 * i + 2) 0 (omega arith), get_or-take n b (4 * i + 3) 0 (omega arith))

take-coefficients : (b : List ℕ) → coefficients (take record_bytes b) ≡ coefficients b
unfolding coefficients record_bytes
take-coefficients b = table_ext terms _ _ (λ k l. word-take record_bytes (k + 1) b (omega arith))

-- an answer shows no more of the bytes than the words
same_answer : (b b' : List ℕ) (o : Outcome) → word b 0 ≡ word b' 0 → coefficients b ≡ coefficients b' → answer o b ≡ answer o b'
same_answer b b' (Ok x) w f = simp (w, f)
same_answer b b' (Err r) w f = refl

take-checked : (b : List ℕ) → checked (take record_bytes b) ≡ checked b
unfolding checked record_bytes
take-checked b = go (dec_le record_bytes (length b))
  where
    go : Dec (record_bytes ≤ length b) → checked (take record_bytes b) ≡ checked b
    go (yes l) =
        let w : word (take record_bytes b) 0 ≡ word b 0 = word-take record_bytes 0 b (omega arith) in
        let e : length (take record_bytes b) ≡ record_bytes = length-take-le record_bytes b l in
        let o : check_record (take record_bytes b) ≡ check_record b
        = enough (take record_bytes b) (omega arith) ∙ (simp (w, take-coefficients b)) ∙ sym (enough b l) in
        simp o (same_answer (take record_bytes b) b (check_record b) w (take-coefficients b))
    go (no l) = ap checked (take_all record_bytes b (omega arith))

-- the answer comes from the first record_bytes bytes
pub first-bytes : (b b' : List ℕ) → take record_bytes b ≡ take record_bytes b' → checked b ≡ checked b'
first-bytes b b' e = sym (take-checked b) ∙ ap checked e ∙ take-checked b'
