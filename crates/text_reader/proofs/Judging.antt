-- What a sum, read from the start of the text, says of the whole text.
--
--   judge_fault                   a fault
--   judge_rest                    the text goes on after the sum
--   judge_high, judge_read        a sentence
use mathlib.Core.Path.{◌≡◌, refl, sym, ap, ◌∙◌}
use mathlib.Core.List.{List, []}
use Prim.Native.Nat.{ℕ, ◌≤◌, ◌<◌}
use native.Mathlib.Omega.{arith}
use native.Mathlib.Decide.{ℕ_discrete}
use lib.ListN.{length, get_or}
use Rattle.algebra.specs.Polynomial.{Reduced}
use Rattle.algebra.proofs.Reduction.{reduced-reduced}
use Rattle.std.specs.Prelude.{Option, Some, None}
use Rattle.refusal.specs.Refusal.{Outcome, Answered, Refused, refusal, naming_none}
use Rattle.refusal.specs.declared.Concerns.TheVariants.{Neither, First}
use Rattle.refusal.specs.declared.Reason.TheVariants.{Limit, Spelling}
use Rattle.polynomial.specs.Answers.{Answer, nothing}
use Rattle.polynomial.specs.Moduli.{check_modulus}
use Rattle.polynomial.specs.Checks.{check_polynomial}
use Rattle.polynomial.proofs.Acceptance.{accepted-modulus}
use Rattle.built.specs.declared.Built.{Built}
use Rattle.built.specs.Built.{BuiltAs, within, beyond}
use Rattle.phrase.specs.declared.Fault.{Fault}
use Rattle.phrase.specs.declared.Fault.TheVariants as fault
use Rattle.text.specs.Grammar.{Sum, Product, term, negative, add, subtract, single, multiply, most_deep}
use Rattle.text.specs.Language.{Sentence}
use Rattle.text.specs.Meaning.{meaning, Within}
use Rattle.text.specs.States.{Before, nothing as no_sum, minus, less, spelling, stuck, fresh, step, at_product, at_sum, verdict}
use Rattle.text.specs.States as states
use Rattle.phrase.specs.Reading.{a_sum, Done, Fails, reason_of}
use Rattle.text.specs.Answers.{Sized, ReadsText, ninth, misspelt, high, read, answer_text, checked_text}
use Rattle.text.proofs.Spelling.{sum-verdict}
use Rattle.text.proofs.Exact.{judged_good, judged_deep, judged_spelling}
use Rattle.text.proofs.Promises.{two_passes}
use Rattle.text.proofs.Running.{run_out, run-fault}

-- a bracket closes nothing
product_shut : (b : Before) (p : Product) → step most_deep (at_product [] b p) 41 ≡ stuck spelling
unfolding step
product_shut b (single t) = refl
product_shut b (multiply p t) = refl

sum_shut : (t : Sum) → step most_deep (at_sum [] t) 41 ≡ stuck spelling
sum_shut (term p) = product_shut no_sum p
sum_shut (negative p) = product_shut minus p
sum_shut (add t p) = product_shut (states.plus t) p
sum_shut (subtract t p) = product_shut (less t) p

module _ {m : ℕ} {w : List ℕ} (ok : check_modulus m ≡ Answered) (size : Sized w) where
  pub judge_fault : (e : Fault) {q : Answer} → Fails a_sum w 0 0 e → q ≡ nothing (Refused (naming_none (reason_of e))) → ReadsText m w q
  judge_fault fault.Spelling c e = let z = judged_spelling w (c [] fresh refl) in misspelt ok size z.1 z.0 e
  judge_fault fault.Depth c e = ninth ok size (judged_deep w (c [] fresh refl)) e

  module _ {k : ℕ} {v : Option Built} (c : Done a_sum a_sum m w 0 0 k v) where
    pub judge_rest : {q : Answer} → k < length w → q ≡ nothing (refusal Neither Spelling) → ReadsText m w q
    judge_rest l e =
        let z = judged_spelling w (ap verdict (c.leads [] fresh refl) ∙ run-fault (at_sum [] c.tree) w k spelling l (go (ℕ_discrete (get_or w k 0) 41))) in
        misspelt ok size z.1 z.0 e
      where
        go : Dec (get_or w k 0 ≡ 41) → step most_deep (at_sum [] c.tree) (get_or w k 0) ≡ stuck spelling
        go (yes b) = ap (step most_deep (at_sum [] c.tree)) b ∙ sum_shut c.tree
        go (no b) = c.ends [] fresh l b

    sentence : length w ≤ k → Sentence most_deep w
    sentence l =
        let z = judged_good w c.tree (ap verdict (c.leads [] fresh refl ∙ run_out (at_sum [] c.tree) w k l) ∙ sum-verdict c.tree) in
        record { tree = c.tree; fits = z.0; spelled = z.1 }

  pub judge_high : {k : ℕ} {q : Answer} → Done a_sum a_sum m w 0 0 k None → length w ≤ k → q ≡ nothing (refusal Neither Limit) → ReadsText m w q
  unfolding sentence
  judge_high {q = q} c l e = go c.held
    where
      go : BuiltAs m (meaning c.tree m) (Within c.tree m) None → ReadsText m w q
      go (beyond n) = high ok size (sentence c l) n e

  pub judge_read : {k : ℕ} {v : Built} {q : Answer} {o : Outcome} → Done a_sum a_sum m w 0 0 k (Some v) → length w ≤ k → check_polynomial First m v.coefficients ≡ o → q ≡ answer_text o v.coefficients → ReadsText m w q
  unfolding sentence checked_text
  judge_read {v = v} {q = q} c l p e = go c.held
    where
      go : BuiltAs m (meaning c.tree m) (Within c.tree m) (Some v) → ReadsText m w q
      go (within i low is) =
          let red : Reduced m v.coefficients = rw is (reduced-reduced m (omega (arith, accepted-modulus ok)) _) in
          read ok size (sentence c l) i (e ∙ ap (λ (x : Outcome). answer_text x v.coefficients) (sym p ∙ two_passes red) ∙ ap checked_text is)
