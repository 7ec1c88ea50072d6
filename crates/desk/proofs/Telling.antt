-- What a function tells and writes of the result of an operation: its answer, or zeros beside the refusal.
--
--   checked_told, answer_told, parts_told, made_told, chained_told, numbered_told, chosen_told, sheet_told, read_told, text_told
--       each by the two cases of the result
use mathlib.Core.Path.{◌≡◌, refl, ◌∙◌, ap}
use mathlib.Core.List.{List, [], ◌∷◌}
use Prim.Native.Nat.{ℕ}
use lib.ListN.{replicate}
use Rattle.std.specs.Prelude.{Result, Ok, Err}
use Rattle.std.specs.Result.{result_err, result_unwrap_or, ResultUnwrapsOrElse}
use Rattle.algebra.specs.Polynomial.{terms}
use Rattle.refusal.specs.Refusal.{Outcome}
use Rattle.refusal.specs.declared.Refusal.{Refusal}
use Rattle.polynomial.specs.declared.Pair.{Pair}
use Rattle.polynomial.specs.Answers.{Answer, Parts, answer_of, parts_of, nothing, no_parts, zero_pair}
use Rattle.record.specs.declared.Record.{Record}
use Rattle.record.specs.Record.{checked, checked_of, no_record, zeros, Checked}
use Rattle.change.specs.declared.Change.{Change}
use Rattle.change.specs.Changing.{Made, made_of, identity}
use Rattle.chain.specs.declared.Numbers as chain
use Rattle.chain.specs.Chaining.{chained_of, ChainOf}
use Rattle.chains.specs.declared.Numbers as chains
use Rattle.chains.specs.Choosing.{numbered_of, chosen_of, NumberOf, NthOf}
use Rattle.sheet.specs.declared.Sheet.{Sheet}
use Rattle.sheet.specs.Answers.{unread, contents_of, ReadsSheet, WritesSheet}
use Rattle.sheet.specs.Answers as sheet-zeros
use Rattle.text.specs.Answers.{written_of, WritesText}
use Rattle.desk.specs.declared.Refused as face
use Rattle.desk.specs.Face.{told, told_by, CheckedAs, AnswersAs, PartsAs, MadeAs, ChainedAs, NumberedAs, ChosenAs, SheetAs, ReadAs, TextAs}

module _ {o : face.Refused} where
  pub checked_told : {b : List ℕ} (x : Result Record Refusal) {c : Record} → checked_of x ≡ checked b → ResultUnwrapsOrElse x (λ c. c ≡ zeros) c
      → o ≡ told_by (result_err x) → CheckedAs b o c.modulus c.polynomial c.degree
  unfolding no_record
  checked_told (Ok r) is w t = record {
    refused = t ∙ ap (λ (x : Checked). told x.outcome) is;
    modulus_is = ap (λ (c : Record). c.modulus) w ∙ ap (λ (x : Checked). x.modulus) is;
    f_is = ap (λ (c : Record). c.polynomial) w ∙ ap (λ (x : Checked). x.polynomial) is;
    degree_is = ap (λ (c : Record). c.degree) w ∙ ap (λ (x : Checked). x.degree) is;
  }
  checked_told (Err e) is w t = record {
    refused = t ∙ ap (λ (x : Checked). told x.outcome) is;
    modulus_is = ap (λ (c : Record). c.modulus) w ∙ ap (λ (x : Checked). x.modulus) is;
    f_is = ap (λ (c : Record). c.polynomial) w ∙ ap (λ (x : Checked). x.polynomial) is;
    degree_is = ap (λ (c : Record). c.degree) w ∙ ap (λ (x : Checked). x.degree) is;
  }

  pub answer_told : {Of : Answer → Type 0} {f : List ℕ} (x : Result (List ℕ) Refusal) → Of (answer_of x) → f ≡ result_unwrap_or x (replicate terms 0)
      → o ≡ told_by (result_err x) → AnswersAs Of o f
  unfolding nothing
  answer_told (Ok p) is w t = record { answer = answer_of (Ok p); is = is; refused = t; f_is = w }
  answer_told (Err e) is w t = record { answer = answer_of (Err e); is = is; refused = t; f_is = w }

  pub parts_told : {Of : Parts → Type 0} {p : Pair} (x : Result Pair Refusal) → Of (parts_of x) → ResultUnwrapsOrElse x (λ p. p ≡ zero_pair) p
      → o ≡ told_by (result_err x) → PartsAs Of o p.left p.right
  unfolding no_parts
  parts_told (Ok p) is w t = record { parts = parts_of (Ok p); is = is; refused = t; g_is = ap (λ (p : Pair). p.left) w; h_is = ap (λ (p : Pair). p.right) w }
  parts_told (Err e) is w t = record { parts = parts_of (Err e); is = is; refused = t; g_is = ap (λ (p : Pair). p.left) w; h_is = ap (λ (p : Pair). p.right) w }

  pub made_told : {Of : Made → Type 0} {c : Change} (x : Result Change Refusal) → Of (made_of x) → c ≡ result_unwrap_or x identity
      → o ≡ told_by (result_err x) → MadeAs Of o (c.unit ∷ c.origin ∷ [])
  made_told (Ok c) is w t = record { made = made_of (Ok c); is = is; refused = t; out_is = ap (λ (c : Change). c.unit ∷ c.origin ∷ []) w }
  made_told (Err e) is w t = record { made = made_of (Err e); is = is; refused = t; out_is = ap (λ (c : Change). c.unit ∷ c.origin ∷ []) w }

  pub chained_told : {m : ℕ} {f xs ys : List ℕ} {c : chain.Numbers} (x : Result chain.Numbers Refusal) → ChainOf m f xs ys (chained_of x)
      → ResultUnwrapsOrElse x (λ c. (c.parts ≡ 0) × ((c.tries ≡ 0) × (c.price ≡ 0))) c → o ≡ told_by (result_err x) → ChainedAs m f xs ys o (c.parts ∷ c.tries ∷ c.price ∷ [])
  chained_told (Ok c) is w t = record { chained = chained_of (Ok c); is = is; refused = t; numbers_are = ap (λ (c : chain.Numbers). c.parts ∷ c.tries ∷ c.price ∷ []) w }
  chained_told (Err e) is w t = record { chained = chained_of (Err e); is = is; refused = t; numbers_are = rw (w.0, w.1.0, w.1.1) refl }

  pub numbered_told : {m : ℕ} {f : List ℕ} {k : ℕ} (x : Result ℕ Refusal) → NumberOf m f (numbered_of x) → k ≡ result_unwrap_or x 0
      → o ≡ told_by (result_err x) → NumberedAs m f o k
  numbered_told (Ok k) is w t = record { numbered = numbered_of (Ok k); is = is; refused = t; number_is = w }
  numbered_told (Err e) is w t = record { numbered = numbered_of (Err e); is = is; refused = t; number_is = w }

  pub chosen_told : {m j : ℕ} {f xs ys : List ℕ} {c : chains.Numbers} (x : Result chains.Numbers Refusal) → NthOf m f j xs ys (chosen_of x)
      → ResultUnwrapsOrElse x (λ c. (c.parts ≡ 0) × (c.price ≡ 0)) c → o ≡ told_by (result_err x) → ChosenAs m f j xs ys o (c.parts ∷ c.price ∷ [])
  chosen_told (Ok c) is w t = record { chosen = chosen_of (Ok c); is = is; refused = t; numbers_are = ap (λ (c : chains.Numbers). c.parts ∷ c.price ∷ []) w }
  chosen_told (Err e) is w t = record { chosen = chosen_of (Err e); is = is; refused = t; numbers_are = rw (w.0, w.1) refl }

  pub sheet_told : {w : ℕ} {xs b c : List ℕ} (x : Outcome) → WritesSheet w xs b c x → o ≡ told_by (result_err x) → SheetAs w xs b c o
  sheet_told (Ok u) is t = record { outcome = Ok u; is = is; refused = t }
  sheet_told (Err e) is t = record { outcome = Err e; is = is; refused = t }

  pub text_told : {m : ℕ} {f xs ys : List ℕ} {k : ℕ} (x : Result ℕ Refusal) → WritesText m f xs ys (written_of x) → k ≡ result_unwrap_or x 0
      → o ≡ told_by (result_err x) → TextAs m f xs ys o k
  text_told (Ok k) is w t = record { written = written_of (Ok k); is = is; refused = t; length_is = w }
  text_told (Err e) is w t = record { written = written_of (Err e); is = is; refused = t; length_is = w }

  pub read_told : {b xs ys : List ℕ} (x : Result Sheet Refusal) {c : Sheet} → ReadsSheet b xs ys (contents_of x)
      → ResultUnwrapsOrElse x (λ c. c ≡ sheet-zeros.zeros) c → o ≡ told_by (result_err x) → ReadAs b xs ys o c.modulus c.polynomial
  unfolding unread
  read_told (Ok c) is w t = record { contents = contents_of (Ok c); is = is; refused = t; modulus_is = ap (λ (c : Sheet). c.modulus) w; f_is = ap (λ (c : Sheet). c.polynomial) w }
  read_told (Err e) is w t = record { contents = contents_of (Err e); is = is; refused = t; modulus_is = ap (λ (c : Sheet). c.modulus) w; f_is = ap (λ (c : Sheet). c.polynomial) w }
