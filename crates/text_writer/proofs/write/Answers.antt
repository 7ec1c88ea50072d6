use mathlib.Core.Path.{◌≡◌, refl, sym, ap, ◌∙◌}
use mathlib.Core.List.{List, ◌++◌}
use Prim.Native.Nat.{ℕ}
use native.Mathlib.Nat.{zero-add}
use native.Mathlib.Omega.{arith}
use borrow.Author.Rules.{rules}
use lib.ListN.{drop}
use lib.Seq.{length-take-le}
use Rattle.algebra.specs.Polynomial.{terms, limit}
use Rattle.std.specs.Prelude.{Err}
use Rattle.refusal.specs.Refusal.{Answered}
use Rattle.digits.specs.Digits.{most_digits}
use Rattle.text.specs.Answers.{refused, wrote}
use Rattle.text.proofs.Promises.{text-refused, text-short, text-fits}
use Rattle.text.specs.Writing.{most_term, most_text}
use Rattle.text_writer.proofs.Putting as law
use Rattle.text_writer.proofs.write.Goals as goal

pub check_one-requires : goal.check_one-requires
unfolding terms limit
check_one-requires c = record { long = search rules; is = c.degree-n.ensures }

pub returns-in_err-check_one : goal.returns-in_err-check_one
returns-in_err-check_one c =
    let e : c.from_residual.result ≡ Err c.in_err-check_one.field-0.0 = search rules in
    rw (e, ← c.modulus.ensures) (refused (text-refused _ _ _ (sym c.check_one.ensures ∙ c.in_err-check_one.was)) refl refl)

pub put_text-length-requires : goal.put_text-length-requires
unfolding terms limit most_text most_term most_digits
put_text-length-requires c = (record { long = search rules; is = c.degree-n.ensures }, omega arith)

pub returns-then-area-length : goal.returns-then-area-length
returns-then-area-length c =
    rw (c.into.ensures, ← c.modulus.ensures)
    (refused (text-short _ _ _ (sym c.check_one.ensures ∙ c.in_ok-check_one.was) (omega (arith, c.put_text-length.ensures.end))) refl refl)

pub slice_bounds-text-end : goal.slice_bounds-text-end
unfolding terms limit most_text most_term most_digits
slice_bounds-text-end c = omega (arith, c.put_text-length.ensures.within, c.put_text-length.auto.out)

pub slice_bounds-copy_from_slice-end-3 : goal.slice_bounds-copy_from_slice-end-3
unfolding terms limit most_text most_term most_digits
slice_bounds-copy_from_slice-end-3 c = sym (length-take-le _ _ (omega (arith, c.put_text-length.ensures.within, c.put_text-length.auto.out)))

pub copy_from_slice-requires : goal.copy_from_slice-requires
unfolding terms limit most_text most_term most_digits
copy_from_slice-requires c =
    length-take-le _ _ c.if-area-length.false ∙ sym (length-take-le _ _ (omega (arith, c.put_text-length.ensures.within, c.put_text-length.auto.out)))

pub returns : goal.returns
unfolding terms limit most_text most_term most_digits
returns c =
    let p = c.put_text-length.ensures in
    rw (← c.modulus.ensures)
    (wrote (text-fits _ _ _ (sym c.check_one.ensures ∙ c.in_ok-check_one.was) (omega (arith, p.end, c.if-area-length.false)))
    (law.copied _ _ _ (omega (arith, p.end, p.within)) p (ap (λ (l : List ℕ). l ++ drop c.put_text-length.result c.args.area.now) c.copy_from_slice.ensures.after))
    (ap (λ (n : ℕ). record { outcome = Answered; length = n }) (p.end ∙ zero-add _)))
