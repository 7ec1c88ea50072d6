use mathlib.Core.Path.{◌≡◌, sym, ap, ◌∙◌}
use mathlib.Core.Bool.{Bool, not, ◌&&◌}
use native.Mathlib.Omega.{arith}
use borrow.Author.Rules.{rules}
use lib.Dec.{eqb}
use Rattle.std.specs.Prelude.{Err}
use Rattle.refusal.specs.Refusal.{refuse}
use Rattle.refusal.specs.declared.Concerns.TheVariants.{Neither}
use Rattle.refusal.specs.declared.Reason.TheVariants.{Sheet}
use Rattle.record.specs.Record.{word}
use Rattle.area.specs.Area.{most_parts}
use Rattle.sheet.specs.Sheet.{record_at}
use Rattle.sheet.specs.Checks.{check_moduli}
use Rattle.sheet.proofs.Checking.{each_none, each_more, each_stop, each_done}
use Rattle.sheet_records.proofs.check_moduli.Goals as goal

pub loop-i-init : goal.loop-i-init
loop-i-init c = each_none _

pub returns-in_err-check_modulus : goal.returns-in_err-check_modulus
unfolding most_parts check_moduli
returns-in_err-check_modulus c =
    let l = c.loop-i in
    let a = c.args in
    let e : c.from_residual.result ≡ Err c.in_err-check_modulus.field-0.0 = search rules in
    let u = ap (λ (t : Bool). refuse (t && not (eqb (word (record_at a.sheet.now l.i) 0) c.word-m.result)) Neither Sheet) (sym (c.requires.2.is l.i (omega arith))) in
    rw (e, ← c.word-m.ensures) (each_stop _ most_parts _ (omega arith) l.invariant (u ∙ sym c.check_modulus.ensures ∙ c.in_err-check_modulus.was))

pub loop-i-preserved : goal.loop-i-preserved
unfolding most_parts
loop-i-preserved c =
    let l = c.loop-i in
    let a = c.args in
    let u = ap (λ (t : Bool). refuse (t && not (eqb (word (record_at a.sheet.now l.i) 0) c.word-m.result)) Neither Sheet) (sym (c.requires.2.is l.i (omega arith))) in
    each_more _ l.invariant (u ∙ sym c.check_modulus.ensures ∙ c.in_ok-check_modulus.was)

pub returns : goal.returns
unfolding most_parts check_moduli
returns c = rw (← c.word-m.ensures) (each_done _ most_parts (omega arith) (omega arith) c.loop-i.invariant)
