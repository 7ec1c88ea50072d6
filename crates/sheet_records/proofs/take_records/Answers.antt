use mathlib.Core.Path.{◌≡◌, sym, ap, ◌∙◌}
use Prim.Native.Nat.{◌+◌}
use native.Mathlib.Omega.{arith}
use borrow.Author.Rules.{rules}
use Rattle.std.specs.Prelude.{Err}
use Rattle.area.specs.Area.{put_at, cleared, most_parts, area_words}
use Rattle.algebra.specs.Polynomial.{terms}
use Rattle.sheet.specs.Sheet.{held, area_of}
use Rattle.sheet.specs.Checks.{check_records}
use Rattle.sheet.proofs.Joining.{joined-begun, joined_done, put_next}
use Rattle.sheet.proofs.Checking.{each_none, each_more, each_stop, each_done}
use Rattle.sheet.proofs.Taking.{held-long, cleared-filled}
use Rattle.sheet_records.proofs.take_records.Goals as goal

pub loop-i-init : goal.loop-i-init
loop-i-init c = (search rules, each_none _, joined-begun _ terms _)

pub returns-in_err-take_record : goal.returns-in_err-take_record
unfolding most_parts check_records put_at
returns-in_err-take_record c =
    let l = c.loop-i in
    let a = c.args in
    let e : c.from_residual.result ≡ Err c.in_err-take_record.field-0.0 = search rules in
    let z = put_next (held a.sheet.now) terms (held-long a.sheet.now) a.area.now _ l.i l.invariant.2 c.take_record.ensures.1 in
    rw e (record {
      outcome = each_stop _ most_parts _ (omega arith) l.invariant.1 (sym c.take_record.ensures.0 ∙ c.in_err-take_record.was);
      filled = λ q. cc;
      past = ap cleared z ∙ cleared-filled a.sheet.now a.area.now (l.i + 1) (omega arith);
    })

pub loop-i-preserved : goal.loop-i-preserved
unfolding most_parts put_at
loop-i-preserved c =
    let l = c.loop-i in
    let a = c.args in (
      search rules,
      each_more _ l.invariant.1 (sym c.take_record.ensures.0 ∙ c.in_ok-take_record.was),
      put_next (held a.sheet.now) terms (held-long a.sheet.now) a.area.now _ l.i l.invariant.2 c.take_record.ensures.1,
    )

pub returns : goal.returns
unfolding most_parts check_records area_of area_words
returns c =
    let l = c.loop-i in
    let a = c.args in
    let z = joined_done (held a.sheet.now) terms a.area.now most_parts (omega arith) (omega arith) l.invariant.2 in
    record {
      outcome = each_done _ most_parts (omega arith) (omega arith) l.invariant.1;
      filled = λ e. z;
      past = ap cleared z ∙ cleared-filled a.sheet.now a.area.now most_parts (omega arith);
    }
