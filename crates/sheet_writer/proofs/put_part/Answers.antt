use native.Mathlib.Omega.{arith}
use Rattle.algebra.specs.Polynomial.{limit, terms}
use Rattle.record.specs.Record.{record_bytes}
use Rattle.sheet.proofs.Words.{word_first, word_next, word_last}
use Rattle.sheet_writer.proofs.put_part.Goals as goal

pub loop-j-init : goal.loop-j-init
unfolding terms limit
loop-j-init c = let a = c.args in word_first a.m a.p.now a.r.now c.put_word.ensures

pub loop-j-preserved : goal.loop-j-preserved
unfolding terms limit
loop-j-preserved c =
    let l = c.loop-j in
    let a = c.args in
    word_next a.m a.p.now c.put_word.new.r l.r l.j l.invariant c.put_word-in-loop-j.ensures

pub returns : goal.returns
unfolding record_bytes terms limit
returns c =
    let l = c.loop-j in
    word_last _ _ _ (omega arith) (omega arith) l.invariant
