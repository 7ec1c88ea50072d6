use mathlib.Core.Path.{◌∙◌}
use native.Mathlib.Omega.{arith}
use Rattle.algebra.specs.Polynomial.{terms, limit}
use Rattle.area.specs.Area.{most_parts, area_words}
use Rattle.polynomial.proofs.Acceptance.{accepted-modulus, accepted-one}
use Rattle.chain.proofs.Answering.{chain_given}
use Rattle.listing.proofs.Telling.{told_blank, told-answered}
use Rattle.listing.proofs.accepted_line.Goals as goal

-- the modulus passed No. 1
pub new-m-requires : goal.new-m-requires
unfolding terms limit
new-m-requires c = rw c.modulus.ensures (accepted-modulus (accepted-one (omega arith) c.requires.passed).modulus)

pub accepted-requires : goal.accepted-requires
unfolding area_words most_parts terms limit
accepted-requires c = chain_given (omega arith) c.requires.passed (c.new-m.ensures ∙ c.modulus.ensures) c.requires.measured (omega arith)

pub chain_line-requires : goal.chain_line-requires
unfolding area_words most_parts terms limit
chain_line-requires c =
    let is = told_blank c.requires.passed c.requires.measured (rw (c.new-m.ensures, c.modulus.ensures) at c.in-Ok.ensures) in
    let fit = told-answered is (omega arith) in
    record { fits = (omega (arith, c.requires.measured, fit.low-degree), fit.few-parts, fit.few-tries, fit.low-price); room = (omega arith, omega arith) }

pub returns-in-Ok : goal.returns-in-Ok
unfolding area_words most_parts terms limit
returns-in-Ok c =
    record {
      answer = _;
      area = _;
      chain = told_blank c.requires.passed c.requires.measured (rw (c.new-m.ensures, c.modulus.ensures) at c.in-Ok.ensures);
      put = rw c.requires.measured at c.chain_line.ensures;
    }

pub returns-in-Err : goal.returns-in-Err
unfolding area_words most_parts terms limit
returns-in-Err c =
    record {
      answer = _;
      area = _;
      chain = told_blank c.requires.passed c.requires.measured (rw (c.new-m.ensures, c.modulus.ensures) at c.in-Err.ensures);
      put = rw c.number.ensures at c.refused_line.ensures;
    }
