use native.Mathlib.Omega.{arith}
use Rattle.digits.specs.Digits.{most_digits}
use Rattle.digits.proofs.Text.{few-digits, put_one, put-more}
use Rattle.digits.proofs.+digits.Goals as goal

pub bounds-out-k : goal.bounds-out-k
bounds-out-k t c =
    let a = c in
    omega (arith, c.digits-k.ensures.end, few-digits a.args.n c.if-n-lt10.false (omega arith))

pub returns-then-n-lt10 : goal.returns-then-n-lt10
returns-then-n-lt10 t c = put_one _ _ c.if-n-lt10.true

pub returns-else-n-lt10 : goal.returns-else-n-lt10
returns-else-n-lt10 t c = put-more c.if-n-lt10.false (omega arith) c.digits-k.ensures

pub bounds-out-at : goal.bounds-out-at
unfolding most_digits
bounds-out-at t c = omega arith
