use mathlib.Core.Path.{◌≡◌, refl}
use borrow.Author.Rules.{rules}
use Rattle.std.specs.Prelude.{Err}
use Rattle.refusal.specs.Refusal.{naming_none}
use Rattle.refusal.specs.declared.Reason.TheVariants.{Factor}
use Rattle.inverse.proofs.Inverses.{inverse-coprime, shared_not_coprime}
use Rattle.chain.specs.Chaining.{factor, parts}
use Rattle.chain.proofs.accepted.Goals as goal

-- No. 5
pub returns-in_err-v : goal.returns-in_err-v
returns-in_err-v c =
    let e : c.from_residual.result ≡ Err (naming_none Factor) = search rules in
    rw e (factor (shared_not_coprime c.in_err-v.ensures) refl refl)

pub parts-requires : goal.parts-requires
parts-requires c =
    let p = c.requires in
    (record { modulus = p.modulus; whole = p.whole; two = p.two; coprime = inverse-coprime c.in_ok-v.ensures }, p.room, c.in_ok-v.ensures.1)

pub returns : goal.returns
returns c = parts (inverse-coprime c.in_ok-v.ensures) c.parts.ensures refl
