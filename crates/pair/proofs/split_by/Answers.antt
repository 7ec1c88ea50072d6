use mathlib.Core.Path.{◌≡◌, refl, sym, ap, ◌∙◌}
use Prim.Native.Nat.{ℕ, ◌%◌}
use native.Mathlib.Nat.{mul_comm, mod-eq_of_lt}
use native.Mathlib.Omega.{arith}
use borrow.Author.Rules.{rules}
use Rattle.std.specs.Prelude.{Err}
use Rattle.refusal.specs.Refusal.{naming_none}
use Rattle.refusal.specs.declared.Reason.TheVariants.{Factor}
use Rattle.algebra.specs.Polynomial.{limit, terms}
use Rattle.inverse.proofs.Inverses.{inverse-coprime, shared_not_coprime}
use Rattle.right.specs.Rows.{words}
use Rattle.right.proofs.Columns.{room-none}
use Rattle.pair.specs.Pairing.{shared, none}
use Rattle.pair.proofs.Forcing.{asked_root, root_none, root_open}
use Rattle.pair.proofs.split_by.Goals as goal

-- No. 5
pub returns-in_err-u : goal.returns-in_err-u
returns-in_err-u c =
    let e : c.from_residual.result ≡ Err (naming_none Factor) = search rules in
    rw e (shared (shared_not_coprime c.in_err-u.ensures) refl)

pub root-requires : goal.root-requires
unfolding words terms limit
root-requires c =
    let p = c.requires in
    let a = c.args in
    let unit = ap (λ (x : ℕ). x % a.m.number) (mul_comm _ a.d.left) ∙ c.in_ok-u.ensures.1 ∙ sym (mod-eq_of_lt p.0.modulus.above_one) in
    (asked_root p.0 unit, p.1, room-none (omega (arith, p.0.modulus.above_one)))

-- No. 7: the root says no
pub returns-then-not-root : goal.returns-then-not-root
returns-then-not-root c = rw c.into.ensures (none (inverse-coprime c.in_ok-u.ensures) (root_none c.requires.0 (inverse-coprime c.in_ok-u.ensures) c.root.ensures c.if-not-root.true) refl)

pub split_open-requires : goal.split_open-requires
split_open-requires c = root_open c.requires.0 (inverse-coprime c.in_ok-u.ensures) c.root.ensures
