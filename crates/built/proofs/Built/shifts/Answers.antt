use mathlib.Core.Path.{◌≡◌, refl, sym, ◌∙◌}
use mathlib.Core.Bool.{true, and-eq-true_iff}
use mathlib.Core.List.{List, [], ◌∷◌}
use Prim.Native.Nat.{ℕ, zero, suc}
use native.Mathlib.Nat.{mul-le-mul}
use borrow.Author.Tests.{eqb-true}
use lib.Dec.{eqb}
use lib.ListN.{take}
use lib.Seq.{get_or-take}
use Rattle.std.specs.List.{list_all}
use Rattle.std.proofs.Common.{rules, tests}
use Rattle.std.proofs.lemmas.Iterator.{YieldsList-from_slice, YieldsList-from_take}
use Rattle.std.proofs.lemmas.Iterator.Search.{all_from_yields_List}
use native.Mathlib.Omega.{arith}
use Rattle.algebra.specs.Polynomial.{coef, limit}
use Rattle.built.proofs.Building as law
use Rattle.built.proofs.Built.shifts.Goals as goal

zero_at : (xs : List ℕ) → list_all (λ x. eqb x 0) xs ≡ true → (i : ℕ) → coef xs i ≡ 0
zero_at [] e i = refl
zero_at (x ∷ xs) e zero = eqb-true x 0 ((and-eq-true_iff (eqb x 0) (list_all (λ y. eqb y 0) xs)).0 e).0
zero_at (x ∷ xs) e (suc i) = zero_at xs ((and-eq-true_iff (eqb x 0) (list_all (λ y. eqb y 0) xs)).0 e).1 i

pub overflow_mul-self : goal.overflow_mul-self
unfolding limit
overflow_mul-self c =
    record { fits = omega (arith, mul-le-mul {n₁ = c.args.self.now.degree} {m₁ = c.args.p} {n₂ = limit} {m₂ = limit} (law.inside c.args.self.now) c.requires) }

pub returns : goal.returns
unfolding limit
returns c =
    let x = c.args.self.now in
    let front = take x.degree x.coefficients in
    let e = all_from_yields_List (λ y. eqb y 0) _ _ c.all.result c.all.ensures.ran (YieldsList-from_take x.degree (YieldsList-from_slice x.coefficients cc) cc) (λ y b q k. search (rules, tests)) in
    λ t. record { below = λ i l. sym (get_or-take x.degree x.coefficients i 0 l) ∙ zero_at front (sym e ∙ t) i; within = c.if-self-p-gt-LIMIT.false }
