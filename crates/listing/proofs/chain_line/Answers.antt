use mathlib.Core.List.{[], ◌∷◌}
use Prim.Native.Nat.{ℕ, ◌+◌, ◌*◌}
use native.Mathlib.Omega.{arith}
use borrow.Author.Rules.{rules}
use Rattle.algebra.specs.Number.{table}
use Rattle.algebra.specs.Polynomial.{degree, limit}
use Rattle.digits.specs.Digits.{most_digits}
use Rattle.digits.proofs.Text.{put-append, put-most, put_byte}
use Rattle.area.specs.Area.{most_parts, place}
use Rattle.listing.specs.Text.{most_field, before_degrees, most_line}
use Rattle.listing.proofs.Text.{line-fields}
use Rattle.listing.proofs.chain_line.Goals as goal

pub returns : goal.returns
unfolding most_line before_degrees most_field most_digits most_parts
returns c =
    let a = c.args in
    let n = a.chain in
    rw (← line-fields a.number (0 ∷ a.degree ∷ n.parts ∷ n.tries ∷ n.price ∷ []) (table n.parts (λ (i : ℕ). degree (place a.area.now i))))
    (put-most {m = most_digits + most_field * 5 + (most_field * n.parts + 1)} (omega arith)
    (put-append (put-append c.digits-a.ensures c.spaced-b.ensures) (put-append c.degrees-end.ensures (put_byte _ _ _))))

pub digits-a-requires : goal.digits-a-requires
unfolding most_line before_degrees most_field most_digits most_parts
digits-a-requires c = search rules

pub overflow_cast-numbers : goal.overflow_cast-numbers
unfolding most_parts limit
overflow_cast-numbers c = search rules

pub overflow_cast-numbers-2 : goal.overflow_cast-numbers-2
unfolding most_parts limit
overflow_cast-numbers-2 c = search rules

pub overflow_cast-numbers-3 : goal.overflow_cast-numbers-3
unfolding most_parts limit
overflow_cast-numbers-3 c = search rules

pub overflow_cast-numbers-4 : goal.overflow_cast-numbers-4
unfolding most_parts limit
overflow_cast-numbers-4 c = search rules

pub spaced-b-requires : goal.spaced-b-requires
unfolding most_line before_degrees most_field most_digits most_parts
spaced-b-requires c = search rules

pub degrees-end-requires : goal.degrees-end-requires
unfolding most_line before_degrees most_field most_digits most_parts
degrees-end-requires c = search rules

pub bounds-out-end : goal.bounds-out-end
unfolding most_line before_degrees most_field most_digits most_parts
bounds-out-end c = search rules

pub overflow_add-result : goal.overflow_add-result
unfolding most_line before_degrees most_field most_digits most_parts
overflow_add-result c = search rules
