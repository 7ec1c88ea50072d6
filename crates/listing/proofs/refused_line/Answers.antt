use Prim.Native.Nat.{◌+◌, ◌*◌}
use native.Mathlib.Omega.{arith}
use borrow.Author.Rules.{rules}
use Rattle.digits.specs.Digits.{most_digits}
use Rattle.digits.proofs.Text.{put-append, put-most, put_byte}
use Rattle.area.specs.Area.{most_parts}
use Rattle.listing.specs.Text.{most_field, before_degrees, most_line, fields}
use Rattle.listing.proofs.refused_line.Goals as goal

pub returns : goal.returns
unfolding fields most_line before_degrees most_field most_digits most_parts
returns c = put-most {m = most_digits + (most_field * 1 + 1)} (omega arith) (put-append c.digits-a.ensures (put-append c.spaced-b.ensures (put_byte _ _ _)))

pub digits-a-requires : goal.digits-a-requires
unfolding most_line before_degrees most_field most_digits most_parts
digits-a-requires c = search rules

pub spaced-b-requires : goal.spaced-b-requires
unfolding most_line before_degrees most_field most_digits most_parts
spaced-b-requires c = search rules

pub bounds-out-b : goal.bounds-out-b
unfolding most_line before_degrees most_field most_digits most_parts
bounds-out-b c = search rules

pub overflow_add-result : goal.overflow_add-result
unfolding most_line before_degrees most_field most_digits most_parts
overflow_add-result c = search rules
