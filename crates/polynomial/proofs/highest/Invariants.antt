use Rattle.std.proofs.Common.{◌≡◌, ℕ, ◌<◌, ◌≤◌, length, slice_index}
use Rattle.polynomial.proofs.highest.Given as goal

-- the coefficients from x^d on are 0
abbrev pub invariant-loop-d : goal.invariant-loop-d
invariant-loop-d l = (i : ℕ) → l.d ≤ i → i < length l.f → slice_index l.f i ≡ 0
