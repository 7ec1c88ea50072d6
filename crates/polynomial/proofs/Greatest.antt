-- The degree, found from the top.
--
--   degree_found     the highest coefficient that is not 0 stands at the degree; where there is none the degree is 0
use mathlib.Core.Path.{◌≡◌, sym}
use mathlib.Core.List.{List}
use Prim.Native.Nat.{ℕ, ◌<◌, ◌≤◌}
use native.Mathlib.Decide.{dec_lt}
use native.Mathlib.Nat.{le_antisymm}
use native.Mathlib.Omega.{arith}
use lib.ListN.{length, get_or-eq_default}
use Rattle.std.specs.Prelude.{Option, Some, None, IfNone, IfSome, slice_index, ◌≢◌, unwrap_or}
use Rattle.algebra.specs.Polynomial.{coef, degree}
use Rattle.algebra.proofs.Highest.{degree-leads, degree-top}

-- the highest coefficient that is not 0 stands at the degree; where there is none the degree is 0
pub degree_found : (f : List ℕ) (r : Option ℕ) → IfNone r ((i : ℕ) → i < length f → slice_index f i ≡ 0)
    → IfSome r (λ k. (k < length f) × (slice_index f k ≢ 0) × ((i : ℕ) → k < i → i < length f → slice_index f i ≡ 0))
    → unwrap_or r 0 ≡ degree f
degree_found f None none some = le_antisymm (omega arith) (under (dec_lt 0 (degree f)))
  where
    zero_at : (i : ℕ) → Dec (i < length f) → coef f i ≡ 0
    zero_at i (yes l) = none i l
    zero_at i (no l) = get_or-eq_default f 0 (omega arith)

    under : Dec (0 < degree f) → degree f ≤ 0
    under (yes l) = absurd (degree-leads f l (zero_at (degree f) (dec_lt (degree f) (length f))))
    under (no l) = omega arith
degree_found f (Some k) none some = sym (degree-top f k some.1 (λ i h. above i h (dec_lt i (length f))))
  where
    above : (i : ℕ) → k < i → Dec (i < length f) → coef f i ≡ 0
    above i h (yes l) = some.2 i h l
    above i h (no l) = get_or-eq_default f 0 (omega arith)
