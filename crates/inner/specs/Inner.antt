-- The sums that every loop over coefficients takes. Only leaves need this.
--
--   inner a b k lo n         a(lo)·b(k - lo) + a(lo + 1)·b(k - lo - 1) + .., n terms, not reduced
--   Within la lb k lo hi     for i from lo to hi - 1, i lies in a list of length la and k - i in one of length lb; the sum is short
--   strided a b lo at step n a(lo)·b(at) + a(lo + 1)·b(at + step) + .., n terms, not reduced
--   Strides la lb lo hi at step     lo to hi - 1 lie in a list of length la, and at, at + step, .. in one of length lb
use Rattle.std.specs.Prelude.{List, ℕ, ◌+◌, ◌-◌, ◌*◌, ◌^◌, ◌≤◌, ◌<◌}
use Rattle.algebra.specs.Number.{sum}
use Rattle.algebra.specs.Polynomial.{coef}

-- n products a(i)·b(k - i), for i from lo on, added up
unfoldable pub inner : List ℕ → List ℕ → ℕ → ℕ → ℕ → ℕ
inner a b k lo n = sum n (λ i. coef a (lo + i) * coef b (k - (lo + i)))

-- every index of the sum is there, and there are few enough terms that their sum fits two words
pub record Within (la lb k lo hi : ℕ) : Type 0 where
  pub order : lo ≤ hi
  pub first : hi ≤ la
  pub down : hi ≤ k + 1
  pub second : k < lb + lo
  pub few : hi - lo < 2 ^ 31

-- n products a(lo + i)·b(at + i·step), added up
unfoldable pub strided : List ℕ → List ℕ → ℕ → ℕ → ℕ → ℕ → ℕ
strided a b lo at step n = sum n (λ i. coef a (lo + i) * coef b (at + i * step))

-- the same of the two lists of such a sum; the place in the second list never leaves a word
pub record Strides (la lb lo hi at step : ℕ) : Type 0 where
  pub order : lo ≤ hi
  pub first : hi ≤ la
  pub inside : (i : ℕ) → i < hi - lo → at + i * step < lb
  pub few : hi - lo < 2 ^ 31
  pub start : at < 2 ^ 32
  pub stride : step < 2 ^ 32
