-- What fits a word: the needs that `omega` leaves, since it takes a remainder by m and a product for unknowns.
--
--   under          a remainder modulo m fits where m fits
--   product-fits   a number below 2^32 times one up to 2^32 fits 64 bits
--   carried-fits   a high word's share fits 64 bits, with a number below 2^33
use Prim.Native.Nat.{ℕ, ◌+◌, ◌-◌, ◌*◌, ◌%◌, ◌^◌, ◌≤◌, ◌<◌}
use native.Mathlib.Nat.{mod-lt, lt_of_lt_of_le, mul-le-mul}
use native.Mathlib.Omega.{arith}

pub under : (n : ℕ) {m b : ℕ} → 0 < m → m ≤ b → n % m < b
under n pos h = lt_of_lt_of_le (mod-lt n pos) h

pub product-fits : {x y : ℕ} → x < 2 ^ 32 → y ≤ 2 ^ 32 → x * y < 2 ^ 64
product-fits {x} {y} h k = omega (arith, mul-le-mul {n₁ = x} {m₁ = y} {n₂ = 2 ^ 32 - 1} {m₂ = 2 ^ 32} (omega arith) k)

pub carried-fits : {h c n : ℕ} → h < 2 ^ 31 → c ≤ 2 ^ 32 → n < 2 * 2 ^ 32 → h * c + n < 2 ^ 64
carried-fits {h} {c} a b l = omega (arith, mul-le-mul {n₁ = h} {m₁ = c} {n₂ = 2 ^ 31} {m₂ = 2 ^ 32} (omega arith) b)
