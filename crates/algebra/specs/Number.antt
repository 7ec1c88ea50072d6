-- Whole numbers: sums, binomials, common factors, inverses modulo m.
--
--   table n f, sum n f     the list f(0), .., f(n - 1), and f(0) + .. + f(n - 1)
--   choose j i             C(j, i), by Pascal's rule
--   GreatestFactor a b d   d is the greatest common factor of a and b
--   Coprime, Invertible    a and m share no factor above 1; a has an inverse modulo m
--   Modulus m              what every leaf asks of its modulus: above 1, and numbers below m fit a machine word
use Rattle.std.specs.Prelude.{◌≡◌, List, [], ◌∷◌, ℕ, zero, suc, ◌+◌, ◌*◌, ◌^◌, ◌%◌, ◌≤◌, ◌<◌}
use Rattle.std.specs.Int.{◌∣◌}

-- the list f(0), .., f(n - 1)
unfoldable pub table : ℕ → (ℕ → ℕ) → List ℕ
table zero f = []
table (suc n) f = f zero ∷ table n (λ i. f (suc i))

-- f(0) + .. + f(n - 1), the last term added last
unfoldable pub sum : ℕ → (ℕ → ℕ) → ℕ
sum zero f = 0
sum (suc n) f = sum n f + f n

-- how many ways there are to choose i of j things
unfoldable pub choose : ℕ → ℕ → ℕ
choose j zero = 1
choose zero (suc i) = 0
choose (suc j) (suc i) = choose j i + choose j (suc i)

-- it divides both, and whatever divides both divides it
pub record GreatestFactor (a b d : ℕ) : Type 0 where
  pub left : d ∣ a
  pub right : d ∣ b
  pub most : (k : ℕ) → k ∣ a → k ∣ b → k ∣ d

-- only 1 divides both
pub record Coprime (a m : ℕ) : Type 0 where
  pub only_one : (d : ℕ) → d ∣ a → d ∣ m → d ≡ 1

-- some number times a is 1 modulo m
pub record Invertible (m a : ℕ) : Type 0 where
  pub inverse : ℕ
  pub unit : inverse * a % m ≡ 1 % m

-- above 1, and every number below m fits a machine word
pub record Modulus (m : ℕ) : Type 0 where
  pub above_one : 1 < m
  pub fits : m ≤ 2 ^ 32
