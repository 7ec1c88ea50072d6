-- The remainder by a reciprocal.
--
--   reciprocal_near    x - (x·v / 2^64)·m lies between 0 and 2m, where v is the reciprocal of m
--   reciprocal_sides   v·m is the nearest multiple of m below 2^64
--   less_multiple      a multiple of m less, the remainder is the same
--   carry_is           what v·m leaves of 2^64 is 2^64 modulo m
--   once, twice        what is below 2m, or one m less, is the remainder
use mathlib.Core.Path.{◌≡◌, sym, ap, ◌∙◌}
use Prim.Native.Nat.{ℕ, ◌+◌, ◌*◌, ◌-◌, ◌/◌, ◌%◌, ◌^◌, ◌≤◌, ◌<◌}
use native.Mathlib.Nat as N
use native.Mathlib.Omega.{arith}
use Rattle.algebra.specs.Number.{Modulus}
use Rattle.reciprocal.specs.Reciprocal.{Reciprocal, reciprocal}
use Rattle.algebra.proofs.Congruent.{Congruent, from_eq, wrapped, remainder, ◌then◌}

-- x·v = q·D + e and v·m + w = D: x·D = q·m·D + (e·m + x·w)
near : (D m v x q e w : ℕ) → 0 < m → 0 < D → v * m + w ≡ D → w ≤ m → x < D → x * v ≡ q * D + e → e < D → (q * m ≤ x) × (x < q * m + 2 * m)
near D m v x q e w mp dp ve wm xd xe ed = (N.le_of_mul-le-mul_right low dp, N.lt_of_mul-lt-mul_right D up)
  where
    balance : x * D ≡ q * m * D + (e * m + x * w)
    balance =
        let a : x * (v * m + w) ≡ x * v * m + x * w = omega arith in
        let b : (q * D + e) * m + x * w ≡ q * m * D + (e * m + x * w) = omega arith in
        ap (λ (n : ℕ). x * n) (sym ve) ∙ a ∙ ap (λ (n : ℕ). n * m + x * w) xe ∙ b

    low : q * m * D ≤ x * D
    low = omega (arith, balance)

    first : e * m < D * m
    first = N.mul-lt-mul_of_pos_right ed mp

    second : x * w ≤ D * m
    second = N.mul-le-mul (N.le_of_lt xd) wm

    up : x * D < (q * m + 2 * m) * D
    up = let s : (q * m + 2 * m) * D ≡ q * m * D + (D * m + D * m) = omega arith in rw s (omega (arith, balance, first, second))

-- the multiple of m that is nearest below D
sides : (D m v : ℕ) → 0 < m → v ≡ (D - 1) / m → (v * m ≤ D - 1) × (D - 1 < v * m + m)
sides D m v mp ve = (rw ve (N.div-mul-le_self (D - 1) m), rw ve (N.lt-div-mul-add mp))

near_of : (D m v x q : ℕ) → 0 < m → 0 < D → v ≡ (D - 1) / m → x < D → q ≡ x * v / D → (q * m ≤ x) × (x < q * m + 2 * m)
near_of D m v x q mp dp ve xd qe =
    let (below, above) = sides D m v mp ve in
    near D m v x q (x * v % D) (D - v * m) mp dp (omega arith) (omega arith) xd (sym (ap (λ (n : ℕ). n * D + x * v % D) qe ∙ N.div-add-mod' (x * v) D)) (N.mod-lt (x * v) dp)

pub reciprocal_near : (m v x q : ℕ) → Modulus m → Reciprocal m v → x < 2 ^ 64 → q ≡ x * v / 2 ^ 64 → (q * m ≤ x) × (x < q * m + 2 * m)
reciprocal_near m v x q h (reciprocal ve) xd qe = near_of (2 ^ 64) m v x q (omega arith) (omega arith) ve xd qe

pub reciprocal_sides : (m v : ℕ) → Modulus m → Reciprocal m v → (v * m ≤ 2 ^ 64 - 1) × (2 ^ 64 - 1 < v * m + m)
reciprocal_sides m v h (reciprocal ve) = sides (2 ^ 64) m v (omega arith) ve

-- what is above a multiple t of m
rest : (t r : ℕ) {m : ℕ} → t % m ≡ 0 → Congruent m r (t + r)
rest t r {m} z = record { same = sym (sym (N.mod-add-mod t m r) ∙ ap (λ (n : ℕ). (n + r) % m) z ∙ ap (λ (n : ℕ). n % m) (N.zero-add r)) }

pub less_multiple : (x q m : ℕ) → q * m ≤ x → (x - q * m) % m ≡ x % m
less_multiple x q m l = let e : q * m + (x - q * m) ≡ x = omega arith in (rest (q * m) (x - q * m) (N.mul-mod_left q m) then from_eq e).same

-- one more than the largest word
pub carry_is : (D v m : ℕ) → 0 < D → v * m ≤ D - 1 → (D - 1 - v * m + 1) % m ≡ D % m
carry_is D v m p l = let e : v * m + (D - 1 - v * m + 1) ≡ D = omega arith in (rest (v * m) (D - 1 - v * m + 1) (N.mul-mod_left v m) then from_eq e).same

pub once : (x : ℕ) {m r : ℕ} → r % m ≡ x % m → r < m → r ≡ x % m
once x e h = remainder h (record { same = e })

pub twice : (x : ℕ) {m r : ℕ} → r % m ≡ x % m → r < 2 * m → m ≤ r → r - m ≡ x % m
twice x e u h = remainder (omega arith) (wrapped (omega arith) then record { same = e })
