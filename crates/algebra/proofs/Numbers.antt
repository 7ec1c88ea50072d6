-- Laws of whole numbers that the polynomials rest on.
--
--   mod-mul-mod, mul-mod-mod        a remainder under a product goes away under the outer one
--   add_same, mul-same, pow-same    sums, products and powers of numbers that are equal modulo m
--   add_cancel, number_cancel       cancelling a term, and a factor with an inverse
--   pow-add, pow-pow, mul-pow, one-pow     powers
--   sum-none, sum_more, sum_first, sum_split     a sum taken apart
--   sum_ext, sum_zeros, sum_clip    equal terms, equal sums; terms that are 0, all or from one on
--   table-length, table_below, table-above, table_ext     what a table holds
use mathlib.Core.Path.{◌≡◌, refl, sym, ap, ap₂, ◌∙◌}
use Prim.Native.Nat.{ℕ, zero, suc, ◌+◌, ◌*◌, ◌^◌, ◌-◌, ◌%◌, ◌/◌, ◌≤◌, ◌<◌}
use native.Mathlib.Nat as N
use native.Mathlib.Omega.{arith}
use mathlib.Core.List.{◌∷◌}
use lib.ListN.{length}
use Rattle.algebra.specs.Number.{table, sum, Invertible}
use Rattle.algebra.specs.Polynomial.{coef}

pub mod-mul-mod : (a b m : ℕ) → (a % m * b) % m ≡ (a * b) % m
mod-mul-mod a b m = sym (N.add-mul-mod_self_right (a % m * b) (a / m * b) m) ∙ ap (λ (x : ℕ). x % m) (flat (a / m) (a % m) (N.div-add-mod' a m))
  where
    flat : (q r : ℕ) → q * m + r ≡ a → r * b + q * b * m ≡ a * b
    flat q r e = rw (← e) (omega arith)

pub mul-mod-mod : (a b m : ℕ) → (a * (b % m)) % m ≡ (a * b) % m
mul-mod-mod a b m = rw (N.mul_comm a (b % m), N.mul_comm a b) (mod-mul-mod b a m)

pub add_same : (m a b c d : ℕ) → a % m ≡ c % m → b % m ≡ d % m → (a + b) % m ≡ (c + d) % m
add_same m a b c d e f = sym (N.mod-add-mod a m b) ∙ ap (λ (x : ℕ). (x + b) % m) e ∙ N.mod-add-mod c m b ∙ sym (N.add-mod-mod c b m) ∙ ap (λ (x : ℕ). (c + x) % m) f ∙ N.add-mod-mod c d m

pub mul-same : (m a b c d : ℕ) → a % m ≡ c % m → b % m ≡ d % m → a * b % m ≡ c * d % m
mul-same m a b c d e f = sym (mod-mul-mod a b m) ∙ ap (λ (k : ℕ). k * b % m) e ∙ mod-mul-mod c b m ∙ sym (mul-mod-mod c b m) ∙ ap (λ (k : ℕ). c * k % m) f ∙ mul-mod-mod c d m

pub pow-same : (m a c : ℕ) → a % m ≡ c % m → (n : ℕ) → a ^ n % m ≡ c ^ n % m
pow-same m a c e zero = ap (λ (k : ℕ). k % m) (N.pow-zero a ∙ sym (N.pow-zero c))
pow-same m a c e (suc n) = ap (λ (k : ℕ). k % m) (N.pow-succ' a n) ∙ mul-same m a (a ^ n) c (c ^ n) e (pow-same m a c e n) ∙ ap (λ (k : ℕ). k % m) (sym (N.pow-succ' c n))

pub add_cancel : (m x y b : ℕ) → 0 < m → (x + b) % m ≡ (y + b) % m → x % m ≡ y % m
add_cancel m x y b pos e = sym (back x) ∙ ap (λ (z : ℕ). (z + (m - 1) * b) % m) e ∙ back y
  where
    turn : (x k : ℕ) → m ≡ suc k → x + b + k * b ≡ x + b * m
    turn x k e = rw e (omega arith)

    back : (x : ℕ) → ((x + b) % m + (m - 1) * b) % m ≡ x % m
    back x = N.mod-add-mod (x + b) m ((m - 1) * b) ∙ ap (λ (z : ℕ). z % m) (turn x (m - 1) (omega arith)) ∙ N.add-mul-mod_self_right x b m

pub number_cancel : {m c : ℕ} (x y : ℕ) → Invertible m c → c * x % m ≡ c * y % m → x % m ≡ y % m
number_cancel {m} {c} x y i e = sym (back x) ∙ ap (λ (k : ℕ). i.inverse * k % m) e ∙ back y
  where
    back : (x : ℕ) → i.inverse * (c * x % m) % m ≡ x % m
    back x = mul-mod-mod i.inverse (c * x) m ∙ ap (λ (k : ℕ). k % m) (sym (N.mul_assoc i.inverse c x)) ∙ sym (mod-mul-mod (i.inverse * c) x m) ∙ ap (λ (k : ℕ). k * x % m) i.unit ∙ mod-mul-mod 1 x m ∙ ap (λ (k : ℕ). k % m) (N.one-mul x)

pub pow-add : (a i j : ℕ) → a ^ (i + j) ≡ a ^ i * a ^ j
pow-add a zero j = rw (N.zero-add j, N.pow-zero a) (sym (N.one-mul (a ^ j)))
pow-add a (suc i) j = rw (N.suc-add i j, N.pow-succ' a (i + j), N.pow-succ' a i, pow-add a i j) (sym (N.mul_assoc a (a ^ i) (a ^ j)))

pub pow-pow : (a s r : ℕ) → (a ^ s) ^ r ≡ a ^ (r * s)
pow-pow a s zero = rw (N.pow-zero (a ^ s), N.zero-mul s, N.pow-zero a)
pow-pow a s (suc r) = rw (N.pow-succ' (a ^ s) r, N.suc-mul r s, N.add_comm (r * s) s, pow-add a s (r * s), pow-pow a s r)

pub mul-pow : (a b n : ℕ) → (a * b) ^ n ≡ a ^ n * b ^ n
mul-pow a b zero = rw (N.pow-zero (a * b), N.pow-zero a, N.pow-zero b)
mul-pow a b (suc n) = rw (N.pow-succ' (a * b) n, N.pow-succ' a n, N.pow-succ' b n, mul-pow a b n) (omega arith)

pub one-pow : (n : ℕ) → 1 ^ n ≡ 1
one-pow zero = N.pow-zero 1
one-pow (suc n) = N.pow-succ' 1 n ∙ N.one-mul (1 ^ n) ∙ one-pow n

pub sum-none : (f : ℕ → ℕ) → sum 0 f ≡ 0
unfolding sum
sum-none f = refl

pub sum_more : (n : ℕ) (f : ℕ → ℕ) → sum (suc n) f ≡ sum n f + f n
unfolding sum
sum_more n f = refl

pub sum_split : (n j : ℕ) (f : ℕ → ℕ) → sum (n + j) f ≡ sum n f + sum j (λ i. f (n + i))
sum_split n zero f = ap (λ (k : ℕ). sum k f) (N.add-zero n) ∙ sym (ap (λ (k : ℕ). sum n f + k) (sum-none _) ∙ N.add-zero (sum n f))
sum_split n (suc j) f = ap (λ (k : ℕ). sum k f) (N.add-suc n j) ∙ sum_more (n + j) f ∙ omega (arith, sum_split n j f, sum_more j (λ i. f (n + i)))

pub sum_zeros : (n : ℕ) (f : ℕ → ℕ) → ((i : ℕ) → i < n → f i ≡ 0) → sum n f ≡ 0
sum_zeros zero f z = sum-none f
sum_zeros (suc n) f z = sum_more n f ∙ omega (arith, sum_zeros n f (λ i l. z i (omega arith)), z n (omega arith))

-- the terms from n on are 0
pub sum_clip : (n d : ℕ) (f : ℕ → ℕ) → n ≤ d → ((i : ℕ) → n ≤ i → i < d → f i ≡ 0) → sum d f ≡ sum n f
sum_clip n d f l z =
    let e : d ≡ n + (d - n) = omega arith in
    ap (λ (k : ℕ). sum k f) e ∙ sum_split n (d - n) f
    ∙ ap (λ (x : ℕ). sum n f + x) (sum_zeros (d - n) _ (λ i b. z (n + i) (omega arith) (omega arith))) ∙ N.add-zero _

pub sum_first : (n : ℕ) (f : ℕ → ℕ) → sum (suc n) f ≡ f 0 + sum n (λ i. f (suc i))
unfolding sum
sum_first zero f = omega arith
sum_first (suc n) f = omega (arith, sum_first n f)

pub sum_ext : (n : ℕ) (f g : ℕ → ℕ) → ((i : ℕ) → i < n → f i ≡ g i) → sum n f ≡ sum n g
unfolding sum
sum_ext zero f g e = refl
sum_ext (suc n) f g e = ap₂ ◌+◌ (sum_ext n f g (λ i l. e i (omega arith))) (e n (omega arith))

pub table-length : (n : ℕ) (f : ℕ → ℕ) → length (table n f) ≡ n
unfolding table
table-length zero f = refl
table-length (suc n) f = ap suc (table-length n (λ i. f (suc i)))

pub table_below : (n : ℕ) (f : ℕ → ℕ) (i : ℕ) → i < n → coef (table n f) i ≡ f i
unfolding table
table_below zero f i l = absurd (N.not-suc-le-zero l)
table_below (suc n) f zero l = refl
table_below (suc n) f (suc i) l = table_below n (λ i. f (suc i)) i (omega arith)

pub table-above : (n : ℕ) (f : ℕ → ℕ) (i : ℕ) → n ≤ i → coef (table n f) i ≡ 0
unfolding table
table-above zero f i l = refl
table-above (suc n) f zero l = absurd (N.not-suc-le-zero l)
table-above (suc n) f (suc i) l = table-above n (λ i. f (suc i)) i (omega arith)

pub table_ext : (n : ℕ) (f g : ℕ → ℕ) → ((i : ℕ) → i < n → f i ≡ g i) → table n f ≡ table n g
unfolding table
table_ext zero f g e = refl
table_ext (suc n) f g e = ap₂ ◌∷◌ (e 0 (omega arith)) (table_ext n (λ i. f (suc i)) (λ i. g (suc i)) (λ i l. e (suc i) (omega arith)))
