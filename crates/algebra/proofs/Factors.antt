-- Common factors and inverses: a has an inverse modulo m exactly if it shares no factor with m.
--
--   coprime-invertible, invertible-coprime     the two directions
--   coprime_greatest, greatest_coprime         no common factor: the greatest common factor is 1
--   invertible-one, -mul, -pow, -left          inverses of 1, of products, of powers, and of a factor
--   odd_coprime, coprime_odd                   no common factor with a power of 2: to be odd
use mathlib.Core.Path.{◌≡◌, refl, sym, ap, ap₂, subst, ◌∙◌}
use Prim.Native.Nat.{ℕ, zero, suc, ◌+◌, ◌*◌, ◌^◌, ◌%◌, ◌/◌, ◌∣◌, ◌≤◌, ◌<◌}
use native.Mathlib.Nat as N
use native.Mathlib.Omega.{arith}
use Rattle.algebra.specs.Number.{GreatestFactor, Coprime, Invertible}
use Rattle.algebra.proofs.Numbers.{mod-mul-mod, mul-mod-mod}
use Rattle.algebra.proofs.Ring.{Ring}
use Rattle.algebra.proofs.Evaluation.{nat, nat_add, nat_mul}
use Rattle.algebra.proofs.Residues.{residues, Res, red, same, nat_red}
use Rattle.algebra.proofs.Ring as A
use Rattle.algebra.proofs.Residues

-- Euclid's algorithm, with b for the number of its steps
gcdFuel : ℕ → ℕ → ℕ → ℕ
gcdFuel zero a b = a
gcdFuel (suc n) a zero = a
gcdFuel (suc n) a (suc b) = gcdFuel n (suc b) (a % suc b)

gcd : ℕ → ℕ → ℕ
gcd a b = gcdFuel b a b

fuel_dvd : (n a b : ℕ) → b ≤ n → (gcdFuel n a b ∣ a) × (gcdFuel n a b ∣ b)
unfolding gcdFuel
fuel_dvd zero a zero l = (N.dvd_refl a, N.dvd-zero a)
fuel_dvd zero a (suc b) l = absurd (N.not-suc-le-zero l)
fuel_dvd (suc n) a zero l = (N.dvd_refl a, N.dvd-zero a)
fuel_dvd (suc n) a (suc b) l = up (fuel_dvd n (suc b) (a % suc b) (omega (arith, N.mod-lt a (N.zero-lt-suc b))))
  where
    up : (gcdFuel n (suc b) (a % suc b) ∣ suc b) × (gcdFuel n (suc b) (a % suc b) ∣ a % suc b) → (gcdFuel n (suc b) (a % suc b) ∣ a) × (gcdFuel n (suc b) (a % suc b) ∣ suc b)
    up (p, q) = ((N.dvd-mod_iff _ p).0 q, p)

gcd_dvd : (a b : ℕ) → (gcd a b ∣ a) × (gcd a b ∣ b)
unfolding gcd
gcd_dvd a b = fuel_dvd b a b (N.le_refl b)

-- what is closed under % has the gcd
fuel_closed : (P : ℕ → Type 0) → ((a b : ℕ) → P a → P b → P (a % b)) → (n a b : ℕ) → P a → P b → P (gcdFuel n a b)
unfolding gcdFuel
fuel_closed P c zero a b p q = p
fuel_closed P c (suc n) a zero p q = p
fuel_closed P c (suc n) a (suc b) p q = fuel_closed P c n (suc b) (a % suc b) q (c a (suc b) p q)

module _ (R : Ring) where
  open R use {El, 𝟘, 𝟙, ◌⊕◌, ◌⊗◌, neg}

  -- the numbers that are multiples of a in the ring
  abbrev Multiple : El → ℕ → Type 0
  Multiple a n = (u : El) × (u ⊗ a ≡ nat R n)

  multiple_mod : (a : El) (x y : ℕ) → Multiple a x → Multiple a y → Multiple a (x % y)
  multiple_mod a x y (u, e) (v, f) = (
    u ⊕ neg (q ⊗ v),
    A.add-mul R u (neg (q ⊗ v)) a ∙ ap₂ ◌⊕◌ (e ∙ parts) (A.neg_mul R (q ⊗ v) a ∙ ap neg (A.mul_assoc R q v a ∙ ap (◌⊗◌ q) f))
        ∙ A.add_comm R _ (neg (q ⊗ nat R y)) ∙ A.neg_add_cancel R (q ⊗ nat R y) (nat R (x % y)),
  )
    where
      q : El
      q = nat R (x / y)

      parts : nat R x ≡ q ⊗ nat R y ⊕ nat R (x % y)
      parts = ap (nat R) (sym (N.div-add-mod' x y)) ∙ nat_add R (x / y * y) (x % y) ∙ ap (λ z. z ⊕ nat R (x % y)) (nat_mul R (x / y) y)

module _ (m : ℕ) (pos : 0 < m) where
  inverse : (a : ℕ) → gcd a m ≡ 1 → (x : ℕ) × (x * a % m ≡ 1 % m)
  unfolding gcd red Residues.rmul
  inverse a e = let (u, f) = fuel_closed (Multiple Z (nat Z a)) (multiple_mod Z (nat Z a)) m a m (red m pos 1, A.one-mul Z (nat Z a)) (red m pos 0, A.zero-mul Z (nat Z a) ∙ null) in
      (u.0, sym (mul-mod-mod u.0 a m) ∙ ap (λ (r : Res m pos). r.0) (sym (ap (Residues.rmul m pos u) (nat_red m pos a)) ∙ f ∙ ap (nat Z) e ∙ nat_red m pos 1))
    where
      Z : Ring
      Z = residues m pos

      null : red m pos 0 ≡ nat Z m
      null = same m pos (N.zero-mod m ∙ sym (N.mod_self m)) ∙ sym (nat_red m pos m)

module _ (m : ℕ) (pos : 0 < m) where
  pub coprime-invertible : {a : ℕ} → Coprime a m → Invertible m a
  coprime-invertible {a} c = let (x, e) = inverse m pos a (c.only_one (gcd a m) (gcd_dvd a m).0 (gcd_dvd a m).1) in record { inverse = x; unit = e }

  pub invertible-coprime : {a : ℕ} → Invertible m a → Coprime a m
  invertible-coprime {a} i = record { only_one = λ d p q. N.eq-one_of_dvd-one ((N.dvd-mod_iff d q).0 (subst (λ (n : ℕ). d ∣ n) i.unit ((N.dvd-mod_iff d q).1 (N.dvd-mul_left_of_dvd d p i.inverse)))) }

pub invertible-left : {m a n : ℕ} (b : ℕ) → Invertible m n → a * b ≡ n → Invertible m a
invertible-left {m} {a} {n} b i e = record { inverse = i.inverse * b; unit = ap (λ (x : ℕ). x % m) (rw (← e) (omega arith)) ∙ i.unit }

pub invertible-mul : {m a b : ℕ} → Invertible m a → Invertible m b → Invertible m (a * b)
invertible-mul {m} {a} {b} i j = record { inverse = i.inverse * j.inverse; unit = flat i.inverse j.inverse i.unit j.unit }
  where
    flat : (u v : ℕ) → u * a % m ≡ 1 % m → v * b % m ≡ 1 % m → u * v * (a * b) % m ≡ 1 % m
    flat u v e f = ap (λ (x : ℕ). x % m) (regroup u v) ∙ sym (mod-mul-mod (u * a) (v * b) m) ∙ ap (λ (x : ℕ). x * (v * b) % m) e ∙ mod-mul-mod 1 (v * b) m ∙ ap (λ (x : ℕ). x % m) (N.one-mul (v * b)) ∙ f
      where
        regroup : (u v : ℕ) → u * v * (a * b) ≡ u * a * (v * b)
        regroup u v = omega arith

pub invertible-one : (m : ℕ) → Invertible m 1
invertible-one m = record { inverse = 1; unit = refl }

pub invertible-pow : {m a : ℕ} → Invertible m a → (n : ℕ) → Invertible m (a ^ n)
invertible-pow {m} {a} i zero = rw (N.pow-zero a) (invertible-one m)
invertible-pow {m} {a} i (suc n) = rw (N.pow-succ' a n) (invertible-mul i (invertible-pow i n))

pub coprime_greatest : {a m : ℕ} → Coprime a m → GreatestFactor a m 1
coprime_greatest {a} {m} c = record { left = N.one-dvd a; right = N.one-dvd m; most = λ k p q. subst (λ (n : ℕ). k ∣ n) (c.only_one k p q) (N.dvd_refl k) }

pub greatest_coprime : {a m : ℕ} → GreatestFactor a m 1 → Coprime a m
greatest_coprime g = record { only_one = λ d p q. N.eq-one_of_dvd-one (g.most d p q) }

-- 2 has the inverse (a + 1) / 2 modulo an odd a, and so have its powers
pub odd_coprime : (k : ℕ) {a : ℕ} → a % 2 ≡ 1 → Coprime a (2 ^ k)
odd_coprime k {a} odd = let c = invertible-coprime a (omega arith) (invertible-pow two k) in record { only_one = λ d p q. c.only_one d q p }
  where
    double : (a + 1) / 2 * 2 ≡ 1 + a
    double = omega arith

    two : Invertible a 2
    two = record { inverse = (a + 1) / 2; unit = ap (λ (x : ℕ). x % a) double ∙ N.add-mod_right 1 a }

-- an even a shares 2 with it
pub coprime_odd : (k : ℕ) {a : ℕ} → Coprime a (2 ^ suc k) → a % 2 ≡ 1
coprime_odd k {a} c = omega (arith, N.emod_pos_of_not-dvd 2 {b = a} (λ d. omega (arith, c.only_one 2 d (rw (N.pow-succ' 2 k) (N.dvd-mul_right 2 (2 ^ k))))))
