-- Congruence modulo m: equal remainders. A record, so that what it relates can be implicit.
--
--   Congruent m x y       x and y leave the same remainder
--   from_eq               equal numbers are congruent
--   reduced, wrapped      a number is congruent to its remainder, and to itself and m
--   turn, then            symmetry and transitivity
--   plus, times, raised   the same number added, multiplied, or taken as an exponent on both sides
--   cancel                what was added goes
--   remainder             what is congruent and below m is the remainder
--   restored              a difference, and what was taken off put back
--   one_more              a sum that is reduced with each term, by one term more
use mathlib.Core.Path.{◌≡◌, refl, sym, ◌∙◌, ap, ap₂}
use Prim.Native.Nat.{ℕ, ◌+◌, ◌*◌, ◌-◌, ◌%◌, ◌^◌, ◌<◌}
use native.Mathlib.Nat.{mod-mod, mod-add-mod, add-mod-mod, mod-eq_of_lt, mod-lt, add-mod_right}
use native.Mathlib.Omega.{arith}
use Rattle.algebra.proofs.Numbers.{mul-same, pow-same, add_cancel}

pub record Congruent (m x y : ℕ) : Type 0 where
  pub same : x % m ≡ y % m

pub from_eq : {m x y : ℕ} → x ≡ y → Congruent m x y
from_eq {m} e = record { same = ap (λ (n : ℕ). n % m) e }

pub reduced : {m x r : ℕ} → r ≡ x % m → Congruent m r x
reduced {m} {x} e = record { same = ap (λ (n : ℕ). n % m) e ∙ mod-mod x m }

pub wrapped : {m x y : ℕ} → x + m ≡ y → Congruent m x y
wrapped {m} {x} e = record { same = sym (add-mod_right x m) ∙ ap (λ (n : ℕ). n % m) e }

pub turn : {m x y : ℕ} → Congruent m x y → Congruent m y x
turn h = record { same = sym h.same }

infixr 40 ◌then◌
pub ◌then◌ : {m x y z : ℕ} → Congruent m x y → Congruent m y z → Congruent m x z
◌then◌ h k = record { same = h.same ∙ k.same }

pub plus : {m x z : ℕ} (y : ℕ) → Congruent m x z → Congruent m (x + y) (z + y)
plus {m} {x} {z} y h = record {
  same = sym (mod-add-mod x m y) ∙ ap (λ (n : ℕ). (n + y) % m) h.same ∙ mod-add-mod z m y;
}

pub times : {m x z : ℕ} (y : ℕ) → Congruent m x z → Congruent m (x * y) (z * y)
times {m} {x} {z} y h = record { same = mul-same m x y z y h.same refl }

pub raised : {m x z : ℕ} (n : ℕ) → Congruent m x z → Congruent m (x ^ n) (z ^ n)
raised {m} {x} {z} n h = record { same = pow-same m x z h.same n }

pub cancel : {m x z : ℕ} (k : ℕ) → 0 < m → Congruent m (x + k) (z + k) → Congruent m x z
cancel {m} {x} {z} k h e = record { same = add_cancel m x z k h e.same }

pub remainder : {m x y : ℕ} → x < m → Congruent m x y → x ≡ y % m
remainder h e = sym (mod-eq_of_lt h) ∙ e.same

-- what was taken off is put back
pub restored : {m a d x : ℕ} (b : ℕ) → 0 < m → d ≡ b % m → x ≡ (a + (m - d)) % m → Congruent m (x + b) a
restored {m} {a} {d} {x} b pos de xe =
    let c : a + (m - d) + b ≡ b + (a + (m - d)) = omega arith in
    let t : a + m ≡ d + (a + (m - d)) = omega (arith, de, mod-lt b pos) in
    plus b (reduced xe) then from_eq c then plus (a + (m - d)) (turn (reduced de)) then turn (wrapped t)

pub one_more : (m s p : ℕ) {s' q w w' : ℕ} → w ≡ s % m → q ≡ p % m → w' ≡ (w + q) % m → s' ≡ s + p → w' ≡ s' % m
one_more m s p e f g h = g ∙ ap₂ (λ (x y : ℕ). (x + y) % m) e f ∙ mod-add-mod s m (p % m) ∙ add-mod-mod s p m ∙ ap (λ (x : ℕ). x % m) (sym h)
