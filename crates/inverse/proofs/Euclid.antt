-- Euclid's algorithm with coefficients modulo m: what a turn keeps, and what it ends in.
--
--   Shares a b x y      x and y have the common factors of a and b
--   Euclid a m x y s t  the algorithm's state: s·a ≡ x and t·a ≡ y modulo m, and x, y share what a, m share
--   begins, next        the state before the loop, and after one turn
--   inverted, ends      once y is 0, x is the greatest common factor; where it is 1, s is the inverse
use mathlib.Core.Path.{◌≡◌, refl, sym, ◌∙◌}
use Prim.Native.Nat.{ℕ, ◌+◌, ◌*◌, ◌/◌, ◌%◌, ◌≤◌, ◌<◌, ◌∣◌}
use native.Mathlib.Nat.{zero-add, zero-mul, one-mul, mod-lt, div-add-mod, add-mod-mod, mul_comm, mod-eq_of_lt, dvd_refl, dvd-zero, dvd-mod_iff}
use native.Mathlib.Omega.{arith}
use Rattle.algebra.specs.Number.{GreatestFactor}
use Rattle.algebra.proofs.Congruent.{Congruent, from_eq, reduced, wrapped, turn, plus, times, cancel, ◌then◌}

pub record Shares (a b x y : ℕ) : Type 0 where
  pub to : (k : ℕ) → k ∣ a → k ∣ b → (k ∣ x) × (k ∣ y)
  pub back : (k : ℕ) → k ∣ x → k ∣ y → (k ∣ a) × (k ∣ b)

itself : (a b : ℕ) → Shares a b a b
itself a b = record { to = λ k p q. (p, q); back = λ k p q. (p, q) }

divided : {a b x y : ℕ} → Shares a b x y → Shares a b y (x % y)
divided h = record {
  to = λ k p q. let r = h.to k p q in (r.1, (dvd-mod_iff k r.1).1 r.0);
  back = λ k p q. h.back k ((dvd-mod_iff k p).0 q) p;
}

pub record Euclid (a m x y s t : ℕ) : Type 0 where
  pub shares : Shares a m x y
  pub x_le : x ≤ m
  pub y_lt : y < x
  pub s_lt : s < m
  pub t_lt : t < m
  pub s_is : Congruent m (s * a) x
  pub t_is : Congruent m (t * a) y

pub begins : (a : ℕ) {m : ℕ} → 1 < m → Euclid a m m (a % m) 0 1
begins a {m} h = record {
  shares = divided (itself a m);
  x_le = omega arith;
  y_lt = mod-lt a (omega arith);
  s_lt = omega arith;
  t_lt = h;
  s_is = from_eq (zero-mul a) then wrapped (zero-add m);
  t_is = from_eq (one-mul a) then turn (reduced refl);
}

-- the coefficient of the remainder z = x - y·q is s - t·q
coefficient : (a q t u : ℕ) {m x y z s : ℕ} → 0 < m → y * q + z ≡ x →
    Congruent m (s * a) x → Congruent m (t * a) y → Congruent m (u + t * q) s → Congruent m (u * a) z
coefficient a q t u {m} {x} {y} {z} {s} pos e h₀ h₁ h₂ =
    cancel (t * q * a) pos
    (from_eq (omega arith) then times a h₂ then h₀ then from_eq (sym e ∙ omega arith)
    then plus z (turn (times q h₁)) then from_eq (omega arith))

pub next : (a : ℕ) {m x y s t : ℕ} (u : ℕ) → Euclid a m x y s t → 0 < y → u < m →
    (u + t * (x / y) % m) % m ≡ s % m → Euclid a m y (x % y) t u
next a {m} {x} {y} {s} {t} u h pos u-lt e = record {
  shares = divided h.shares;
  x_le = omega arith;
  y_lt = mod-lt x pos;
  s_lt = h.t_lt;
  t_lt = u-lt;
  s_is = h.t_is;
  t_is = coefficient a (x / y) t u (omega arith) (div-add-mod x y) h.s_is h.t_is
      (record { same = sym (add-mod-mod u (t * (x / y)) m) ∙ e });
}

pub inverted : {a m x y s t : ℕ} → 1 < m → x ≡ 1 → Euclid a m x y s t → a * s % m ≡ 1
inverted {a} {s = s} h one e = (from_eq (mul_comm a s) then e.s_is then from_eq one).same ∙ mod-eq_of_lt h

pub ends : {a m x y s t : ℕ} → y ≡ 0 → Euclid a m x y s t → GreatestFactor a m x
ends {x = x} none e =
    let both = e.shares.back x (dvd_refl x) (rw none (dvd-zero x)) in
    record { left = both.0; right = both.1; most = λ k p q. (e.shares.to k p q).0 }
