-- A sum kept in two words, high·2^64 + low.
--
--   one_word, two-words          the words modulo m: with high 0, and with what a carry counts modulo m
use mathlib.Core.Path.{◌≡◌, ap}
use Prim.Native.Nat.{ℕ, ◌+◌, ◌*◌, ◌%◌, ◌^◌}
use native.Mathlib.Omega.{arith}
use Rattle.algebra.proofs.Congruent.{from_eq, plus, times, ◌then◌}

pub two-words : (m h l c n : ℕ) → c % m ≡ 2 ^ 64 % m → n % m ≡ l % m → (h * c + n) % m ≡ (h * 2 ^ 64 + l) % m
two-words m h l c n e f = go (2 ^ 64) e
  where
    go : (D : ℕ) → c % m ≡ D % m → (h * c + n) % m ≡ (h * D + l) % m
    go D e =
        let a : h * c + n ≡ c * h + n = omega arith in
        let b : D * h + n ≡ n + D * h = omega arith in
        let d : l + D * h ≡ h * D + l = omega arith in
        (from_eq a then plus n (times h (record { same = e })) then from_eq b then plus (D * h) (record { same = f }) then from_eq d).same

pub one_word : (m l : ℕ) {h : ℕ} → h ≡ 0 → l % m ≡ (h * 2 ^ 64 + l) % m
one_word m l {h} e = ap (λ (x : ℕ). x % m) (omega arith)
