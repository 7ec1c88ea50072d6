-- A power by squaring: what a turn keeps.
--
--   Powers m a n r s l    the state: r is below m, and r·s^l ≡ a^n modulo m
--   begun                 the state before the loop
--   even, odd             the state after a turn, by the last digit of l
--   reached               once l is 0, r is the power
use Rattle.std.proofs.Common.{◌≡◌, ℕ, zero, suc, ◌+◌, ◌*◌, ◌%◌, ◌^◌, ◌<◌, sym, refl, ◌∙◌, mod-lt, mul_comm, one-mul, pow-suc, add-one, arith, pow-add}
use native.Mathlib.Nat.{pow-zero}
use Rattle.algebra.proofs.Congruent.{Congruent, from_eq, reduced, times, raised, remainder, ◌then◌}

pub record Powers (m a n r s l : ℕ) : Type 0 where
  pub small : r < m
  pub is : Congruent m (r * s ^ l) (a ^ n)

pub begun : (m a n : ℕ) → 1 < m → Powers m a n 1 a n
begun m a n l = record { small = l; is = from_eq (one-mul (a ^ n)) }

squares : (s k : ℕ) → (s * s) ^ k ≡ s ^ (k + k)
squares s zero = pow-zero (s * s) ∙ sym (pow-zero s)
squares s (suc k) = rw (pow-suc (s * s) k, squares s k, pow-add s k k, pow-add s (suc k) (suc k), pow-suc s k) (omega arith)

pub even : {m a n r s s' l k : ℕ} → l ≡ k + k → s' ≡ s * s % m → Powers m a n r s l → Powers m a n r s' k
even {r = r} {s} {s'} {k = k} e f h = record {
  small = h.small;
  is = from_eq (mul_comm r (s' ^ k)) then times r (raised k (reduced f))
      then from_eq (rw (e, squares s k) (omega arith)) then h.is;
}

pub odd : {m a n r r' s s' l k : ℕ} → 0 < m → l ≡ k + k + 1 → r' ≡ r * s % m → s' ≡ s * s % m →
    Powers m a n r s l → Powers m a n r' s' k
odd {r = r} {s = s} {k = k} pos e g f h = even refl f (record {
  small = rw g (mod-lt (r * s) pos);
  is = times (s ^ (k + k)) (reduced g) then from_eq (rw (e, add-one, pow-suc s (k + k)) (omega arith)) then h.is;
})

pub reached : {m a n r s l : ℕ} → l ≡ 0 → Powers m a n r s l → r ≡ a ^ n % m
reached {s = s} e h = remainder h.small (from_eq (rw (e, pow-zero) (omega arith)) then h.is)
