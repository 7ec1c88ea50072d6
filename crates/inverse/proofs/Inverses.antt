-- What an answer of `invert` says: which it is follows from a and m alone.
--
--   inverse-coprime       an inverse makes a and m coprime
--   shared_not_coprime    a shared factor rules that out
--   inverse_found         where a and m share no factor there is an inverse
--   inverse_unique        there is one right answer
use mathlib.Core.Path.{◌≡◌, refl, sym, ◌∙◌, ap}
use Prim.Native.Nat.{ℕ}
use native.Mathlib.Nat.{one-mul, mod-eq_of_lt, dvd-mod_iff, dvd-mul_right_of_dvd, dvd_antisymm, eq-one_of_dvd-one}
use native.Mathlib.Omega.{arith}
use Rattle.algebra.specs.Number.{Coprime}
use Rattle.inverse.specs.Inverse.{InverseIs}
use Rattle.std.specs.Prelude.{Result, Ok, Err, IsOk}
use Rattle.inverse.specs.declared.SharedFactor.{SharedFactor}
use Rattle.algebra.proofs.Congruent.{from_eq, reduced, turn, times, remainder, ◌then◌}

pub inverse-coprime : {a m x : ℕ} → InverseIs a m (Ok x) → Coprime a m
inverse-coprime {a} {m} {x} e = record {
  only_one = λ d p q. eq-one_of_dvd-one (rw e.1 at ((dvd-mod_iff d q).1 (dvd-mul_right_of_dvd d p x)));
}

pub shared_not_coprime : {a m : ℕ} {d : SharedFactor} → InverseIs a m (Err d) → Coprime a m → ⊥
shared_not_coprime {a} {m} {d} e h = omega (arith, h.only_one d.0 e.1.left e.1.right)

-- where a and m share no factor above 1 there is an inverse
pub inverse_found : {a m : ℕ} (r : Result ℕ SharedFactor) → InverseIs a m r → Coprime a m → IsOk r
inverse_found (Ok x) e h = refl
inverse_found (Err d) e h = absurd (shared_not_coprime e h)

pub inverse_unique : (a m : ℕ) (x y : Result ℕ SharedFactor) → InverseIs a m x → InverseIs a m y → x ≡ y
inverse_unique a m (Ok x) (Ok y) p q =
    ap Ok
    (remainder p.0
    (from_eq (sym (one-mul x)) then times x (reduced (sym q.1)) then from_eq (omega arith)
    then times y (turn (reduced (sym p.1))) then from_eq (one-mul y))
    ∙ mod-eq_of_lt q.0)
inverse_unique a m (Ok x) (Err d) p q = absurd (shared_not_coprime q (inverse-coprime p))
inverse_unique a m (Err d) (Ok x) p q = absurd (shared_not_coprime p (inverse-coprime q))
inverse_unique a m (Err d) (Err e) p q =
    ap (λ (k : ℕ). Err (record { 0 = k })) (dvd_antisymm (q.1.most d.0 p.1.left p.1.right) (p.1.most e.0 q.1.left q.1.right))
