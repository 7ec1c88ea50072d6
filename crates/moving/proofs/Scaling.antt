-- The multiple by a power of the inverse: what the code makes of f(a·x + b) is 01's changed polynomial and pair.
--
--   powers_cancel       the powers of a number and of its inverse cancel
--   changed-is          a^(-n)·f(a·x + b)
--   changed-right-is    the same of a right part, without the constant h(b)
--   changed-pair-is     both, with (a^s, h(b)) handed to the left part as remainders
use mathlib.Core.Path.{◌≡◌, refl, sym, ap, ◌∙◌}
use mathlib.Core.List.{List, [], ◌∷◌}
use Prim.Native.Nat.{ℕ, zero, suc, ◌+◌, ◌*◌, ◌^◌, ◌%◌, ◌<◌}
use native.Mathlib.Nat as N
use lib.ListN.{length, set, length-set, get_or-eq_default}
use Rattle.algebra.specs.Polynomial.{coef, plus, scaled, value, terms, reduced, Same, Held}
use Rattle.algebra.proofs.Numbers.{mul-same, pow-same, mul-pow, one-pow}
use Rattle.algebra.proofs.Polynomials.{◌⨾◌, same_sym, plus-same, constant-same, scaled-same, scaled-scaled, scaled-number, scaled-one}
use Rattle.algebra.proofs.Coefficients.{coef-plus, coef-scaled}
use Rattle.algebra.proofs.Changes.{changed_numbers}
use Rattle.algebra.proofs.Congruent as congruent
use Rattle.polynomial.specs.declared.Pair.{Pair}
use Rattle.moving.specs.Moving.{moved}
use Rattle.moving.specs.Moving.{PolynomialChanged, RightChanged, PairChanged}
use Rattle.algebra.proofs.Reduction.{reduced-reduced, reduced-same}
use Rattle.moving.proofs.Moving.{moved-reduced, moved_same, moved-constant}

-- where u·a is 1, so is the product of their n-th powers, taken modulo m or not
pub powers_cancel : (m u a n x y : ℕ) → u * a % m ≡ 1 % m → x % m ≡ u ^ n % m → y % m ≡ a ^ n % m → x * y % m ≡ 1 % m
powers_cancel m u a n x y e d f =
    mul-same m x y (u ^ n) (a ^ n) d f ∙ ap (λ (k : ℕ). k % m) (sym (mul-pow u a n)) ∙ pow-same m (u * a) 1 e n ∙ ap (λ (k : ℕ). k % m) (one-pow n)

-- a constant set apart, and added again
put_back : {m : ℕ} (p : List ℕ) → Same m (plus (coef p 0 ∷ []) (set p 0 0)) p
put_back {m} p = record { at = λ k. ap (λ (x : ℕ). x % m) (coef-plus (coef p 0 ∷ []) (set p 0 0) k ∙ go p k) }
  where
    go : (p : List ℕ) (k : ℕ) → coef (coef p 0 ∷ []) k + coef (set p 0 0) k ≡ coef p k
    go [] zero = refl
    go [] (suc k) = refl
    go (x ∷ p) zero = N.add-zero x
    go (x ∷ p) (suc k) = N.zero-add (coef p k)

module _ {m : ℕ} (pos : 0 < m) where
  -- c·p as the desk holds it
  multiple_same : (c : ℕ) (p : List ℕ) → length p ≡ terms → Same m (reduced m (scaled c p)) (scaled c p)
  multiple_same c p long = same_sym (reduced-same m pos (scaled c p) (λ k l. ap (λ (x : ℕ). x % m) (coef-scaled c p k ∙ ap (λ (x : ℕ). c * x) (get_or-eq_default p 0 (rw long l)) ∙ N.mul-zero c)))

  module _ (a b u n : ℕ) (e : u * a % m ≡ 1 % m) {w : ℕ} (power : w ≡ u ^ n % m) where
    -- a^n times the multiple by a^(-n)
    multiple_undone : (p : List ℕ) → length p ≡ terms → Same m (scaled (a ^ n) (reduced m (scaled w p))) p
    multiple_undone p long =
        scaled-same m pos (a ^ n) (multiple_same w p long) ⨾ scaled-scaled m pos (a ^ n) w p
        ⨾ scaled-number m pos (a ^ n * w) 1 p (powers_cancel m a u n (a ^ n) w (ap (λ (k : ℕ). k % m) (N.mul_comm a u) ∙ e) refl (congruent.reduced power).same) ⨾ scaled-one m pos p

    -- a^(-n)·f(a·x + b)
    pub changed-is : {f p r : List ℕ} → Held m n f → p ≡ moved m f a b → r ≡ reduced m (scaled w p) → PolynomialChanged m n a b f r
    changed-is {f} {p} {r} held q d =
        rw (d, q) (record { reduced = reduced-reduced m pos _; changed = record { same = multiple_undone (moved m f a b) (moved-reduced pos a b f).long ⨾ moved_same pos a b held } })

    -- a^(-s)·(h(a·x + b) - h(b)), and h(b)
    pub changed-right-is : {h p r : List ℕ} → Held m n h → p ≡ moved m h a b → r ≡ reduced m (scaled w (set p 0 0)) → RightChanged m n a b h r (coef p 0)
    changed-right-is {h} {p} {r} held q d =
        let constant : coef p 0 ≡ value h b % m = rw q (moved-constant pos a b h) in
        record {
          reduced = rw d (reduced-reduced m pos _);
          right = record {
            same = plus-same m pos (constant-same m pos (value h b) (coef p 0) (sym (congruent.reduced constant).same))
                (rw d (multiple_undone (set p 0 0) (length-set p 0 0 ∙ ap length q ∙ (moved-reduced pos a b h).long)))
                ⨾ put_back p ⨾ rw q (moved_same pos a b held);
          };
          origin_is = constant;
        }

  -- the changed pair, where (a^s, h(b)) was handed on as remainders
  pub changed-pair-is : {r s a b c d : ℕ} {g h : List ℕ} {x : Pair} → RightChanged m s a b h x.right d → c ≡ a ^ s % m
      → PolynomialChanged m r c d g x.left → PairChanged m r s a b g h x
  changed-pair-is {r} {s} {a} {b} {c} {d} {g} {h} {x} k e l = record {
    reduced_left = l.reduced;
    reduced_right = k.reduced;
    pair = record {
      left = changed_numbers pos c d (a ^ s) (value h b) (congruent.reduced e).same (congruent.reduced k.origin_is).same l.changed;
      right = k.right;
    };
  }
