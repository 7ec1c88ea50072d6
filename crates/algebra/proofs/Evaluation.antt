-- The value of a polynomial at an element of any ring: the one homomorphism that all laws of lists come from.
--
--   nat, nat_zero, nat_suc, nat_one, nat_add, nat_mul, nat_pow     a whole number in the ring
--   pow, pow-zero, pow-suc, pow-add       powers in the ring
--   eval p x                              the value of p at x
--   eval-plus, eval-scaled, eval-times, eval-power, eval-after     it goes through every operation
--   ⟦ R ⟧ p, series_coef                  p as a series over R: its value at the unknown
use mathlib.Core.Path.{◌≡◌, refl, sym, ap, ap₂, ◌∙◌}
use mathlib.Core.List.{List, [], ◌∷◌}
use Prim.Native.Nat.{ℕ, zero, suc, ◌+◌, ◌*◌, ◌^◌}
use native.Mathlib.Nat as N
use Rattle.algebra.proofs.Ring.{Ring, ring}
use Rattle.algebra.proofs.Ring as A
use Rattle.algebra.specs.Polynomial as P
use Rattle.algebra.proofs.Series as S

module _ (R : Ring) where
  open R use {El, 𝟘, 𝟙, ◌⊕◌, ◌⊗◌, neg}

  -- a natural number in the ring
  unfoldable pub nat : ℕ → El
  nat zero = 𝟘
  nat (suc n) = 𝟙 ⊕ nat n

  pub nat_zero : nat 0 ≡ 𝟘
  unfolding nat
  nat_zero = refl

  pub nat_suc : (n : ℕ) → nat (suc n) ≡ 𝟙 ⊕ nat n
  unfolding nat
  nat_suc n = refl

  pub nat_one : nat 1 ≡ 𝟙
  nat_one = nat_suc 0 ∙ simp (nat_zero, ring)

  pub nat_add : (a b : ℕ) → nat (a + b) ≡ nat a ⊕ nat b
  nat_add zero b = rw (N.zero-add b, nat_zero) (sym (A.zero-add R (nat b)))
  nat_add (suc a) b = rw (N.suc-add a b, nat_suc (a + b), nat_suc a, nat_add a b) (simp ring)

  pub nat_mul : (a b : ℕ) → nat (a * b) ≡ nat a ⊗ nat b
  nat_mul zero b = rw (N.zero-mul b, nat_zero) (sym (A.zero-mul R (nat b)))
  nat_mul (suc a) b = rw (N.suc-mul a b, nat_add (a * b) b, nat_suc a, nat_mul a b) (simp ring)

  unfoldable pub pow : El → ℕ → El
  pow x zero = 𝟙
  pow x (suc n) = x ⊗ pow x n

  pub pow-zero : (x : El) → pow x 0 ≡ 𝟙
  unfolding pow
  pow-zero x = refl

  pub pow-suc : (x : El) (n : ℕ) → pow x (suc n) ≡ x ⊗ pow x n
  unfolding pow
  pow-suc x n = refl

  pub pow-add : (x : El) (i j : ℕ) → pow x (i + j) ≡ pow x i ⊗ pow x j
  pow-add x zero j = rw (N.zero-add j, pow-zero x) (sym (A.one-mul R _))
  pow-add x (suc i) j = rw (N.suc-add i j, pow-suc x (i + j), pow-suc x i, pow-add x i j) (simp ring)

  unfoldable pub eval : List ℕ → El → El
  eval [] x = 𝟘
  eval (a ∷ p) x = nat a ⊕ x ⊗ eval p x

  pub eval_nil : (x : El) → eval [] x ≡ 𝟘
  unfolding eval
  eval_nil x = refl

  pub eval_cons : (a : ℕ) (p : List ℕ) (x : El) → eval (a ∷ p) x ≡ nat a ⊕ x ⊗ eval p x
  unfolding eval
  eval_cons a p x = refl

  pub nat_value : (p : List ℕ) (b : ℕ) → nat (P.value p b) ≡ eval p (nat b)
  unfolding P.value
  nat_value [] b = nat_zero ∙ sym (eval_nil (nat b))
  nat_value (a ∷ p) b = nat_add a (b * P.value p b) ∙ ap (◌⊕◌ (nat a)) (nat_mul b (P.value p b) ∙ ap (◌⊗◌ (nat b)) (nat_value p b)) ∙ sym (eval_cons a p (nat b))

  pub nat_pow : (a n : ℕ) → nat (a ^ n) ≡ pow (nat a) n
  nat_pow a zero = ap nat (N.pow-zero a) ∙ nat_one ∙ sym (pow-zero (nat a))
  nat_pow a (suc n) = ap nat (N.pow-succ' a n) ∙ nat_mul a (a ^ n) ∙ ap (◌⊗◌ (nat a)) (nat_pow a n) ∙ sym (pow-suc (nat a) n)

  pub eval-plus : (p q : List ℕ) (x : El) → eval (P.plus p q) x ≡ eval p x ⊕ eval q x
  unfolding P.plus
  eval-plus [] q x = simp (eval_nil, ring)
  eval-plus (a ∷ p) [] x = simp (eval_nil, ring)
  eval-plus (a ∷ p) (b ∷ q) x = simp (eval_cons, nat_add, eval-plus p q x, ring)

  pub eval-scaled : (a : ℕ) (p : List ℕ) (x : El) → eval (P.scaled a p) x ≡ nat a ⊗ eval p x
  unfolding P.scaled
  eval-scaled a [] x = simp (eval_nil, ring)
  eval-scaled a (b ∷ p) x = step (eval-scaled a p x)
    where
      step : eval (P.scaled a p) x ≡ nat a ⊗ eval p x → eval ((a * b) ∷ P.scaled a p) x ≡ nat a ⊗ eval (b ∷ p) x
      step ih = simp (eval_cons, nat_mul, ih, ring)

  pub eval-times : (p q : List ℕ) (x : El) → eval (P.times p q) x ≡ eval p x ⊗ eval q x
  unfolding P.times
  eval-times [] q x = simp (eval_nil, ring)
  eval-times (a ∷ p) q x = simp (eval-plus, eval_cons, nat_zero, eval-scaled, eval-times p q x, ring)

  pub eval-power : (p : List ℕ) (n : ℕ) (x : El) → eval (P.power p n) x ≡ pow (eval p x) n
  unfolding P.power
  eval-power p zero x = simp (eval_cons, eval_nil, nat_one, pow-zero, ring)
  eval-power p (suc n) x = simp (eval-times, eval-power p n x, pow-suc)

  pub eval-after : (g h : List ℕ) (x : El) → eval (P.after g h) x ≡ eval g (eval h x)
  unfolding P.after
  eval-after [] h x = simp eval_nil
  eval-after (a ∷ g) h x = simp (eval-plus, eval_cons, eval_nil, eval-times, eval-after g h x, ring)

-- a list of coefficients as a series: its value at the unknown
module _ (R : Ring) where
  open R use {El, 𝟘, 𝟙, ◌⊕◌, ◌⊗◌, neg}

  abbrev pub ⟦◌⟧ : List ℕ → ℕ → El
  ⟦◌⟧ p = eval (S.series R) p (S.X R)

  pub nat_series : (n : ℕ) → nat (S.series R) n ≡ S.const R (nat R n)
  nat_series zero = nat_zero (S.series R) ∙ sym (ap (S.const R) (nat_zero R) ∙ S.const_zero R)
  nat_series (suc n) = nat_suc (S.series R) n ∙ ap (S.◌⊞◌ R (S.const R 𝟙)) (nat_series n) ∙ sym (ap (S.const R) (nat_suc R n) ∙ S.const_add R 𝟙 (nat R n))

  pub series_coef : (p : List ℕ) (i : ℕ) → ⟦ p ⟧ i ≡ nat R (P.coef p i)
  unfolding S.◌⊞◌ S.const
  series_coef [] i = ap (λ (s : ℕ → El). s i) (eval_nil (S.series R) (S.X R)) ∙ sym (nat_zero R)
  series_coef (a ∷ p) zero = ap (λ (s : ℕ → El). s 0) (eval_cons (S.series R) a p (S.X R))
      ∙ ap₂ ◌⊕◌ (ap (λ (s : ℕ → El). s 0) (nat_series a)) (S.X_mul_zero R ⟦ p ⟧) ∙ A.add-zero R (nat R a)
  series_coef (a ∷ p) (suc i) = ap (λ (s : ℕ → El). s (suc i)) (eval_cons (S.series R) a p (S.X R))
      ∙ ap₂ ◌⊕◌ (ap (λ (s : ℕ → El). s (suc i)) (nat_series a)) (S.X_mul-suc R ⟦ p ⟧ i) ∙ A.zero-add R (⟦ p ⟧ i) ∙ series_coef p i
