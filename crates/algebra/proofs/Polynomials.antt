-- The laws of polynomials modulo m, said of lists of numbers. Each comes from the ring of series by evaluation.
--
--   same_refl, same_sym, _⨾_              Same is an equivalence
--   plus-same, scaled-same, times-same, power-same, after_same    and fits every operation
--   zero_nothing, plus_comm, plus_assoc, plus-nothing, plus_cancel     sums
--   times_comm, times_assoc, times-plus, times-nothing, times-one products
--   power-plus                            p^(i+j) = p^i·p^j
--   scaled-one, scaled-plus, scaled-scaled, scaled-number, scaled_cancel     multiples
--   after_assoc, after_plus, after-times, after-scaled            composition: associative, a homomorphism on the left
--   x_after, after_x, constant-after, line_after                  composition with x, constants and lines
--   constant-same, line_same, monic-same                 what depends on a polynomial modulo m only
--   residue_at, at_residue, monic_series, monic_list, after-compose    from lists to series over the residues, and back
use mathlib.Core.Path.{◌≡◌, refl, sym, ap, ap₂, ◌∙◌, fun_ext}
use mathlib.Core.List.{List, [], ◌∷◌, tail}
use Prim.Native.Nat.{ℕ, zero, suc, ◌+◌, ◌*◌, ◌%◌, ◌≤◌, ◌<◌}
use native.Mathlib.Omega.{arith}
use lib.ListN.{length, get_or-eq_default}
use Rattle.algebra.specs.Number.{Invertible}
use Rattle.algebra.specs.Polynomial as P
use Rattle.algebra.specs.Polynomial.{coef, plus, scaled, times, power, after, Same}
use Rattle.algebra.proofs.Ring.{Ring, ring}
use Rattle.algebra.proofs.Evaluation.{nat, nat_zero, nat_one, nat_mul, nat_series, eval, eval_nil, eval_cons, eval-plus, eval-scaled, eval-times, eval-power, eval-after, ⟦◌⟧, series_coef}
use Rattle.algebra.proofs.Residues.{residues, Res, red, red_eq, same, nat_red, same→equal, equal→same}
use Rattle.algebra.proofs.Degrees.{Monic, compose, compose-suc, compose_zero}
use Rattle.algebra.proofs.Ring as A
use Rattle.algebra.proofs.Series as S
use Rattle.algebra.proofs.Evaluation as E

module _ (R : Ring) where
  open R use {El, 𝟘, 𝟙, ◌⊕◌, ◌⊗◌, neg}

  eval-constant : (c : ℕ) (x : El) → eval R (c ∷ []) x ≡ nat R c
  eval-constant c x = simp (eval_cons, eval_nil, ring)

  -- the value of c + a·x
  pub eval-line : (c a : ℕ) (x : El) → eval R (c ∷ a ∷ []) x ≡ nat R c ⊕ nat R a ⊗ x
  eval-line c a x = simp (eval_cons, eval_nil, ring)

  unknown : (x : El) → eval R (0 ∷ 1 ∷ []) x ≡ x
  unknown x = simp (eval_cons, eval_nil, nat_zero, nat_one, ring)

  scaled_twice : (a b : ℕ) (p : List ℕ) (x : El) → eval R (scaled a (scaled b p)) x ≡ eval R (scaled (a * b) p) x
  scaled_twice a b p x = simp (eval-scaled, nat_mul, ring)

  eval-one : (x : El) → eval R (1 ∷ []) x ≡ 𝟙
  eval-one x = simp (eval_cons, eval_nil, nat_one, ring)

  pub uncons : (p : List ℕ) (x : El) → eval R p x ≡ nat R (coef p 0) ⊕ x ⊗ eval R (tail p) x
  uncons [] x = simp (eval_nil, nat_zero, ring)
  uncons (a ∷ p) x = eval_cons R a p x

module _ (R : Ring) where
  open R use {El, 𝟘, 𝟙, ◌⊕◌, ◌⊗◌, neg}
  open S.series R use {◌⊕◌ as ◌⊞◌, ◌⊗◌ as ◌⊠◌, neg as sneg, 𝟘 as nought, 𝟙 as unit}

  infixl 65 ◌⊞◌
  infixl 70 ◌⊠◌
  tail_coef : (p : List ℕ) → ⟦ R ⟧ (tail p) ≡ S.tl R (⟦ R ⟧ p)
  tail_coef p = fun_ext (λ i. series_coef R (tail p) i ∙ ap (nat R) (same-coef p i) ∙ sym (series_coef R p (suc i)))
    where
      same-coef : (p : List ℕ) (i : ℕ) → coef (tail p) i ≡ coef p (suc i)
      same-coef [] i = refl
      same-coef (a ∷ p) i = refl

  all_zero : (p : List ℕ) (h : S.Series R) → ((i : ℕ) → ⟦ R ⟧ p i ≡ 𝟘) → eval (S.series R) p h ≡ nought
  all_zero [] h z = eval_nil (S.series R) h
  all_zero (a ∷ p) h z = rw (eval_cons (S.series R) a p h, nat_series R a, sym (series_coef R (a ∷ p) 0) ∙ z 0, S.const_zero R, all_zero p h (λ i. ap (λ (s : S.Series R). s i) (tail_coef (a ∷ p)) ∙ z (suc i))) (A.zero-add (S.series R) _ ∙ A.mul-zero (S.series R) h)

  pub eval-compose : (n : ℕ) (p : List ℕ) (h : S.Series R) → ((i : ℕ) → n ≤ i → ⟦ R ⟧ p i ≡ 𝟘) → eval (S.series R) p h ≡ compose R n (⟦ R ⟧ p) h
  eval-compose zero p h z = all_zero p h (λ i. z i (omega arith)) ∙ sym (compose_zero R _ h)
  eval-compose (suc n) p h z = uncons (S.series R) p h
      ∙ ap₂ (λ (c y : S.Series R). c ⊞ h ⊠ y)
      (nat_series R (coef p 0) ∙ ap (S.const R) (sym (series_coef R p 0)))
      (eval-compose n (tail p) h (λ i l. ap (λ (s : S.Series R). s i) (tail_coef p) ∙ z (suc i) (omega arith)) ∙ ap (λ (s : S.Series R). compose R n s h) (tail_coef p))
      ∙ sym (compose-suc R n (⟦ R ⟧ p) h)

  pub past : (p : List ℕ) (i : ℕ) → length p ≤ i → ⟦ R ⟧ p i ≡ 𝟘
  past p i l = series_coef R p i ∙ ap (nat R) (get_or-eq_default p 0 l) ∙ nat_zero R

  -- the value of p at h is told by p's coefficients in the ring
  pub eval_ext : (p q : List ℕ) (h : S.Series R) → ⟦ R ⟧ p ≡ ⟦ R ⟧ q → eval (S.series R) p h ≡ eval (S.series R) q h
  eval_ext p q h e = eval-compose n p h (λ i l. past p i (omega arith)) ∙ ap (λ (s : S.Series R). compose R n s h) e ∙ sym (eval-compose n q h (λ i l. past q i (omega arith)))
    where
      n : ℕ
      n = length p + length q

module _ {m : ℕ} where
  pub same_refl : (p : List ℕ) → Same m p p
  same_refl p = record { at = λ i. refl }

  pub same_sym : {p q : List ℕ} → Same m p q → Same m q p
  same_sym c = record { at = λ i. sym (c.at i) }

infixr 30 ◌⨾◌
pub ◌⨾◌ : {m : ℕ} {p q r : List ℕ} → Same m p q → Same m q r → Same m p r
c ⨾ d = record { at = λ i. c.at i ∙ d.at i }

module _ (m : ℕ) (pos : 0 < m) where
  abbrev pub Z : Ring
  Z = residues m pos

  -- the ring of the series over the residues, in which every law below is true equality
  abbrev pub Q : Ring
  Q = S.series Z

  pub residue_at : (p : List ℕ) (i : ℕ) (k : ℕ) → coef p i % m ≡ k % m → ⟦ Z ⟧ p i ≡ red m pos k
  unfolding red
  residue_at p i k e = series_coef (Z) p i ∙ nat_red m pos (coef p i) ∙ same m pos e

  pub at_residue : (p : List ℕ) (i : ℕ) (k : ℕ) → ⟦ Z ⟧ p i ≡ red m pos k → coef p i % m ≡ k % m
  unfolding red
  at_residue p i k e = ap (λ (r : Res m pos). r.0) (sym (series_coef (Z) p i ∙ nat_red m pos (coef p i)) ∙ e)

  pub monic_list : {s : ℕ} {p : List ℕ} → Monic (Z) s (⟦ Z ⟧ p) → P.Monic m s p
  monic_list {s} {p} c = record { top = at_residue p s 1 c.top; above = λ i l. at_residue p i 0 (c.deg.above i l) }

  pub monic_series : {s : ℕ} {p : List ℕ} → P.Monic m s p → Monic (Z) s (⟦ Z ⟧ p)
  monic_series {s} {p} c = record { deg = record { above = λ i l. residue_at p i 0 (c.above i l) }; top = residue_at p s 1 c.top }

  pub plus-same : {p p' q q' : List ℕ} → Same m p p' → Same m q q' → Same m (plus p q) (plus p' q')
  plus-same c d = equal→same m pos (simp (eval-plus (Q), same→equal m pos c, same→equal m pos d))

  pub times-same : {p p' q q' : List ℕ} → Same m p p' → Same m q q' → Same m (times p q) (times p' q')
  times-same c d = equal→same m pos (simp (eval-times (Q), same→equal m pos c, same→equal m pos d))

  pub power-same : {p p' : List ℕ} (n : ℕ) → Same m p p' → Same m (power p n) (power p' n)
  power-same n c = equal→same m pos (simp (eval-power (Q), same→equal m pos c))

  pub after_same : {g g' h h' : List ℕ} → Same m g g' → Same m h h' → Same m (after g h) (after g' h')
  after_same {g} {g'} c d = equal→same m pos (simp (eval-after (Q), same→equal m pos d) (eval_ext (Z) g g' _ (same→equal m pos c)))

  pub after_assoc : (f g h : List ℕ) → Same m (after (after f g) h) (after f (after g h))
  after_assoc f g h = equal→same m pos (simp (eval-after (Q)))

  pub after-compose : (n : ℕ) (g h : List ℕ) → ((i : ℕ) → n ≤ i → ⟦ Z ⟧ g i ≡ red m pos 0)
      → ⟦ Z ⟧ (after g h) ≡ compose (Z) n (⟦ Z ⟧ g) (⟦ Z ⟧ h)
  after-compose n g h z = eval-after (Q) g h (S.X (Z)) ∙ eval-compose (Z) n g _ z

  pub plus_comm : (p q : List ℕ) → Same m (plus p q) (plus q p)
  plus_comm p q = equal→same m pos (simp (eval-plus Q) (A.add_comm Q _ _))

  pub plus_assoc : (p q r : List ℕ) → Same m (plus (plus p q) r) (plus p (plus q r))
  plus_assoc p q r = equal→same m pos (simp (eval-plus Q) (A.add_assoc Q _ _ _))

  pub times_comm : (p q : List ℕ) → Same m (times p q) (times q p)
  times_comm p q = equal→same m pos (simp (eval-times Q) (A.mul_comm Q _ _))

  pub times_assoc : (p q r : List ℕ) → Same m (times (times p q) r) (times p (times q r))
  times_assoc p q r = equal→same m pos (simp (eval-times Q) (A.mul_assoc Q _ _ _))

  pub times-plus : (p q r : List ℕ) → Same m (times p (plus q r)) (plus (times p q) (times p r))
  times-plus p q r = equal→same m pos (simp (eval-times Q, eval-plus Q) (A.mul-add Q _ _ _))

  pub power-plus : (p : List ℕ) (i j : ℕ) → Same m (power p (i + j)) (times (power p i) (power p j))
  power-plus p i j = equal→same m pos (simp (eval-times Q, eval-power Q) (E.pow-add Q _ i j))

  pub zero_nothing : Same m (0 ∷ []) []
  zero_nothing = record { at = go }
    where
      go : (i : ℕ) → coef (0 ∷ []) i % m ≡ coef [] i % m
      go zero = refl
      go (suc i) = refl

  pub plus-nothing : (p : List ℕ) → Same m (plus [] p) p
  plus-nothing p = equal→same m pos (simp (eval-plus Q, eval_nil Q) (A.zero-add Q _))

  pub times-nothing : (p : List ℕ) → Same m (times [] p) []
  times-nothing p = equal→same m pos (simp (eval-times Q, eval_nil Q) (A.zero-mul Q _))

  pub times-one : (p : List ℕ) → Same m (times (1 ∷ []) p) p
  times-one p = equal→same m pos (simp (eval-times Q, eval-one Q) (A.one-mul Q _))

  pub after_plus : (p q h : List ℕ) → Same m (after (plus p q) h) (plus (after p h) (after q h))
  after_plus p q h = equal→same m pos (simp (eval-after Q, eval-plus Q))

  pub after-times : (p q h : List ℕ) → Same m (after (times p q) h) (times (after p h) (after q h))
  after-times p q h = equal→same m pos (simp (eval-after Q, eval-times Q))

  pub scaled-same : (a : ℕ) {p q : List ℕ} → Same m p q → Same m (scaled a p) (scaled a q)
  scaled-same a c = equal→same m pos (simp (eval-scaled Q, same→equal m pos c))

  -- (c f)(h) = c f(h)
  pub after-scaled : (c : ℕ) (f h : List ℕ) → Same m (after (scaled c f) h) (scaled c (after f h))
  after-scaled c f h = equal→same m pos (simp (eval-scaled Q, eval-after Q))

  pub scaled-scaled : (a b : ℕ) (p : List ℕ) → Same m (scaled a (scaled b p)) (scaled (a * b) p)
  scaled-scaled a b p = equal→same m pos (scaled_twice Q a b p _)

  pub scaled-plus : (a : ℕ) (p q : List ℕ) → Same m (scaled a (plus p q)) (plus (scaled a p) (scaled a q))
  scaled-plus a p q = equal→same m pos (simp (eval-scaled Q, eval-plus Q) (A.mul-add Q _ _ _))

  pub line_after : (c a : ℕ) (k : List ℕ) → Same m (after (c ∷ a ∷ []) k) (plus (c ∷ []) (scaled a k))
  line_after c a k = equal→same m pos (eval-after Q (c ∷ a ∷ []) k _ ∙ eval-line Q c a _ ∙ sym (eval-plus Q (c ∷ []) (scaled a k) _ ∙ ap₂ (S.◌⊞◌ Z) (eval-constant Q c _) (eval-scaled Q a k _)))

  pub constant-after : (c : ℕ) (k : List ℕ) → Same m (after (c ∷ []) k) (c ∷ [])
  constant-after c k = equal→same m pos (eval-after Q (c ∷ []) k _ ∙ eval-constant Q c _ ∙ sym (eval-constant Q c _))

  pub constant-same : (c d : ℕ) → c % m ≡ d % m → Same m (c ∷ []) (d ∷ [])
  constant-same c d e = record { at = go }
    where
      go : (i : ℕ) → coef (c ∷ []) i % m ≡ coef (d ∷ []) i % m
      go zero = e
      go (suc i) = refl

  pub x_after : (p : List ℕ) → Same m (after (0 ∷ 1 ∷ []) p) p
  x_after p = equal→same m pos (eval-after Q (0 ∷ 1 ∷ []) p _ ∙ unknown Q _)

  pub after_x : (p : List ℕ) → Same m (after p (0 ∷ 1 ∷ [])) p
  after_x p = equal→same m pos (eval-after Q p (0 ∷ 1 ∷ []) _ ∙ ap (eval Q p) (unknown Q _))

  pub number_same : (a b : ℕ) → a % m ≡ b % m → nat Q a ≡ nat Q b
  number_same a b e = nat_series Z a ∙ ap (S.const Z) (nat_red m pos a ∙ red_eq m pos a b e ∙ sym (nat_red m pos b)) ∙ sym (nat_series Z b)

  pub scaled-number : (a b : ℕ) (p : List ℕ) → a % m ≡ b % m → Same m (scaled a p) (scaled b p)
  scaled-number a b p e = equal→same m pos (eval-scaled Q a p _ ∙ ap (λ (y : ℕ → Z.El). S.◌⊠◌ Z y (eval Q p (S.X Z))) (number_same a b e) ∙ sym (eval-scaled Q b p _))

  pub scaled-one : (p : List ℕ) → Same m (scaled 1 p) p
  scaled-one p = equal→same m pos (eval-scaled Q 1 p _ ∙ ap (λ (y : ℕ → Z.El). S.◌⊠◌ Z y (eval Q p (S.X Z))) (nat_one Q) ∙ A.one-mul Q _)

  -- what has an inverse can be cancelled
  pub scaled_cancel : {c : ℕ} {p q : List ℕ} → Invertible m c → Same m (scaled c p) (scaled c q) → Same m p q
  scaled_cancel {c} {p} {q} i e = same_sym (back p) ⨾ scaled-same i.inverse e ⨾ back q
    where
      back : (p : List ℕ) → Same m (scaled i.inverse (scaled c p)) p
      back p = scaled-scaled i.inverse c p ⨾ scaled-number _ _ p i.unit ⨾ scaled-one p

  pub plus_cancel : {p q : List ℕ} (c : List ℕ) → Same m (plus c p) (plus c q) → Same m p q
  plus_cancel {p} {q} c e = equal→same m pos (A.cancel Q (eval Q c (S.X Z)) (sym (eval-plus Q c p _) ∙ same→equal m pos e ∙ eval-plus Q c q _))

  pub line_same : {a b c d : ℕ} → a % m ≡ c % m → b % m ≡ d % m → Same m (b ∷ a ∷ []) (d ∷ c ∷ [])
  line_same {a} {b} {c} {d} e o = record { at = go }
    where
      go : (i : ℕ) → coef (b ∷ a ∷ []) i % m ≡ coef (d ∷ c ∷ []) i % m
      go zero = o
      go (suc zero) = e
      go (suc (suc i)) = refl

  pub monic-same : {n : ℕ} {p q : List ℕ} → Same m p q → P.Monic m n p → P.Monic m n q
  monic-same {n} c l = record { top = sym (c.at n) ∙ l.top; above = λ i h. sym (c.at i) ∙ l.above i h }
