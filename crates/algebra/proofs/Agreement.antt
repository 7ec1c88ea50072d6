-- Left parts and what they compose to with one right part, compared from the top.
--
--   after_agree          left parts that agree above x^j: what they compose to agrees above x^(js)
--   tops                 monic polynomials of one degree agree from there on
--   forced_agree         g(h) for the forced g is what f is, as far as any g'(h) is what f is, and on to the next power x^(js)
--   forced-left-exists   there is a forced left part, for any monic h
--   times-differs        two polynomials that differ first, from the top, at x^k: times h they do so at x^(k+s)
--   plus_agree, plus-differs    with what agrees, or differs, added to each
use mathlib.Core.Path.{◌≡◌, refl, sym, ap, ◌∙◌}
use mathlib.Core.Logic.{⊎_elim}
use mathlib.Core.List.{List}
use Prim.Native.Nat.{ℕ, zero, suc, ◌+◌, ◌*◌, ◌-◌, ◌%◌, ◌≤◌, ◌<◌}
use native.Mathlib.Nat as N
use native.Mathlib.Omega.{arith}
use Rattle.algebra.specs.Polynomial.{coef, plus, scaled, times, after, Same, Monic}
use Rattle.algebra.specs.Pair.{ForcedLeft, Differs}
use Rattle.algebra.proofs.Ring as A
use Rattle.algebra.proofs.Series as S
use Rattle.algebra.proofs.Residues
use Rattle.algebra.proofs.Residues.{residues, Res, equal→same}
use Rattle.algebra.proofs.Evaluation.{⟦◌⟧, eval-times, eval-plus, eval-scaled}
use Rattle.algebra.proofs.Degrees as D
use Rattle.algebra.proofs.Degrees.{deg-mul-at, top-mul}
use Rattle.algebra.proofs.Numbers.{add_same, mul-same, add_cancel}
use Rattle.algebra.proofs.Coefficients.{coef-plus, coef-scaled, after-end, after-monic}
use Rattle.algebra.proofs.Polynomials.{Q, ◌⨾◌, same_refl, monic_series, residue_at, at_residue, plus-same, after_plus, after-scaled}
use Rattle.algebra.proofs.ForcedPair.{minus, after_minus, level, equal, left_agree}
use Rattle.algebra.proofs.RightPart.{monomial, monomial_monic}

module _ (R : A.Ring) where
  open R use {El, ◌⊕◌, ◌⊗◌}

  spread : (h p c q : El) → h ⊗ (p ⊕ c ⊗ q) ≡ h ⊗ p ⊕ c ⊗ (h ⊗ q)
  spread h p c q = simp A.ring

module _ (m : ℕ) (pos : 0 < m) where
  pub after_agree : (j : ℕ) {s : ℕ} (g g' : List ℕ) {h : List ℕ} → 0 < s → Monic m s h → ((i : ℕ) → j < i → coef g i % m ≡ coef g' i % m)
      → (i : ℕ) → j * s < i → coef (after g h) i % m ≡ coef (after g' h) i % m
  after_agree j g g' {h} sp mh e i l = equal m pos (after g h) (after g' h) i (sym ((after_minus m pos g g' h).at i) ∙ (after-end m pos (minus m pos g g') sp mh (λ k b. level m pos g g' k (e k b))).1 i l)

  -- two monic polynomials of one degree, from there on
  pub tops : {n : ℕ} {p q : List ℕ} → Monic m n p → Monic m n q → (i : ℕ) → n ≤ i → coef p i % m ≡ coef q i % m
  tops mp mq i l = ⊎_elim (λ (e : _ ≡ i). rw (← e) (mp.top ∙ sym mq.top)) (λ b. mp.above i b ∙ sym (mq.above i b)) (N.eq-or-lt_of_le l)

  pub forced_agree : {r s k : ℕ} (q : ℕ) {f g : List ℕ} (g' : List ℕ) {h : List ℕ} → 0 < s → Monic m s h → k < suc q * s → ForcedLeft m r s f h g
      → ((i : ℕ) → k < i → coef f i % m ≡ coef (after g' h) i % m) → (i : ℕ) → q * s < i → coef (after g h) i % m ≡ coef (after g' h) i % m
  forced_agree {s = s} {k = k} q {g = g} g' sp mh l F e =
      after_agree q g g' sp mh (λ j b. left_agree m pos (suc k) g g' sp mh (λ j c. F.forced j ∙ e (j * s) c) j (omega (arith, N.mul-le-mul_right {m = suc q} {n = j} s b)))

  pub forced-left-exists : {r s : ℕ} {f h : List ℕ} → 0 < s → Monic m s h → Monic m (r * s) f → (g : List ℕ) × ForcedLeft m r s f h g
  forced-left-exists {r} {s} {f} {h} sp mh mf = let (g, mg, e) = from r (omega arith) in (g, record { monic = mg; forced = λ i. e i (omega arith) })
    where
      -- c·x^j more, where g(h) is f at the powers x^(is) above: at x^(js) too
      put : (j : ℕ) (g : List ℕ) → j < r → Monic m r g → ((i : ℕ) → j < i → coef (after g h) (i * s) % m ≡ coef f (i * s) % m)
          → (g' : List ℕ) × Monic m r g' × ((i : ℕ) → j ≤ i → coef (after g' h) (i * s) % m ≡ coef f (i * s) % m)
      put j g l mg e = (g', record { top = here r l ∙ mg.top; above = λ i b. here i (omega arith) ∙ mg.above i b }, at)
        where
          c : ℕ
          c = coef f (j * s) + (m - 1) * coef (after g h) (j * s)

          g' : List ℕ
          g' = plus g (scaled c (monomial j))

          whole : Monic m (j * s) (after (monomial j) h)
          whole = after-monic m pos sp (monomial_monic m j) mh

          spread : Same m (after g' h) (plus (after g h) (scaled c (after (monomial j) h)))
          spread = after_plus m pos g (scaled c (monomial j)) h ⨾ plus-same m pos (same_refl (after g h)) (after-scaled m pos c (monomial j) h)

          -- a sum with c times another polynomial, where that is z
          sum : (p q : List ℕ) (i z : ℕ) → coef q i % m ≡ z % m → coef (plus p (scaled c q)) i % m ≡ (coef p i + c * z) % m
          sum p q i z w = ap (λ (x : ℕ). x % m) (coef-plus p (scaled c q) i ∙ ap (◌+◌ (coef p i)) (coef-scaled c q i)) ∙ sym (N.add-mod-mod (coef p i) (c * coef q i) m) ∙ ap (λ (x : ℕ). (coef p i + x) % m) (mul-same m c (coef q i) c z refl w) ∙ N.add-mod-mod (coef p i) (c * z) m

          round : (k : ℕ) → m ≡ suc k → coef (after g h) (j * s) + (coef f (j * s) + k * coef (after g h) (j * s)) * 1 ≡ coef f (j * s) + coef (after g h) (j * s) * m
          round k w = rw w (omega arith)

          here : (i : ℕ) → j < i → coef g' i % m ≡ coef g i % m
          here i b = sum g (monomial j) i 0 ((monomial_monic m j).above i b) ∙ ap (λ (x : ℕ). x % m) (omega arith)

          at : (i : ℕ) → j ≤ i → coef (after g' h) (i * s) % m ≡ coef f (i * s) % m
          at i b = ⊎_elim
              (λ (q : j ≡ i). rw (← q) (spread.at (j * s) ∙ sum (after g h) (after (monomial j) h) (j * s) 1 whole.top ∙ ap (λ (x : ℕ). x % m) (round (m - 1) (omega arith)) ∙ N.add-mul-mod_self_right (coef f (j * s)) (coef (after g h) (j * s)) m))
              (λ (q : j < i). spread.at (i * s) ∙ sum (after g h) (after (monomial j) h) (i * s) 0 (whole.above (i * s) (N.mul-lt-mul_of_pos_right q sp)) ∙ ap (λ (x : ℕ). x % m) (omega arith) ∙ e i q)
              (N.eq-or-lt_of_le b)

      -- the coefficients of g from the top: n of them are found
      from : (n : ℕ) → n ≤ r → (g : List ℕ) × Monic m r g × ((i : ℕ) → r ≤ i + n → coef (after g h) (i * s) % m ≡ coef f (i * s) % m)
      from zero l = (monomial r, monomial_monic m r, λ i b. tops (after-monic m pos sp (monomial_monic m r) mh) mf (i * s) (N.mul-le-mul_right s (omega arith)))
      from (suc n) l =
          let (g, mg, e) = from n (omega arith) in
          let (g', mg', e') = put (r - suc n) g (omega arith) mg (λ i b. e i (omega arith)) in
          (g', mg', λ i b. e' i (omega arith))

  times-minus : (h p q : List ℕ) → Same m (times h (minus m pos p q)) (minus m pos (times h p) (times h q))
  times-minus h p q = equal→same m pos (simp (eval-times (Q m pos), eval-plus (Q m pos), eval-scaled (Q m pos)) (spread (Q m pos) _ _ _ _))

  pub times-differs : {s k : ℕ} {h : List ℕ} (p q : List ℕ) → Monic m s h → Differs m p q k → Differs m (times h p) (times h q) (s + k)
  times-differs {s} {k} {h} p q mh d = record {
    above = λ i l. equal m pos (times h p) (times h q) i (sym ((times-minus h p q).at i) ∙ at_residue m pos (times h w) i 0 (at i ∙ deg-mul-at Z s H.deg low i l));
    here = λ e. d.here (equal m pos p q k (at_residue m pos w k 0 (sym (A.one-mul Z _) ∙ ap (λ (x : Res m pos). Residues.rmul m pos x (⟦ Z ⟧ w k)) (sym H.top) ∙ sym (top-mul Z s H.deg low) ∙ sym (at (s + k))
        ∙ residue_at m pos (times h w) (s + k) 0 ((times-minus h p q).at (s + k) ∙ level m pos (times h p) (times h q) (s + k) e))));
  }
    where
      Z : A.Ring
      Z = residues m pos

      w : List ℕ
      w = minus m pos p q

      H : D.Monic Z s (⟦ Z ⟧ h)
      H = monic_series m pos mh

      low : D.Deg Z k (⟦ Z ⟧ (minus m pos p q))
      low = record { above = λ i l. residue_at m pos w i 0 (level m pos p q i (d.above i l)) }

      at : (i : ℕ) → ⟦ Z ⟧ (times h w) i ≡ S.◌⊠◌ Z (⟦ Z ⟧ h) (⟦ Z ⟧ w) i
      at i = ap (λ (x : ℕ → Res m pos). x i) (eval-times (Q m pos) h w _)

  -- sums, with what agrees added to each
  module _ (a b p q : List ℕ) (i : ℕ) where
    plus-both : coef a i % m ≡ coef b i % m → coef p i % m ≡ coef q i % m → coef (plus a p) i % m ≡ coef (plus b q) i % m
    plus-both x y = ap (λ (z : ℕ). z % m) (coef-plus a p i) ∙ add_same m _ _ _ _ x y ∙ ap (λ (z : ℕ). z % m) (sym (coef-plus b q i))

    -- and taken away again
    plus-first : coef p i % m ≡ coef q i % m → coef (plus a p) i % m ≡ coef (plus b q) i % m → coef a i % m ≡ coef b i % m
    plus-first y w = add_cancel m (coef a i) (coef b i) (coef p i) pos (ap (λ (z : ℕ). z % m) (sym (coef-plus a p i)) ∙ w ∙ ap (λ (z : ℕ). z % m) (coef-plus b q i) ∙ add_same m _ _ _ _ refl (sym y))

    plus-second : coef a i % m ≡ coef b i % m → coef (plus a p) i % m ≡ coef (plus b q) i % m → coef p i % m ≡ coef q i % m
    plus-second x w = add_cancel m (coef p i) (coef q i) (coef a i) pos (ap (λ (z : ℕ). z % m) (N.add_comm _ _ ∙ sym (coef-plus a p i)) ∙ w ∙ ap (λ (z : ℕ). z % m) (coef-plus b q i ∙ N.add_comm _ _) ∙ add_same m _ _ _ _ refl (sym x))

  pub plus_agree : {k : ℕ} (a b p q : List ℕ) → ((i : ℕ) → k ≤ i → coef a i % m ≡ coef b i % m) → Differs m p q k → Differs m (plus a p) (plus b q) k
  plus_agree {k} a b p q e d = record { above = λ i l. plus-both a b p q i (e i (N.le_of_lt l)) (d.above i l); here = λ w. d.here (plus-second a b p q k (e k (N.le_refl k)) w) }

  pub plus-differs : {k : ℕ} (a b p q : List ℕ) → Same m p q → Differs m a b k → Differs m (plus a p) (plus b q) k
  plus-differs {k} a b p q e d = record { above = λ i l. plus-both a b p q i (d.above i l) (e.at i); here = λ w. d.here (plus-first a b p q k (e.at k) w) }
