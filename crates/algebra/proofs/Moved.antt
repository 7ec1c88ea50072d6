-- Composition with a line, said of lists.
--
--   reify                                 every polynomial over the residues has its list
--   line-end                              what ends at x^k does so after a line
--   moved-top, moved-above                h(a·x + b) has the degree of h, and a^s at its top
--   change                                h(a·x + b) = h(b) + a^s·k with k monic and k(0) = 0
use mathlib.Core.Path.{◌≡◌, sym, ap, ap₂, subst, subst₂, ◌∙◌, fun_ext}
use mathlib.Core.List.{List, [], ◌∷◌}
use Prim.Native.Nat.{ℕ, zero, suc, ◌*◌, ◌^◌, ◌%◌, ◌<◌}
use native.Mathlib.Nat as N
use native.Mathlib.Omega.{arith}
use native.Mathlib.Decide.{dec_lt}
use Rattle.algebra.proofs.Ring.{Ring}
use Rattle.algebra.proofs.Evaluation.{nat, nat_zero, nat_mul, nat_pow, nat_value, nat_series, pow, eval, eval-after, ⟦◌⟧, series_coef}
use Rattle.algebra.proofs.Residues.{residues, Res, red, red_eq, same, nat_red, equal→same}
use Rattle.algebra.proofs.Degrees.{Deg, Lead, Monic, compose}
use Rattle.algebra.proofs.Lines.{lead-compose, eval-at_zero, normalise, pow-one, pow-mul}
use Rattle.algebra.proofs.Polynomials.{monic_series, monic_list, residue_at, at_residue, after-compose, eval-compose, eval-line}
use Rattle.algebra.proofs.Ring as A
use Rattle.algebra.specs.Number.{table}
use Rattle.algebra.specs.Polynomial as P
use Rattle.algebra.proofs.Numbers.{table_below, table-above}
use Rattle.algebra.proofs.Series as S
use Rattle.algebra.proofs.Residues

module _ (m : ℕ) (pos : 0 < m) where
  abbrev pub Z : Ring
  Z = residues m pos

  -- every polynomial over the residues has its list
  pub reify : {n : ℕ} {k : ℕ → Res m pos} → Deg Z n k → (l : List ℕ) × (⟦ Z ⟧ l ≡ k)
  unfolding red
  reify {n} {k} d = (table (suc n) f, fun_ext (λ i. series_coef Z _ i ∙ nat_red m pos _ ∙ go i (dec_lt i (suc n))))
    where
      f : ℕ → ℕ
      f i = (k i).0

      go : (i : ℕ) → Dec (i < suc n) → red m pos (P.coef (table (suc n) f) i) ≡ k i
      go i (yes l) = same m pos (ap (λ (x : ℕ). x % m) (table_below (suc n) f i l) ∙ N.mod-eq_of_lt (k i).1)
      go i (no l) = ap (red m pos) (table-above (suc n) f i (omega arith)) ∙ sym (d.above i (omega arith))

  -- the line a·x + b
  line-lead : (a b : ℕ) → Lead Z 1 (nat Z a) (⟦ Z ⟧ (b ∷ a ∷ []))
  line-lead a b = record { deg = record { above = far }; top = series_coef Z (b ∷ a ∷ []) 1 }
    where
      far : (i : ℕ) → 1 < i → ⟦ Z ⟧ (b ∷ a ∷ []) i ≡ red m pos 0
      far zero l = absurd (N.not-suc-le-zero l)
      far (suc zero) l = absurd (N.lt_irrefl 1 l)
      far (suc (suc i)) l = series_coef Z (b ∷ a ∷ []) (suc (suc i)) ∙ nat_zero Z

  -- what has no term above x^k has none after a line either
  pub line-end : (k : ℕ) (w : List ℕ) (a b : ℕ) → ((i : ℕ) → k < i → P.coef w i % m ≡ 0 % m) → (i : ℕ) → k < i → P.coef (P.after w (b ∷ a ∷ [])) i % m ≡ 0 % m
  line-end k w a b z i l = at_residue m pos _ i 0 (ap (λ (p : ℕ → Res m pos). p i) (after-compose m pos (suc k) w (b ∷ a ∷ []) (λ j g. residue_at m pos w j 0 (z j g)))
      ∙ (lead-compose Z (line-lead a b) (omega arith) k (⟦ Z ⟧ w)).deg.above i (omega arith))

  -- the steps, in the ring of the residues
  module _ {s : ℕ} {h : List ℕ} (mh : P.Monic m s h) (sp : 0 < s) (a b u : ℕ) (e : u * a % m ≡ 1 % m) where
    abbrev line : List ℕ
    line = b ∷ a ∷ []

    moved-lead : Lead Z s (pow Z (nat Z a) s) (⟦ Z ⟧ (P.after h line))
    moved-lead = rw (eval-after (S.series Z) h line (S.X Z), eval-compose Z (suc s) h (⟦ Z ⟧ line) (monic_series m pos mh).deg.above)
        (subst₂ (λ n c. Lead Z n c (compose Z (suc s) (⟦ Z ⟧ h) (⟦ Z ⟧ line)))
        (N.mul-one s) (ap (λ x. Residues.rmul m pos x (pow Z (nat Z a) s)) (monic_series m pos mh).top ∙ A.one-mul Z _)
        (lead-compose Z (line-lead a b) (omega arith) s (⟦ Z ⟧ h)))

    unit : Residues.rmul m pos (pow Z (nat Z u) s) (pow Z (nat Z a) s) ≡ red m pos 1
    unit = sym (pow-mul Z _ _ s) ∙ ap (λ x. pow Z x s) (sym (nat_mul Z u a) ∙ nat_red m pos (u * a) ∙ red_eq m pos (u * a) 1 e) ∙ pow-one Z s

    moved_zero : ⟦ Z ⟧ (P.after h line) 0 ≡ nat Z (P.value h b)
    moved_zero = ap (λ (f : ℕ → Res m pos). f 0) (eval-after (S.series Z) h line (S.X Z))
        ∙ eval-at_zero Z h (⟦ Z ⟧ line) ∙ ap (eval Z h) (series_coef Z line 0) ∙ sym (nat_value Z h b)

    -- h(a x + b) has the degree of h, and a^s at its top
    pub moved-top : P.coef (P.after h (b ∷ a ∷ [])) s % m ≡ a ^ s % m
    moved-top = at_residue m pos _ s (a ^ s) (moved-lead.top ∙ sym (nat_pow Z a s) ∙ nat_red m pos (a ^ s))

    pub moved-above : (i : ℕ) → s < i → P.coef (P.after h (b ∷ a ∷ [])) i % m ≡ 0 % m
    moved-above i l = at_residue m pos _ i 0 (moved-lead.deg.above i l)

    pub change : (k : List ℕ) × P.Monic m s k × (P.coef k 0 % m ≡ 0 % m) × P.Same m (P.after h (b ∷ a ∷ [])) (P.after (P.value h b ∷ a ^ s ∷ []) k)
    change =
        let (k, mk, z, q) = normalise Z moved-lead sp unit in
        let (l, el) = reify mk.deg in (
          l,
          monic_list m pos (subst (Monic Z s) (sym el) mk),
          at_residue m pos l 0 0 (ap (λ (f : ℕ → Res m pos). f 0) el ∙ z),
          equal→same m pos (q ∙ ap₂ (λ (c y : ℕ → Res m pos). S.◌⊞◌ Z c y)
              (ap (S.const Z) moved_zero ∙ sym (nat_series Z (P.value h b)))
              (ap₂ (S.◌⊠◌ Z) (ap (S.const Z) (sym (nat_pow Z a s)) ∙ sym (nat_series Z (a ^ s))) (sym el))
              ∙ sym (eval-line (S.series Z) (P.value h b) (a ^ s) (⟦ Z ⟧ l)) ∙ sym (eval-after (S.series Z) _ l (S.X Z))),
        )
