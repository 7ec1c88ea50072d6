-- The ring of the residues modulo m, as the numbers below m.
--
--   Res, red, same, red_eq                residues, and when two are equal
--   residues                              the ring
--   nat_red                               a whole number in that ring is its residue
--   same→equal, equal→same                equal modulo m is equal as series over the residues
use mathlib.Core.Path.{◌≡◌, sym, ap, ◌∙◌, fun_ext}
use mathlib.Core.HLevel.{Σ_prop_path}
use mathlib.Core.List.{List}
use Prim.Native.Nat.{ℕ, zero, suc, ◌+◌, ◌*◌, ◌-◌, ◌%◌, ◌<◌}
use native.Mathlib.Nat as N
use native.Mathlib.Bridge.{le_prop}
use Rattle.algebra.proofs.Numbers.{mod-mul-mod, mul-mod-mod}
use Rattle.algebra.proofs.Ring.{Ring}
use Rattle.algebra.proofs.Evaluation.{nat, nat_zero, nat_suc, ⟦◌⟧, series_coef}
use Rattle.algebra.specs.Polynomial as P

module _ (m : ℕ) (pos : 0 < m) where
  abbrev pub Res : Type 0
  Res = (n : ℕ) × (n < m)

  unfoldable pub red : ℕ → Res
  red n = (n % m, N.mod-lt n pos)

  pub same : {a b : Res} → a.0 ≡ b.0 → a ≡ b
  same e = Σ_prop_path (λ n. le_prop) e

  pub red_eq : (a b : ℕ) → a % m ≡ b % m → red a ≡ red b
  unfolding red
  red_eq a b e = same e

  unfoldable pub radd : Res → Res → Res
  radd a b = red (a.0 + b.0)

  unfoldable pub rmul : Res → Res → Res
  rmul a b = red (a.0 * b.0)

  unfoldable pub rneg : Res → Res
  rneg a = red (m - a.0)

  pub radd_assoc : (a b c : Res) → radd (radd a b) c ≡ radd a (radd b c)
  unfolding radd red
  radd_assoc (a, ha) (b, hb) (c, hc) = same (rw (N.mod-add-mod (a + b) m c, N.add-mod-mod a (b + c) m, N.add_assoc a b c))

  pub radd_comm : (a b : Res) → radd a b ≡ radd b a
  unfolding radd
  radd_comm a b = ap red (N.add_comm a.0 b.0)

  pub rzero_add : (a : Res) → radd (red 0) a ≡ a
  unfolding radd red
  rzero_add a = same (rw (N.zero-mod m, N.zero-add a.0) (N.mod-eq_of_lt a.1))

  pub rneg_add : (a : Res) → radd (rneg a) a ≡ red 0
  unfolding radd red rneg
  rneg_add a = same (N.mod-add-mod (m - a.0) m a.0 ∙ ap (λ (x : ℕ). x % m) (N.sub-add_cancel (N.le_of_lt a.1)) ∙ N.mod_self m ∙ sym (N.zero-mod m))

  pub rmul_assoc : (a b c : Res) → rmul (rmul a b) c ≡ rmul a (rmul b c)
  unfolding rmul red
  rmul_assoc a b c = same (mod-mul-mod (a.0 * b.0) c.0 m ∙ ap (λ (x : ℕ). x % m) (N.mul_assoc a.0 b.0 c.0) ∙ sym (mul-mod-mod a.0 (b.0 * c.0) m))

  pub rmul_comm : (a b : Res) → rmul a b ≡ rmul b a
  unfolding rmul
  rmul_comm a b = ap red (N.mul_comm a.0 b.0)

  pub rone_mul : (a : Res) → rmul (red 1) a ≡ a
  unfolding rmul red
  rone_mul a = same (mod-mul-mod 1 a.0 m ∙ ap (λ (x : ℕ). x % m) (N.one-mul a.0) ∙ N.mod-eq_of_lt a.1)

  pub rmul_add : (a b c : Res) → rmul a (radd b c) ≡ radd (rmul a b) (rmul a c)
  unfolding rmul radd red
  rmul_add a b c = same (mul-mod-mod a.0 (b.0 + c.0) m ∙ ap (λ (x : ℕ). x % m) (N.mul-add a.0 b.0 c.0) ∙ N.add-mod (a.0 * b.0) (a.0 * c.0) m)

  abbrev pub residues : Ring
  residues = record {
    El = Res;
    𝟘 = red 0;
    𝟙 = red 1;
    ◌⊕◌ = radd;
    ◌⊗◌ = rmul;
    neg = rneg;
    add_assoc = radd_assoc;
    add_comm = radd_comm;
    zero-add = rzero_add;
    neg_add = rneg_add;
    mul_assoc = rmul_assoc;
    mul_comm = rmul_comm;
    one-mul = rone_mul;
    mul-add = rmul_add;
  }

  pub nat_red : (n : ℕ) → nat residues n ≡ red n
  unfolding radd red
  nat_red zero = nat_zero residues
  nat_red (suc n) = nat_suc residues n ∙ ap (radd (red 1)) (nat_red n) ∙ same (sym (N.add-mod 1 n m) ∙ ap (λ (x : ℕ). x % m) (N.suc-add 0 n ∙ ap suc (N.zero-add n)))

  -- equal modulo m is equal as series over the residues
  pub same→equal : {p q : List ℕ} → P.Same m p q → ⟦ residues ⟧ p ≡ ⟦ residues ⟧ q
  unfolding red
  same→equal {p} {q} c = fun_ext (λ i. series_coef residues p i ∙ nat_red (P.coef p i) ∙ same (c.at i) ∙ sym (series_coef residues q i ∙ nat_red (P.coef q i)))

  pub equal→same : {p q : List ℕ} → ⟦ residues ⟧ p ≡ ⟦ residues ⟧ q → P.Same m p q
  unfolding red
  equal→same {p} {q} e = record { at = λ i. ap (λ (r : Res). r.0) (sym (series_coef residues p i ∙ nat_red (P.coef p i)) ∙ ap (λ (s : ℕ → Res). s i) e ∙ series_coef residues q i ∙ nat_red (P.coef q i)) }
