-- Division by a monic polynomial modulo m: one quotient, one remainder, and what that says of left parts.
--
--   division_unique     c + h·u = d + h·v with c and d of degree below that of h: u = v and c = d
--   expansion cs h      the polynomial with the digits cs in powers of h
--   digits_unique       two lists of as many digits, of degrees below that of h, that give the same polynomial are the same digits;
--                       h(0) may be anything, and no inverse is needed
--   after-short         the first k terms of g, after h, end where h^(k-1) does
--   parts-after         p = c + h^k·q, c of a degree below that of h^k: p = g(h) exactly if c is g's first k terms, after h, and q
--                       the others; repeated division rests on it, whatever h(0) is, and no inverse is needed
--   left-part_unique    for a given monic h, whatever h(0), at most one g has f = g(h); no inverse is needed
use mathlib.Core.Path.{◌≡◌, refl, sym, ap, ◌∙◌, fun_ext}
use mathlib.Core.Logic.{◌↔◌}
use mathlib.Core.List.{List, [], ◌∷◌}
use Prim.Native.Nat.{ℕ, zero, suc, ◌+◌, ◌*◌, ◌%◌, ◌≤◌, ◌<◌}
use native.Mathlib.Omega.{arith}
use native.Mathlib.Decide.{dec_lt}
use lib.ListN.{length, get_or, take, drop, length-take, get_or-eq_default}
use Rattle.algebra.specs.Polynomial.{coef, plus, times, power, after, Same, Monic}
use Rattle.algebra.proofs.Ring.{Ring, ring}
use Rattle.algebra.proofs.Series as S
use Rattle.algebra.proofs.Evaluation.{eval-plus, eval-times, ⟦◌⟧}
use Rattle.algebra.proofs.Residues.{same→equal, equal→same}
use Rattle.algebra.proofs.Polynomials.{Q, ◌⨾◌, same_refl, same_sym, monic_series, residue_at, past, after-compose, plus-same, plus-nothing, times-same, times_comm, times-nothing, times-one, monic-same}
use Rattle.algebra.proofs.Coefficients.{after-end, power-monic}
use Rattle.algebra.proofs.Moved.{Z}
use Rattle.algebra.proofs.Degrees as D

module _ (R : Ring) where
  open R use {El, ◌⊕◌, ◌⊗◌}

  shared-factor : (c t u v h : El) → c ⊕ h ⊗ (t ⊕ u ⊗ v) ≡ c ⊕ h ⊗ t ⊕ h ⊗ u ⊗ v
  shared-factor c t u v h = simp ring

-- c_0 + c_1·h + c_2·h^2 + .., for the digits c_0, c_1, ..
unfoldable pub expansion : List (List ℕ) → List ℕ → List ℕ
expansion [] h = []
expansion (c ∷ cs) h = plus c (times h (expansion cs h))

module _ (m : ℕ) (pos : 0 < m) where
  regroup : (c t u v h : List ℕ) → Same m (plus c (times h (plus t (times u v)))) (plus (plus c (times h t)) (times (times h u) v))
  regroup c t u v h = equal→same m pos (simp (eval-plus (Q m pos), eval-times (Q m pos)) (shared-factor (Q m pos) _ _ _ _ _))

  -- g(h) is its first k terms, after h, and h^k times the others, after h
  after-parts : (k : ℕ) (g h : List ℕ) → Same m (after g h) (plus (after (take k g) h) (times (power h k) (after (drop k g) h)))
  unfolding after power
  after-parts zero g h = same_sym (plus-nothing m pos _ ⨾ times-one m pos (after g h))
  after-parts (suc k) [] h = same_sym (plus-nothing m pos _ ⨾ times_comm m pos _ [] ⨾ times-nothing m pos _)
  after-parts (suc k) (a ∷ g) h = plus-same m pos (same_refl (a ∷ [])) (times-same m pos (same_refl h) (after-parts k g h)) ⨾ regroup (a ∷ []) _ _ _ h

  pub division_unique : {s : ℕ} {h u v c d : List ℕ} → Monic m s h → ((i : ℕ) → s ≤ i → coef c i % m ≡ 0 % m) → ((i : ℕ) → s ≤ i → coef d i % m ≡ 0 % m)
      → Same m (plus c (times h u)) (plus d (times h v)) → Same m u v × Same m c d
  division_unique {s} {h} {u} {v} {c} {d} mh lc ld e =
      let (a, b) = D.division_unique (Z m pos) (monic_series m pos mh) (few u (omega arith)) (few v (omega arith)) (λ i l. residue_at m pos c i 0 (lc i l)) (λ i l. residue_at m pos d i 0 (ld i l)) (sym (spread c u) ∙ same→equal m pos e ∙ spread d v) in
      (equal→same m pos a, equal→same m pos b)
    where
      n : ℕ
      n = length u + length v

      few : (p : List ℕ) → length p ≤ n → D.Deg (Z m pos) n (⟦ Z m pos ⟧ p)
      few p l = record { above = λ i b. past (Z m pos) p i (omega arith) }

      spread : (c u : List ℕ) → ⟦ Z m pos ⟧ (plus c (times h u)) ≡ S.◌⊞◌ (Z m pos) (⟦ Z m pos ⟧ c) (S.◌⊠◌ (Z m pos) (⟦ Z m pos ⟧ h) (⟦ Z m pos ⟧ u))
      spread c u = eval-plus (Q m pos) c (times h u) _ ∙ ap (S.◌⊞◌ (Z m pos) (⟦ Z m pos ⟧ c)) (eval-times (Q m pos) h u _)

  -- digits of a degree below that of h, whatever h(0) is
  pub digits_unique : {s : ℕ} {h : List ℕ} → Monic m s h → (cs ds : List (List ℕ)) → length cs ≡ length ds
      → ((i j : ℕ) → s ≤ j → coef (get_or cs i []) j % m ≡ 0 % m) → ((i j : ℕ) → s ≤ j → coef (get_or ds i []) j % m ≡ 0 % m)
      → Same m (expansion cs h) (expansion ds h) → (i : ℕ) → Same m (get_or cs i []) (get_or ds i [])
  unfolding expansion
  digits_unique mh [] [] l cl dl e i = same_refl []
  digits_unique mh [] (d ∷ ds) l cl dl e i = absurd (omega arith)
  digits_unique mh (c ∷ cs) [] l cl dl e i = absurd (omega arith)
  digits_unique mh (c ∷ cs) (d ∷ ds) l cl dl e zero = (division_unique mh (cl 0) (dl 0) e).1
  digits_unique mh (c ∷ cs) (d ∷ ds) l cl dl e (suc i) = digits_unique mh cs ds (omega arith) (λ j. cl (suc j)) (λ j. dl (suc j)) (division_unique mh (cl 0) (dl 0) e).0 i

  -- k terms, after h, end where h^(k-1) does
  pub after-short : {s : ℕ} {h : List ℕ} → 0 < s → Monic m s h → (k : ℕ) (g : List ℕ) (i : ℕ) → k * s < i + s → coef (after (take k g) h) i % m ≡ 0 % m
  unfolding after
  after-short sp mh zero g i l = refl
  after-short {s} sp mh (suc k) g i l = (after-end m pos (take (suc k) g) sp mh (λ (j : ℕ) (b : k < j). ap (λ (x : ℕ). x % m) (get_or-eq_default (take (suc k) g) 0 (omega (arith, length-take (suc k) g))))).1 i (omega arith)

  -- p = c + b·q with b = h^k and c of a degree below that of b: p = g(h) exactly if c is g's first k terms, after h, and q the others
  pub parts-after : {s : ℕ} (k : ℕ) {p c b q h : List ℕ} → 0 < s → Monic m s h → Same m b (power h k) → ((i : ℕ) → k * s ≤ i → coef c i % m ≡ 0 % m)
      → Same m p (plus c (times b q)) → (g : List ℕ) → Same m p (after g h) ↔ (Same m c (after (take k g) h) × Same m q (after (drop k g) h))
  parts-after {s} k {p} {c} {b} {q} {h} sp mh raised lc d g = (apart, together)
    where
      parts : Same m (after g h) (plus (after (take k g) h) (times b (after (drop k g) h)))
      parts = after-parts k g h ⨾ plus-same m pos (same_refl _) (times-same m pos (same_sym raised) (same_refl _))

      apart : Same m p (after g h) → Same m c (after (take k g) h) × Same m q (after (drop k g) h)
      apart e = let (x, y) = division_unique (monic-same m pos (same_sym raised) (power-monic m pos mh k)) lc (λ i l. after-short sp mh k g i (omega arith)) (same_sym d ⨾ e ⨾ parts) in (y, x)

      together : Same m c (after (take k g) h) × Same m q (after (drop k g) h) → Same m p (after g h)
      together (x, y) = d ⨾ plus-same m pos x (times-same m pos (same_refl b) y) ⨾ same_sym parts

  -- for a given monic h of degree 1 or more, at most one g
  pub left-part_unique : {s : ℕ} {h g g' : List ℕ} → 0 < s → Monic m s h → Same m (after g h) (after g' h) → Same m g g'
  left-part_unique {s} {h} {g} {g'} l c e = equal→same m pos (fun_ext (λ i. place i (dec_lt i n)))
    where
      n : ℕ
      n = length g + length g'

      place : (i : ℕ) → Dec (i < n) → ⟦ Z m pos ⟧ g i ≡ ⟦ Z m pos ⟧ g' i
      place i (yes b) = D.left_unique (Z m pos) (monic_series m pos c) l n _ _ (sym (after-compose m pos n g h (λ i l. past (Z m pos) g i (omega arith))) ∙ same→equal m pos e ∙ after-compose m pos n g' h (λ i l. past (Z m pos) g' i (omega arith))) i b
      place i (no b) = past (Z m pos) g i (omega arith) ∙ sym (past (Z m pos) g' i (omega arith))
