-- The report of request No. 7: the highest power at which the forced pair, composed, and f differ.
--
--   forced-top         the forced pair agrees with f at the s leading terms
--   forced-differs     another left part may tell it, where it differs from f at no power x^(is)
--   report_above       the report is no power x^(is), so never 0
--   one_less, report_low    x^(n-s) is a power x^(is), and the report is below it
--   nearest            no pair whatever agrees with f above a lower power: the report needs no forced pair to be said
--   report_unique      so there is one
--   report_refutes     where there is one, there is no pair
--   forced-pair_unique the forced pair is one
--   report_changed     a change keeps it (demand 3)
use mathlib.Core.Path.{◌≡◌, refl, sym, ap, ◌∙◌}
use mathlib.Core.List.{List, [], ◌∷◌}
use Prim.Native.Nat.{ℕ, zero, suc, ◌+◌, ◌*◌, ◌^◌, ◌-◌, ◌/◌, ◌%◌, ◌≤◌, ◌<◌}
use native.Mathlib.Nat as N
use native.Mathlib.Omega.{arith}
use native.Mathlib.Decide.{dec_lt}
use Rattle.algebra.specs.Number.{Invertible}
use Rattle.algebra.specs.Polynomial.{coef, after, value, Same, Monic}
use Rattle.algebra.specs.Pair.{Pair, Normal, NoPair, ForcedRight, ForcedLeft, ForcedPair, Differs, Report}
use Rattle.algebra.specs.Change.{Changed}
use Rattle.algebra.proofs.Polynomials.{same_refl, ◌⨾◌, after_same}
use Rattle.algebra.proofs.Numbers.{number_cancel}
use Rattle.algebra.proofs.Coefficients.{coef-scaled}
use Rattle.algebra.proofs.Moved.{line-end}
use Rattle.algebra.proofs.Factors.{invertible-one, invertible-pow}
use Rattle.algebra.proofs.Leading.{right-part-leading}
use Rattle.algebra.proofs.Changes.{changed_by_nothing, changed-pair, changed-exists, changed-right-exists, changed-undone, undo, undoes_sym, undoes-invertible}
use Rattle.algebra.proofs.ForcedPair.{minus, after_minus, level, equal, left-forced, leading}
use Rattle.algebra.proofs.RightPart.{forced-leading, forced_unique}
use Rattle.algebra.proofs.Agreement.{forced_agree}

pub one_less : (r s : ℕ) → (r - 1) * s ≡ r * s - s
one_less zero s = omega arith
one_less (suc r) s = let e : suc r - 1 ≡ r = omega arith in rw e (omega arith)

module _ {m : ℕ} (pos : 0 < m) where
  pub forced-top : {r s : ℕ} {f g h : List ℕ} → 0 < r → 0 < s → Monic m (r * s) f → ForcedRight m r s f h → Monic m r g
      → (i : ℕ) → r * s < i + s → coef f i % m ≡ coef (after g h) i % m
  forced-top rp sp mf R mg = leading m pos sp refl mf mg R.monic (forced-leading m pos rp R mg)

  -- k is a place inside the q-th digit
  pub forced-differs : {r s k : ℕ} (q : ℕ) {f g : List ℕ} (g' : List ℕ) {h : List ℕ} → 0 < s → Monic m s h → ForcedLeft m r s f h g → q * s < k → k < suc q * s
      → Differs m f (after g' h) k → Differs m f (after g h) k
  forced-differs q g' sp mh F l u d = record {
    above = λ i b. d.above i b ∙ sym (forced_agree m pos q g' sp mh u F d.above i (omega arith));
    here = λ e. d.here (e ∙ forced_agree m pos q g' sp mh u F d.above _ l);
  }

  pub report_above : {r s k : ℕ} {f : List ℕ} → Report m r s f k → (i : ℕ) → ¬ (k ≡ i * s)
  report_above R i e = R.differs.here (rw e (sym (R.forced.left.forced i)))

  pub report_low : {r s k : ℕ} {f : List ℕ} → 0 < r → 0 < s → Monic m (r * s) f → Report m r s f k → k + s < r * s
  report_low {r} {s} {k} rp sp mf R = go (dec_lt (r * s) (k + s)) (dec_lt (k + s) (r * s))
    where
      go : Dec (r * s < k + s) → Dec (k + s < r * s) → k + s < r * s
      go (yes l) b = absurd (R.differs.here (forced-top rp sp mf R.forced.right R.forced.left.monic k l))
      go (no l) (yes b) = b
      go (no l) (no b) = absurd (report_above R (r - 1) (omega (arith, one_less r s)))

  -- any pair becomes normal: the change (1, 0) does it
  normal : {r s : ℕ} {g h : List ℕ} → 0 < r → 0 < s → Monic m r g → Monic m s h
      → (g' h' : List ℕ) × Pair m (after g h) r s g' h' × Normal m h'
  normal {r} {s} {g} {h} rp sp mg mh =
      let (h', mh', z, right) = changed-right-exists pos 0 sp (invertible-one m) mh in
      let (g', left) = changed-exists pos r (value h 0) g (invertible-pow (invertible-one m) s) in
      (g', h', changed-pair pos rp sp refl (invertible-one m) (record { left = mg; right = mh; whole = same_refl (after g h) }) (changed_by_nothing pos (after g h)) (record { left = left; right = right }), z)

  pub nearest : {r s p k : ℕ} {f g' h' : List ℕ} → 0 < r → 0 < s → Invertible m r → Monic m (r * s) f → Report m r s f p
      → Monic m r g' → Monic m s h' → ((i : ℕ) → k < i → coef f i % m ≡ coef (after g' h') i % m) → p ≤ k
  nearest {r} {s} {p} {k} {f} {g'} {h'} rp sp inv mf R mg' mh' e = side (dec_lt k p)
    where
      F : ForcedPair m r s f R.g R.h
      F = R.forced

      d : Differs m f (after R.g R.h) p
      d = R.differs

      side : Dec (k < p) → p ≤ k
      side (no b) = omega arith
      side (yes b) =
          let bound : p + s < r * s = report_low rp sp mf R in
          let (g'', h'', P, z) = normal rp sp mg' mh' in
          let right : Same m h'' R.h = right-part-leading m pos rp inv P.left F.left.monic P.right F.right.monic z F.right.normal
          (λ i l. sym (P.whole.at i) ∙ sym (e i (omega arith)) ∙ forced-top rp sp mf F.right F.left.monic i l) in
          let w : Same m (after g' h') (after g'' R.h) = P.whole ⨾ after_same m pos (same_refl g'') right in
          absurd (d.here (e p b ∙ w.at p ∙ sym (forced_agree m pos (k / s) g'' sp F.right.monic (omega (arith, N.div-add-mod' k s, N.mod-lt k sp)) F.left (λ i l. e i l ∙ w.at i) p (omega (arith, N.div-add-mod' k s)))))

  pub report_unique : {r s p q : ℕ} {f : List ℕ} → 0 < r → 0 < s → Invertible m r → Monic m (r * s) f → Report m r s f p → Report m r s f q → p ≡ q
  report_unique {r} {s} {f = f} rp sp inv mf R T = N.le_antisymm (near R T) (near T R)
    where
      near : {p q : ℕ} → Report m r s f p → Report m r s f q → p ≤ q
      near R T = nearest rp sp inv mf R T.forced.left.monic T.forced.right.monic T.differs.above

  pub report_refutes : {r s p : ℕ} {f : List ℕ} → 0 < r → 0 < s → Invertible m r → Monic m (r * s) f → Report m r s f p → NoPair m f r s
  report_refutes {s = s} rp sp inv mf R g' h' P =
      let l = nearest {k = 0} rp sp inv mf R P.left P.right (λ i b. P.whole.at i) in
      report_above R 0 (omega (arith, l, N.zero-mul s))

  pub forced-pair_unique : {r s : ℕ} {f g h g' h' : List ℕ} → 0 < r → 0 < s → Invertible m r → ForcedPair m r s f g h → ForcedPair m r s f g' h' → Same m g g' × Same m h h'
  forced-pair_unique {s = s} {g' = g'} rp sp inv F G =
      let right = forced_unique m pos rp sp inv F.right G.right in
      (left-forced m pos sp F.right.monic (λ j. F.left.forced j ∙ sym (G.left.forced j) ∙ sym ((after_same m pos (same_refl g') right).at (j * s))), right)

  -- what agrees above x^k still does after a change
  changed_agree : {n a b k : ℕ} (f p : List ℕ) {f' p' : List ℕ} → Invertible m a → Changed m n a b f f' → Changed m n a b p p'
      → ((i : ℕ) → k < i → coef f i % m ≡ coef p i % m) → (i : ℕ) → k < i → coef f' i % m ≡ coef p' i % m
  changed_agree {n} {a} {b} {k} f p {f'} {p'} inv c d e i l = number_cancel (coef f' i) (coef p' i) (invertible-pow inv n) (at c ∙ same ∙ sym (at d))
    where
      at : {f f' : List ℕ} → Changed m n a b f f' → a ^ n * coef f' i % m ≡ coef (after f (b ∷ a ∷ [])) i % m
      at {f} {f'} c = ap (λ (x : ℕ). x % m) (sym (coef-scaled (a ^ n) f' i)) ∙ c.same.at i

      same : coef (after f (b ∷ a ∷ [])) i % m ≡ coef (after p (b ∷ a ∷ [])) i % m
      same = equal m pos (after f (b ∷ a ∷ [])) (after p (b ∷ a ∷ [])) i (sym ((after_minus m pos f p (b ∷ a ∷ [])).at i) ∙ line-end m pos k (minus m pos f p) a b (λ j g. level m pos f p j (e j g)) i l)

  -- the changed pair is as near to the changed f
  changed_near : {n r s a b p q : ℕ} {f f' : List ℕ} → 0 < r → 0 < s → r * s ≡ n → Invertible m r → Invertible m a → Monic m (r * s) f' → Changed m n a b f f'
      → Report m r s f p → Report m r s f' q → q ≤ p
  changed_near {r = r} {s = s} {b = b} {f = f} rp sp e inv i mf' c R T =
      let (h'', mh, z, right) = changed-right-exists pos b sp i R.forced.right.monic in
      let (g'', left) = changed-exists pos r (value R.h b) R.g (invertible-pow i s) in
      let (w, cw) = changed-exists pos _ b (after R.g R.h) i in
      let P = changed-pair pos rp sp e i (record { left = R.forced.left.monic; right = R.forced.right.monic; whole = same_refl (after R.g R.h) }) cw (record { left = left; right = right }) in
      nearest rp sp inv mf' T P.left P.right (λ j l. changed_agree f (after R.g R.h) i c cw R.differs.above j l ∙ P.whole.at j)

  pub report_changed : {n r s a b p q : ℕ} {f f' : List ℕ} → 0 < r → 0 < s → r * s ≡ n → Invertible m r → Invertible m a → Monic m (r * s) f → Monic m (r * s) f'
      → Changed m n a b f f' → Report m r s f p → Report m r s f' q → p ≡ q
  report_changed {b = b} rp sp e inv i mf mf' c R T =
      let (u, v, w) = undo pos b i in
      N.le_antisymm (changed_near rp sp e inv (undoes-invertible pos (undoes_sym pos w)) mf (changed-undone pos w c) T R) (changed_near rp sp e inv i mf' c R T)
