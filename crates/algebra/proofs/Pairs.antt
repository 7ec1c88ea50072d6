-- Pairs: uniqueness, normalising, the round trip, and demand 3 for one split.
--
--   left_unique, left_equal               for a given h, whether h(0) is zero or not, at most one g
--   pair_same, pair_unique                the normal pair is one, where r has an inverse
--   changed-pair-exists                   every pair has its changed pair, which is normal
--   normalised, no-normal-pair            a pair exists exactly if a normal one does
--   round_trip                            the one normal pair of what g and h compose to is (g, h)
--   split_changed, no-pair-changed        the pair of the changed f is the changed pair; one has a pair exactly if the other has
use mathlib.Core.Path.{◌≡◌, refl}
use mathlib.Core.List.{List}
use mathlib.Core.Logic.{◌↔◌}
use Prim.Native.Nat.{ℕ, ◌*◌, ◌<◌}
use Rattle.algebra.specs.Polynomial.{after, value, Same, Monic, Reduced, terms}
use Rattle.algebra.specs.Number.{Invertible}
use Rattle.algebra.specs.Pair.{Pair, Normal, NormalPair, NoPair}
use Rattle.algebra.specs.Change.{Changed, ChangedPair}
use Rattle.algebra.proofs.Polynomials.{same_refl, same_sym, ◌⨾◌, after_same}
use Rattle.algebra.proofs.Reduction.{reduced_equal}
use Rattle.algebra.proofs.Factors.{invertible-one, invertible-pow}
use Rattle.algebra.proofs.Division.{left-part_unique}
use Rattle.algebra.proofs.Leading.{right-part-leading}
use Rattle.algebra.proofs.Changes.{changed_by_nothing, changed-reduced, changed-right-reduced, changed-pair, changed-undone, undo, undoes_sym, undoes-invertible, changed-exists, changed-right-exists}

module _ {m : ℕ} (pos : 0 < m) where
  -- for a given h, whether h(0) is zero or not, at most one g
  pub left_unique : {r s : ℕ} {f g g' h : List ℕ} → 0 < s → Pair m f r s g h → Pair m f r s g' h → Same m g g'
  left_unique sp p q = left-part_unique m pos sp p.right (same_sym p.whole ⨾ q.whole)

  pub left_equal : {r s : ℕ} {f g g' h : List ℕ} → 0 < s → Reduced m g → Reduced m g' → Pair m f r s g h → Pair m f r s g' h → g ≡ g'
  left_equal sp a b p q = reduced_equal a b (left_unique sp p q)

  -- what a normal pair composes to tells the pair, modulo m
  pub pair_same : {r s : ℕ} {f g h g' h' : List ℕ} → 0 < r → 0 < s → Invertible m r → Pair m f r s g h → Normal m h → Pair m f r s g' h' → Normal m h'
      → Same m g g' × Same m h h'
  pair_same {h = h} {g' = g'} {h' = h'} rp sp i p z q z' =
      let e : Same m h h' = right-part-leading m pos rp i p.left q.left p.right q.right z z' (λ i l. (same_sym p.whole ⨾ q.whole).at i) in
      (left-part_unique m pos sp p.right (same_sym p.whole ⨾ q.whole ⨾ after_same m pos (same_refl g') (same_sym e)), e)

  -- the normal pair is one
  pub pair_unique : {r s : ℕ} {f g h g' h' : List ℕ} → 0 < r → 0 < s → Invertible m r → NormalPair m f r s g h → NormalPair m f r s g' h'
      → (g ≡ g') × (h ≡ h')
  pair_unique rp sp i p q =
      let (a, b) = pair_same rp sp i p.pair p.normal q.pair q.normal in
      (reduced_equal p.reduced_left q.reduced_left a, reduced_equal p.reduced_right q.reduced_right b)

  -- the changed pair of any pair is there, and is a normal pair of the changed polynomial
  pub changed-pair-exists : {n r s a b : ℕ} {f f' g h : List ℕ} → 0 < r → 0 < s → r < terms → s < terms → r * s ≡ n → Invertible m a
      → Pair m f r s g h → Changed m n a b f f'
      → (g' h' : List ℕ) × ChangedPair m r s a b g h g' h' × NormalPair m f' r s g' h'
  changed-pair-exists {r = r} {s = s} {a = a} {b = b} {g = g} {h = h} rp sp rl sl e i p c =
      let (h', mh, z, rh, right) = changed-right-reduced pos b sp sl i p.right in
      let (g', mg, rg, left) = changed-reduced pos (value h b) rp rl (invertible-pow i s) p.left in
      let d : ChangedPair m r s a b g h g' h' = record { left = left; right = right } in
      (g', h', d, record { pair = changed-pair pos rp sp e i p c d; normal = z; reduced_left = rg; reduced_right = rh })

  -- any pair becomes normal: the change (1, 0) does it
  pub normalised : {r s : ℕ} {f g h : List ℕ} → 0 < r → 0 < s → r < terms → s < terms → Pair m f r s g h → (g' h' : List ℕ) × NormalPair m f r s g' h'
  normalised {f = f} rp sp rl sl p = let (g', h', d, n) = changed-pair-exists rp sp rl sl refl (invertible-one m) p (changed_by_nothing pos f) in (g', h', n)

  pub no-normal-pair : {r s : ℕ} {f : List ℕ} → 0 < r → 0 < s → r < terms → s < terms → ((g h : List ℕ) → NormalPair m f r s g h → ⊥) ↔ NoPair m f r s
  no-normal-pair rp sp rl sl = (λ k g h p. let (g', h', n) = normalised rp sp rl sl p in k g' h' n, λ k g h n. k g h n.pair)

  -- the round trip: the one normal pair of what g and h compose to is (g, h)
  pub round_trip : {r s : ℕ} {f g h g' h' : List ℕ} → 0 < r → 0 < s → Invertible m r
      → Reduced m g → Reduced m h → Monic m r g → Monic m s h → Normal m h → Same m f (after g h)
      → NormalPair m f r s g' h' → (g' ≡ g) × (h' ≡ h)
  round_trip rp sp i rg rh mg mh z e p = pair_unique rp sp i p (record { pair = record { left = mg; right = mh; whole = e }; normal = z; reduced_left = rg; reduced_right = rh })

  -- demand 3 for one split: the normal pair of the changed polynomial is the changed pair
  pub split_changed : {n r s a b : ℕ} {f f' g h g' h' : List ℕ} → 0 < r → 0 < s → r < terms → s < terms → r * s ≡ n → Invertible m r → Invertible m a
      → Changed m n a b f f' → NormalPair m f r s g h → NormalPair m f' r s g' h' → ChangedPair m r s a b g h g' h'
  split_changed {r = r} {s = s} {a = a} {b = b} {g = g} {h = h} rp sp rl sl e ir i c p q =
      let (k, l, d, n) = changed-pair-exists rp sp rl sl e i p.pair c in
      let (x, y) = pair_unique rp sp ir n q in
      rw (← x, ← y) d

  -- and one has a pair exactly if the other has
  pub no-pair-changed : {n r s a b : ℕ} {f f' : List ℕ} → 0 < r → 0 < s → r * s ≡ n → Invertible m a → Changed m n a b f f' → NoPair m f r s ↔ NoPair m f' r s
  no-pair-changed {n} {r} {s} {a} {b} {f} {f'} rp sp e i c = (λ k g h p. k _ _ (let (u, v, d) = undo pos b i in (across (undoes-invertible pos (undoes_sym pos d)) (changed-undone pos d c) p).2), λ k g h p. k _ _ (across i c p).2)
    where
      across : {a b : ℕ} {f f' g h : List ℕ} → Invertible m a → Changed m n a b f f' → Pair m f r s g h → (g' h' : List ℕ) × Pair m f' r s g' h'
      across {b = b} {g = g} {h = h} i c p =
          let (h', mh, z, right) = changed-right-exists pos b sp i p.right in
          let (g', left) = changed-exists pos r (value h b) g (invertible-pow i s) in
          (g', h', changed-pair pos rp sp e i p c (record { left = left; right = right }))
