-- Polynomials of a few places as the desk holds them, and what the operations answer for them.
--
--   padded-at, padded-same                  padding adds no coefficient
--   Taken m n p, taken                        the desk takes p, padded, and n is its degree: by computation
--   pair-padded, chainable_padded           a pair of it; as the chain takes it
--   split_found, split_none, split_shared   the answer to a split of f, padded, from a pair, from "no pair", from a shared factor
--   left-found, left-none                   the answer to: the left part of f for h
--   changes_to                              the answer to a change of f
--   composes_to                             the answer to: compose g and h
use mathlib.Core.Path.{◌≡◌, refl, sym, ap, ◌∙◌}
use mathlib.Core.Bool.{true}
use mathlib.Core.List.{List, [], ◌∷◌, ◌++◌}
use Prim.Native.Nat.{ℕ, zero, suc, ◌*◌, ◌-◌, ◌%◌, ◌^◌, ◌≤◌, ◌<◌}
use native.Mathlib.Omega.{arith}
use borrow.Author.Tests.{ltb-true}
use lib.Dec.{ltb}
use lib.ListN.{length, replicate}
use Rattle.algebra.specs.Number.{Coprime, Invertible}
use Rattle.algebra.specs.Polynomial.{coef, after, degree, terms, limit, Same, Monic}
use Rattle.algebra.specs.Pair.{Normal, NormalPair}
use Rattle.algebra.specs.Pair as pair
use Rattle.algebra.specs.Change.{Changed}
use Rattle.algebra.proofs.Polynomials.{◌⨾◌, same_refl, same_sym, after_same, scaled-same}
use Rattle.algebra.proofs.Reduction.{reduced_equal}
use Rattle.algebra.proofs.Factors.{invertible-coprime}
use Rattle.algebra.proofs.Complete.{Chainable}
use Rattle.refusal.specs.declared.Reason.TheVariants.{Factor, NoPair}
use Rattle.refusal.specs.Refusal.{Answered}
use Rattle.polynomial.specs.Checks.{check_one, Accepted}
use Rattle.round.proofs.Asking.{accepted_chainable}
use Rattle.polynomial.specs.Degrees.{Degrees}
use Rattle.polynomial.proofs.Acceptance.{accepted-one, one-accepted, degree-fits}
use Rattle.left.specs.Left.{NoLeft}
use Rattle.left.specs.Left as left
use Rattle.polynomial.proofs.Filling.{zeros}
use Rattle.composition.specs.Composition.{composition}
use Rattle.pair.specs.Pairing as pairing
use Rattle.pair.proofs.Determined.{left-answered, split_answered, composed-is, composed-reduced, composed-same}
use Rattle.change.specs.Changing as changing
use Rattle.demands.specs.Cases.{padded, splits, split_refused, left_part, left_refused, changes, composes, Holds, split_is, split_is_refused, left_part_is, left_is_refused, change_is, composition_is}

zeros_after : (p : List ℕ) (k i : ℕ) → coef (p ++ replicate k 0) i ≡ coef p i
zeros_after [] k i = zeros k i
zeros_after (a ∷ p) k zero = refl
zeros_after (a ∷ p) k (suc i) = zeros_after p k i

-- padding adds no coefficient
padded-at : (p : List ℕ) (i : ℕ) → coef (padded p) i ≡ coef p i
unfolding padded
padded-at p i = zeros_after p (terms - length p) i

padded-same : {m : ℕ} (p : List ℕ) → Same m p (padded p)
padded-same {m} p = record { at = λ i. ap (λ (c : ℕ). c % m) (sym (padded-at p i)) }

-- the desk takes p, padded, and n is its degree
pub record Taken (m n : ℕ) (p : List ℕ) : Type 0 where
  pub accepted : Accepted m (padded p)
  pub has : degree (padded p) ≡ n

pub taken : (m n : ℕ) (p : List ℕ) → length (padded p) ≡ terms → check_one m (padded p) ≡ Answered → degree (padded p) ≡ n → Taken m n p
taken m n p l e d = record { accepted = accepted-one l e; has = d }

module _ {m n : ℕ} {p : List ℕ} (a : Taken m n p) where
  positive : 0 < m
  unfolding terms
  positive = omega (arith, a.accepted.reduced.below 0 (omega arith))

  monic : Monic m n (padded p)
  monic = rw a.has at a.accepted.monic

  two : 2 ≤ n
  two = rw a.has at a.accepted.two

-- f = g(h), padded
composed-padded : {m : ℕ} → 0 < m → (f g h : List ℕ) → Same m f (after g h) → Same m (padded f) (after (padded g) (padded h))
composed-padded {m} pos f g h w = same_sym (padded-same f) ⨾ w ⨾ after_same m pos (padded-same g) (padded-same h)

-- degrees that multiply to that of f fit
fit : {m n r s : ℕ} {f : List ℕ} → Taken m n f → 2 ≤ r → 2 ≤ s → r * s ≡ n → Degrees (degree (padded f)) r s
fit a l k e = record { product = e ∙ sym a.has; within = degree-fits a.accepted; two_left = l; two_right = k }

module _ {m n r s : ℕ} {f : List ℕ} (a : Taken m n f) (l : 2 ≤ r) (k : 2 ≤ s) (e : r * s ≡ n) where
  pub split_shared : (Coprime r m → ⊥) → Holds (split_refused m f r 5)
  split_shared d = split_is_refused Factor (split_answered a.accepted (fit a l k e) (pairing.shared d refl))

  pub split_none : Invertible m r → pair.NoPair m f r s → Holds (split_refused m f r 7)
  split_none i n = split_is_refused NoPair (split_answered a.accepted (fit a l k e) (pairing.none (invertible-coprime m (positive a) i)
      (λ g h p. n g h (record { left = p.left; right = p.right; whole = padded-same f ⨾ p.whole })) refl))

-- the pair g, h of f, padded
pub pair-padded : {m n r s : ℕ} {f g h : List ℕ} → Taken m n f → Taken m r g → Taken m s h → Normal m h → Same m f (after g h) → NormalPair m (padded f) r s (padded g) (padded h)
pair-padded {m} {f = f} {g = g} {h = h} a b c z w = record {
  pair = record { left = monic b; right = monic c; whole = composed-padded (positive a) f g h w };
  normal = record { constant = ap (λ (x : ℕ). x % m) (padded-at h 0) ∙ z.constant };
  reduced_left = b.accepted.reduced;
  reduced_right = c.accepted.reduced;
}

-- f, padded, as the chain takes it
pub chainable_padded : {m n : ℕ} {f : List ℕ} → Taken m n f → Invertible m n → Chainable m n (padded f)
chainable_padded {m} a i = rw a.has at (accepted_chainable a.accepted (rw a.has (invertible-coprime m (positive a) i)))

pub split_found : {m n r s : ℕ} {f g h : List ℕ} → Taken m n f → Taken m r g → Taken m s h → r * s ≡ n → Invertible m r → Normal m h → Same m f (after g h)
    → Holds (splits m f r g h)
split_found {m} {g = g} {h = h} a b c e i z w =
    split_is (split_answered a.accepted (fit a (two b) (two c) e) (pairing.found {g = padded g} {h = padded h} (invertible-coprime m (positive a) i) (pair-padded a b c z w) refl))

module _ {m n r s : ℕ} {f h : List ℕ} (a : Taken m n f) (b : Taken m s h) (l : 2 ≤ r) (e : r * s ≡ n) where
  fits_for : Degrees (degree (padded f)) r (degree (padded h))
  fits_for = rw b.has (fit a l (two b) e)

  pub left-none : NoLeft m f r h → Holds (left_refused m f h 7)
  left-none n = left_is_refused NoPair (left-answered a.accepted b.accepted fits_for
      (left.none (λ g k w. n g k (padded-same f ⨾ w ⨾ after_same m (positive a) (same_refl g) (same_sym (padded-same h)))) refl))

pub left-found : {m n r s : ℕ} {f h g : List ℕ} → Taken m n f → Taken m s h → Taken m r g → r * s ≡ n → Same m f (after g h) → Holds (left_part m f h g)
left-found {m} {f = f} {h = h} {g = g} a b c e w =
    left_part_is (left-answered a.accepted b.accepted (fits_for a b (two c) e)
    (left.found {g = padded g} (record { reduced = c.accepted.reduced; monic = monic c; whole = composed-padded (positive a) f g h w }) refl))

pub changes_to : {m n a b : ℕ} {f f' : List ℕ} → Taken m n f → Taken m n f' → ltb a m ≡ true → ltb b m ≡ true → Invertible m a → Changed m n a b f f' → Holds (changes m f a b f')
changes_to {m} {n} {a} {b} {f} {f'} x y l k i c = change_is (changing.changed {f' = padded f'} (one-accepted x.accepted)
    (record { unit_below = ltb-true a m l; origin_below = ltb-true b m k; invertible = invertible-coprime m (positive x) i }) y.accepted.reduced
    (rw x.has (record {
      same = scaled-same m (positive x) (a ^ n) (same_sym (padded-same f')) ⨾ c.same ⨾ after_same m (positive x) (padded-same f) (same_refl (b ∷ a ∷ []));
    })) refl)

pub composes_to : {m n r s : ℕ} {g h f : List ℕ} → Taken m r g → Taken m s h → Taken m n f → r * s ≡ n → Same m f (after g h) → Holds (composes m g h f)
composes_to {m} {n} {r} {s} {g} {h} {f} b c a e w =
    composition_is (composed-is b.accepted c.accepted within ∙ ap (λ (p : List ℕ). record { outcome = Answered; polynomial = p }) same)
  where
    within : degree (padded g) * degree (padded h) ≤ limit
    within = rw (b.has, c.has, e, ← a.has) (degree-fits a.accepted)

    same : composition m (padded g) (padded h) ≡ padded f
    same = reduced_equal (composed-reduced b.accepted c.accepted within) a.accepted.reduced
        (same_sym (composed-same b.accepted c.accepted within) ⨾ same_sym (composed-padded (positive a) f g h w))
