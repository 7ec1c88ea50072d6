-- The lowest offending power of x, by a walk from x^0 up.
--
--   Passed m f i              the coefficients below x^i are below m
--   passed_none, passed-more  at the start, and one power further
--   offending-here            a power that offends, with all below it passed, is the lowest
--   offending_lowest          the lowest offends, and all below it are passed
--   offending-none            there is none: every coefficient is below m
--   none-offending            every coefficient is below m: there is none
use mathlib.Core.Path.{◌≡◌, refl, sym, ◌∙◌, ap, subst}
use mathlib.Core.Logic.{⊎_elim}
use mathlib.Core.List.{List, [], ◌∷◌}
use mathlib.Core.Bool.{Bool, true, false}
use Prim.Native.Nat.{ℕ, zero, suc, ◌+◌, ◌≤◌, ◌<◌}
use native.Mathlib.Nat.{not-suc-le-zero, le_of_suc-le-suc, eq-or-lt_of_le}
use native.Mathlib.Decide.{dec_le}
use native.Mathlib.Omega.{arith}
use lib.ListN.{length}
use lib.Dec.{leb, ltb}
use borrow.Author.Tests.{le-leb, lt-leb, ltb-true, ltb-false}
use Rattle.std.specs.Prelude.{Some, None, position}
use Rattle.std.specs.List.{position_or_len}
use Rattle.algebra.specs.Polynomial.{coef}
use Rattle.polynomial.specs.Checks.{offending}

-- the coefficients below x^i are below m
pub record Passed (m : ℕ) (f : List ℕ) (i : ℕ) : Type 0 where
  pub below : (j : ℕ) → j < i → coef f j < m

-- nothing is below x^0
pub passed_none : {m : ℕ} {f : List ℕ} → Passed m f 0
passed_none = record { below = λ j l. absurd (not-suc-le-zero l) }

-- one power further
pub passed-more : {m : ℕ} {f : List ℕ} {i : ℕ} → coef f i < m → Passed m f i → Passed m f (i + 1)
passed-more {m} {f} {i} h p =
    record {
      below = λ j l.
          ⊎_elim
          (λ (e : j ≡ i). subst (λ (k : ℕ). coef f k < m) (sym e) h)
          (λ (b : j < i). p.below j b)
          (eq-or-lt_of_le (omega arith));
    }

module _ {m a : ℕ} (f : List ℕ) where
  first_offends : m ≤ a → offending m (a ∷ f) ≡ 0
  unfolding offending
  first_offends h = rw (offending, le-leb _ _ h)

  first_passes : a < m → offending m (a ∷ f) ≡ suc (offending m f)
  unfolding offending
  first_passes h = rw (offending, lt-leb _ _ h)

rest : {m a : ℕ} {f : List ℕ} {i : ℕ} → Passed m (a ∷ f) (suc i) → Passed m f i
rest p = record { below = λ j l. p.below (suc j) (omega arith) }

-- a power that offends, with all below it passed, is the lowest
pub offending-here : (m : ℕ) (f : List ℕ) (i : ℕ) → i < length f → m ≤ coef f i → Passed m f i → i ≡ offending m f
offending-here m [] i l h p = absurd (not-suc-le-zero l)
offending-here m (a ∷ f) zero l h p = sym (first_offends f h)
offending-here m (a ∷ f) (suc i) l h p =
    ap suc (offending-here m f i (le_of_suc-le-suc l) h (rest p)) ∙ sym (first_passes f (p.below 0 (omega arith)))

-- every coefficient is below m: there is none
pub none-offending : (m : ℕ) (f : List ℕ) → Passed m f (length f) → offending m f ≡ length f
unfolding offending
none-offending m [] p = refl
none-offending m (a ∷ f) p = first_passes f (p.below 0 (omega arith)) ∙ ap suc (none-offending m f (rest p))

after : {m a : ℕ} {f : List ℕ} {i : ℕ} → a < m → Passed m f i → Passed m (a ∷ f) (suc i)
after {m} {a} {f} {i} h p = record { below = go }
  where
    go : (j : ℕ) → j < suc i → coef (a ∷ f) j < m
    go zero l = h
    go (suc j) l = p.below j (le_of_suc-le-suc l)

-- the search stops at a power that offends or at the end, and has passed all below
stops : (m : ℕ) (f : List ℕ) → Passed m f (offending m f) × (offending m f < length f → m ≤ coef f (offending m f))
unfolding offending
stops m [] = (passed_none, λ l. absurd (not-suc-le-zero l))
stops m (a ∷ f) = go (stops m f) (dec_le m a)
  where
    go : Passed m f (offending m f) × (offending m f < length f → m ≤ coef f (offending m f)) → Dec (m ≤ a)
        → Passed m (a ∷ f) (offending m (a ∷ f)) × (offending m (a ∷ f) < length (a ∷ f) → m ≤ coef (a ∷ f) (offending m (a ∷ f)))
    go (p, o) (yes h) = rw (first_offends f h) (passed_none, λ l. h)
    go (p, o) (no h) = rw (first_passes {m = m} {a = a} f (omega arith)) (after (omega arith) p, λ l. o (le_of_suc-le-suc l))

-- the lowest offends, and all below it are passed
pub offending_lowest : (m : ℕ) (f : List ℕ) → offending m f < length f → (m ≤ coef f (offending m f)) × Passed m f (offending m f)
offending_lowest m f l = let (p, o) = stops m f in (o l, p)

-- there is none: every coefficient is below m
pub offending-none : (m : ℕ) (f : List ℕ) → length f ≤ offending m f → Passed m f (length f)
offending-none m f l = record { below = λ j b. (stops m f).0.below j (omega arith) }

-- the first place at which a coefficient is m or more is the lowest offending power
same_place : (m : ℕ) (f : List ℕ) → position_or_len (λ a. leb m a) f ≡ offending m f
unfolding offending
same_place m [] = refl
same_place m (a ∷ f) = go (same_place m f) (leb m a) refl
  where
    go : position_or_len (λ x. leb m x) f ≡ offending m f → (t : Bool) → leb m a ≡ t → position_or_len (λ x. leb m x) (a ∷ f) ≡ offending m (a ∷ f)
    go h true e = rw (offending, e) refl
    go h false e = rw (offending, e, h) (omega arith)

-- so `position` finds it where there is one
pub position_offends : (m : ℕ) (f : List ℕ) {i : ℕ} → position (λ a. leb m a) f ≡ Some i → (i ≡ offending m f) × (i < length f)
position_offends m f {i} h = go (ltb (offending m f) (length f)) refl
  where
    go : (t : Bool) → ltb (offending m f) (length f) ≡ t → (i ≡ offending m f) × (i < length f)
    go true e = let g : Some (offending m f) ≡ Some i = rw (same_place m f, e) at h in let k : i ≡ offending m f = cc in (k, rw k (ltb-true _ _ e))
    go false e = let g : None ≡ Some i = rw (same_place m f, e) at h in cc

-- and nothing where there is none
pub position-none : (m : ℕ) (f : List ℕ) → position (λ a. leb m a) f ≡ None → length f ≤ offending m f
position-none m f h = go (ltb (offending m f) (length f)) refl
  where
    go : (t : Bool) → ltb (offending m f) (length f) ≡ t → length f ≤ offending m f
    go true e = let g : Some (offending m f) ≡ None = rw (same_place m f, e) at h in cc
    go false e = ltb-false _ _ e
