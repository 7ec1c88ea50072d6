-- The forced right part and its left part are the pair, or there is none.
--
--   forced-pair      a left part for the forced right part makes the normal pair
--   fits_below       degrees that fit are within the limit
--   forced-none      no left part for the forced right part: no pair at all
--   forced-refused, forced-found     so the left part's answer for it answers the split
--   inverse_left     s times an inverse of n is one of r
--   below_rows                       degrees that fit are below the table's rows
--   asked_root, asked_left           what the root and the left part are given
--   root_none, root_open             no pair at all where the root says no; what is given where it does not
--   root_apart, report_told          the quick question: a no of the root, and what the digits tell
use mathlib.Core.Path.{◌≡◌, refl, sym, ap, ◌∙◌}
use mathlib.Core.Bool.{Bool, false}
use mathlib.Core.List.{List}
use Prim.Native.Nat.{ℕ, ◌*◌, ◌-◌, ◌%◌, ◌<◌}
use native.Mathlib.Nat as N
use native.Mathlib.Omega.{arith}
use Rattle.algebra.specs.Number.{Coprime, Modulus}
use Rattle.algebra.specs.Polynomial.{limit, terms, Monic, Held}
use Rattle.algebra.specs.Pair.{NormalPair, NoPair, Report}
use Rattle.algebra.proofs.Polynomials.{◌⨾◌, same_refl, after_same}
use Rattle.algebra.proofs.Factors.{coprime-invertible}
use Rattle.algebra.proofs.Numbers.{mod-mul-mod}
use Rattle.algebra.proofs.Pairs.{no-normal-pair}
use Rattle.algebra.proofs.Report.{report_above, report_refutes}
use Rattle.algebra.proofs.RightPart as R
use Rattle.polynomial.specs.Degrees.{Degrees}
use Rattle.refusal.specs.Refusal.{Answered, Refused}
use Rattle.refusal.specs.declared.Refusal.{Refusal}
use Rattle.refusal.proofs.Outcomes.{never}
use Rattle.polynomial.specs.Answers.{Answer, nothing, no_parts}
use Rattle.left.specs.Left.{LeftPart, NoLeft, LeftAsked, LeftAnswer}
use Rattle.report.specs.Report.{LeftReport}
use Rattle.report.specs.Report as digits
use Rattle.left.specs.Left as left
use Rattle.binomial.specs.Triangle.{rows}
use Rattle.right.specs.Right.{RightAsked, RightPart, Root}
use Rattle.right.proofs.Columns.{left_twice, right_twice}
use Rattle.pair.specs.Pairing.{SplitAsked, Opened, SplitAnswer}
use Rattle.pair.specs.Pairing as of
use Rattle.pair.specs.Asking.{QuickAnswer, a_yes, a_no}
use Rattle.pair.specs.Asking as quick

pub forced-pair : {m r s : ℕ} {f g h : List ℕ} → RightPart m f r s h → LeftPart m f r h g → NormalPair m f r s g h
forced-pair right left = record {
  pair = record { left = left.monic; right = right.forced.monic; whole = left.whole };
  normal = right.forced.normal;
  reduced_left = left.reduced;
  reduced_right = right.reduced;
}

-- a degree that fits is within the limit
pub fits_below : {n r s : ℕ} → Degrees n r s → (r < terms) × (s < terms)
unfolding terms
fits_below {n} {r} {s} d = (omega (arith, d.product, N.mul-le-mul_left r d.two_right), omega (arith, d.product, N.mul-le-mul_right s d.two_left))

-- and has a row in the table
pub below_rows : {n r s : ℕ} → Degrees n r s → (r < rows) × (s < rows)
unfolding rows limit
below_rows d = (omega (arith, left_twice d, d.within), omega (arith, right_twice d, d.within))

forced-none : {m n r s : ℕ} {f h : List ℕ} → 1 < m → Degrees n r s → Coprime r m → RightPart m f r s h → NoLeft m f r h → NoPair m f r s
forced-none {m} {n} {r} {s} {f} {h} two d c right none = (no-normal-pair pos rp sp (fits_below d).0 (fits_below d).1).0 go
  where
    pos : 0 < m
    pos = omega arith

    rp : 0 < r
    rp = omega (arith, d.two_left)

    sp : 0 < s
    sp = omega (arith, d.two_right)

    -- the right part of a normal pair is the forced one, so its left part would be one for it
    go : (g k : List ℕ) → NormalPair m f r s g k → ⊥
    go g k p = none g p.pair.left (p.pair.whole ⨾ after_same m pos (same_refl g) (R.forced_unique m pos rp sp (coprime-invertible m pos c) (R.pair-forced m pos rp p.pair p.normal) right.forced))

-- what the last comparison says of the forced right part answers the split
module _ {m n r s : ℕ} {f h : List ℕ} (two : 1 < m) (d : Degrees n r s) (c : Coprime r m) (right : RightPart m f r s h) where
  pub forced-refused : (e : Refusal) → LeftAnswer m f r h (nothing (Refused e)) → SplitAnswer m f r s (no_parts (Refused e))
  unfolding nothing
  forced-refused e (left.none none k) = of.none c (forced-none two d c right none) (ap (λ (a : Answer). no_parts a.outcome) k)
  forced-refused e (left.found g k) = absurd (never refl (ap (λ (a : Answer). a.outcome) k))

  pub forced-found : {g : List ℕ} → LeftAnswer m f r h (record { outcome = Answered; polynomial = g }) → SplitAnswer m f r s (record { outcome = Answered; left = g; right = h })
  unfolding nothing
  forced-found (left.none none k) = absurd (never refl (sym (ap (λ (a : Answer). a.outcome) k)))
  forced-found (left.found g k) = of.found c (forced-pair right g) (ap (λ (a : Answer). record { outcome = a.outcome; left = a.polynomial; right = h }) k)

-- n·v = 1 and r·s = n
pub inverse_left : {m n : ℕ} (r s : ℕ) {u : ℕ} (v : ℕ) → 1 < m → r * s ≡ n → n * v % m ≡ 1 → u ≡ v * s % m → u * r % m ≡ 1 % m
inverse_left {m} {n} r s {u} v l e w q =
    let f : v * s * r ≡ r * s * v = omega arith in
    ap (λ (x : ℕ). x * r % m) q ∙ mod-mul-mod (v * s) r m ∙ ap (λ (x : ℕ). x % m) f ∙ ap (λ (x : ℕ). x * v % m) e ∙ w ∙ sym (N.mod-eq_of_lt l)

module _ {m n r s : ℕ} {f : List ℕ} (asked : SplitAsked m n r s f) where
  pub asked_root : {u : ℕ} → u * r % m ≡ 1 % m → RightAsked m n r s u f
  asked_root w = record { modulus = asked.modulus; degrees = asked.degrees; reduced = asked.whole.reduced; inverse = w }

  whole : Monic m (r * s) f
  whole = rw asked.degrees.product asked.whole.monic

  -- a no of the root
  pub root_apart : {a : List ℕ} {b : Bool} {k : ℕ} → Root m f r s a b → b ≡ false → k ≡ n - s - 1 → Report m r s f k
  root_apart R t e = rw (e, ← asked.degrees.product) ((R).no t whole)

  module _ (c : Coprime r m) where
    pub root_none : {a : List ℕ} {b : Bool} → Root m f r s a b → b ≡ false → NoPair m f r s
    root_none R t = report_refutes pos (omega (arith, asked.degrees.two_left)) (omega (arith, asked.degrees.two_right)) (coprime-invertible m pos c) whole ((R).no t whole)
      where
        pos : 0 < m
        pos = omega (arith, asked.modulus.above_one)

    pub root_open : {a : List ℕ} {b : Bool} → Root m f r s a b → Opened m n r s f a
    root_open R = record { modulus = asked.modulus; degrees = asked.degrees; whole = asked.whole; coprime = c; room = (R).room; part = (R).part }

-- the left part is looked for with the forced right part
pub asked_left : {m n r s : ℕ} {f h : List ℕ} → Modulus m → Degrees n r s → Held m n f → RightPart m f r s h → LeftAsked m n r s f h
unfolding terms
asked_left a d whole h = record { modulus = a; degrees = d; whole = whole; right = record { reduced = h.reduced; monic = h.forced.monic; within = omega (arith, (fits_below d).1) } }

-- what the digits tell: no power is 0
pub report_told : {m r s k : ℕ} {f h : List ℕ} → 0 < m → RightPart m f r s h → LeftReport m f r s h k
    → (k ≡ 0 → QuickAnswer m f r s a_yes) × ((k ≡ 0 → ⊥) → QuickAnswer m f r s (a_no k))
report_told {m} {r} {s} {k} {f} {h} pos right (digits.composes {g = g} mg w e) =
    (λ z. quick.composes {g = g} (record { left = mg; right = right.forced.monic; whole = w }) refl, λ n. absurd (n e))
report_told {m} {r} {s} {k} {f} {h} pos right (digits.differs {g = g} L d) =
    (λ z. absurd (report_above pos R 0 (z ∙ sym (N.zero-mul s))), λ n. quick.differs {k = k} R refl)
  where
    R : Report m r s f k
    R = record { g = g; h = h; forced = record { right = right.forced; left = L }; differs = d }
