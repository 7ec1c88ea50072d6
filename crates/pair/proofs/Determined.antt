-- The contracts determine the answers, and composing and splitting go together.
--
--   compose_determined       two answers to: compose g and h, are equal
--   one_left, one_split      two answers to: the left part, and to a split, past the checks are equal
--   left-part_determined     two answers to: the left part, are equal
--   split_determined         two answers to: a split, are equal
--   split_accepted, split_modulus, split_given     what passes the checks of a split, and what the search is given then
--   degrees_swap             r and s fit as s and r do
--   accepted-left, accepted_split                      what is accepted, with degrees that fit, passes the checks of the left part, of a split
--   left-answered, split_answered                      and gets the answer of these degrees
--   composed-is, composed-reduced, composed-same       what is answered for a pair within the limit; it is reduced, and is g(h)
--   round_trip               composing a pair with h(0) = 0 and splitting it at r gives that pair back
use mathlib.Core.Path.{◌≡◌, refl, sym, ap, ap₂, ◌∙◌}
use mathlib.Core.List.{List}
use Prim.Native.Nat.{ℕ, ◌*◌, ◌/◌, ◌≤◌, ◌<◌}
use native.Mathlib.Nat as N
use native.Mathlib.Omega.{arith}
use lib.ListN.{length}
use Rattle.algebra.specs.Number.{Coprime, Modulus}
use Rattle.algebra.specs.Polynomial.{after, degree, terms, limit, Same, Monic, Reduced}
use Rattle.algebra.specs.Pair.{Normal, NormalPair}
use Rattle.algebra.proofs.Polynomials.{same_sym, monic-same}
use Rattle.algebra.proofs.Coefficients.{after-monic}
use Rattle.algebra.proofs.Reduction.{reduced-reduced, reduced-same, degree-monic}
use Rattle.algebra.proofs.Factors.{coprime-invertible}
use Rattle.algebra.proofs.Pairs as P
use Rattle.refusal.specs.Refusal.{Answered}
use Rattle.refusal.proofs.Outcomes.{never, then_both, refuse-answered}
use Rattle.polynomial.specs.Checks.{check_one, check_two, Accepted}
use Rattle.polynomial.specs.Answers.{nothing, no_parts}
use Rattle.polynomial.specs.Degrees.{Degrees}
use Rattle.polynomial.specs.Answers.{Answer}
use Rattle.polynomial.specs.Answers.{Parts}
use Rattle.polynomial.proofs.Acceptance.{accepted-modulus, accepted-one, accepted_as, one-accepted, accepted-two, two-accepted, accepted-above, degree-fits, pair-accepted}
use Rattle.left.specs.Left.{LeftAnswer}
use Rattle.left.specs.Left as left
use Rattle.composition.specs.Composition.{composition}
use Rattle.pair.specs.Pairing.{compose, check_left, LeftPartOf, check_split, SplitAnswer, Splits, SplitAsked}
use Rattle.pair.specs.Pairing as of
use Rattle.pair.proofs.Fitting.{fits-degrees, degrees_fit}
use borrow.Author.Tests.{not-false}

pub compose_determined : (m : ℕ) (g h : List ℕ) {x y : Answer} → x ≡ compose m g h → y ≡ compose m g h → x ≡ y
compose_determined m g h p q = p ∙ sym q

-- past the checks
one_left : {m r s : ℕ} {f h : List ℕ} {x y : Answer} → 1 < m → 2 ≤ s → Monic m s h → LeftAnswer m f r h x → LeftAnswer m f r h y → x ≡ y
one_left one two k (left.none n p) (left.none l q) = p ∙ sym q
one_left one two k (left.none n p) (left.found {g = g} l q) = absurd (n g l.monic l.whole)
one_left one two k (left.found {g = g} n p) (left.none l q) = absurd (l g n.monic n.whole)
one_left one two k (left.found n p) (left.found l q) =
    let same = P.left_equal (omega arith) (omega arith) n.reduced l.reduced
    (record { left = n.monic; right = k; whole = n.whole }) (record { left = l.monic; right = k; whole = l.whole }) in
    p ∙ ap (λ (g : List ℕ). record { outcome = Answered; polynomial = g }) same ∙ sym q

one_split : {m n r s : ℕ} {f : List ℕ} {x y : Parts} → 1 < m → Degrees n r s → SplitAnswer m f r s x → SplitAnswer m f r s y → x ≡ y
one_split one d (of.shared c p) (of.shared w q) = p ∙ sym q
one_split one d (of.shared c p) (of.none w l q) = absurd (c w)
one_split one d (of.shared c p) (of.found w l q) = absurd (c w)
one_split one d (of.none c n p) (of.shared w q) = absurd (w c)
one_split one d (of.none c n p) (of.none w l q) = p ∙ sym q
one_split one d (of.none c n p) (of.found w l q) = absurd (n _ _ l.pair)
one_split one d (of.found c n p) (of.shared w q) = absurd (w c)
one_split one d (of.found c n p) (of.none w l q) = absurd (l _ _ n.pair)
one_split {m} one d (of.found c n p) (of.found w l q) =
    let (a, b) = P.pair_unique (omega arith) (omega (arith, d.two_left)) (omega (arith, d.two_right)) (coprime-invertible m (omega arith) c) n l in
    p ∙ ap₂ (λ (g h : List ℕ). record { outcome = Answered; left = g; right = h }) a b ∙ sym q

-- r and s fit as s and r do
pub degrees_swap : {n r s : ℕ} → Degrees n r s → Degrees n s r
degrees_swap {n} {r} {s} d = record { product = N.mul_comm s r ∙ d.product; within = d.within; two_left = d.two_right; two_right = d.two_left }

-- what is accepted, with degrees that fit, passes the checks of the left part
pub accepted-left : {m r : ℕ} {f h : List ℕ} → Accepted m f → Accepted m h → Degrees (degree f) r (degree h) → check_left m f h ≡ Answered
unfolding check_left
accepted-left a b d = rw (two-accepted a b, (degrees_fit (degrees_swap d)).0)

-- and of a split
pub accepted_split : {m r s : ℕ} {f : List ℕ} → Accepted m f → Degrees (degree f) r s → check_split m f r ≡ Answered
unfolding check_split
accepted_split a d = rw (one-accepted a, (degrees_fit d).0)

-- and gets the answer of these degrees
pub left-answered : {m r : ℕ} {f h : List ℕ} {x : Answer} → Accepted m f → Accepted m h → Degrees (degree f) r (degree h) → LeftAnswer m f r h x → LeftPartOf m f h x
left-answered a b d k = of.answered (accepted-left a b d) (rw (degrees_fit (degrees_swap d)).1 k)

pub split_answered : {m r s : ℕ} {f : List ℕ} {x : Parts} → Accepted m f → Degrees (degree f) r s → SplitAnswer m f r s x → Splits m f r x
split_answered a d k = of.answered (accepted_split a d) (rw (degrees_fit d).1 k)

module _ {m : ℕ} {f h : List ℕ} (lf : length f ≡ terms) (lh : length h ≡ terms) where
  -- what passes the checks of the left part
  left-accepted : check_left m f h ≡ Answered → Accepted m f × Accepted m h × Degrees (degree f) (degree f / degree h) (degree h)
  unfolding check_left
  left-accepted e =
      let (two, six) = then_both (check_two m f h) _ e in
      let (a, b) = accepted-two lf lh two in
      (a, b, (fits-degrees _ _ (not-false _ (refuse-answered _ _ _ six)) (degree-fits a)).0)

  pub left-part_determined : {x y : Answer} → LeftPartOf m f h x → LeftPartOf m f h y → x ≡ y
  left-part_determined (of.refused e p) (of.refused k q) = p ∙ ap nothing (sym e ∙ k) ∙ sym q
  left-part_determined (of.refused e p) (of.answered k b) = absurd (never e k)
  left-part_determined (of.answered e a) (of.refused k q) = absurd (never k e)
  left-part_determined (of.answered e a) (of.answered k b) = let (t, u, d) = left-accepted e in one_left (accepted-above u) u.two u.monic a b

module _ {m : ℕ} {f : List ℕ} {r : ℕ} (lf : length f ≡ terms) where
  -- what passes the checks of a split
  pub split_accepted : check_split m f r ≡ Answered → Accepted m f × Degrees (degree f) r (degree f / r)
  unfolding check_split
  split_accepted e =
      let (one, six) = then_both (check_one m f) _ e in
      let a = accepted-one lf one in
      (a, (fits-degrees _ _ (not-false _ (refuse-answered _ _ _ six)) (degree-fits a)).1)

  -- and what the search is given then
  pub split_given : {n : ℕ} → check_split m f r ≡ Answered → n ≡ degree f → SplitAsked m n r (n / r) f
  split_given e n-is =
      let (a, d) = split_accepted e in
      let (w, held, two) = accepted_as n-is a in
      record { modulus = w; degrees = rw n-is d; whole = held }

  pub split_determined : {x y : Parts} → Splits m f r x → Splits m f r y → x ≡ y
  split_determined (of.refused e p) (of.refused k q) = p ∙ ap no_parts (sym e ∙ k) ∙ sym q
  split_determined (of.refused e p) (of.answered k b) = absurd (never e k)
  split_determined (of.answered e a) (of.refused k q) = absurd (never k e)
  split_determined (of.answered e a) (of.answered k b) = let (t, d) = split_accepted e in one_split (accepted-above t) d a b

-- the modulus, too
pub split_modulus : {m : ℕ} (f : List ℕ) (r : ℕ) → length f ≡ terms → check_split m f r ≡ Answered → Modulus m
split_modulus f r long e = accepted-modulus (split_accepted {f = f} {r = r} long e).0.modulus

-- composing and splitting
module _ {m : ℕ} {g h : List ℕ} (ag : Accepted m g) (ah : Accepted m h) (fit : degree g * degree h ≤ limit) where
  one : 1 < m
  one = accepted-above ag

  pos : 0 < m
  pos = let l = one in omega arith

  whole : Monic m (degree g * degree h) (after g h)
  whole = after-monic m pos (omega (arith, ah.two)) ag.monic ah.monic

  pub composed-is : compose m g h ≡ record { outcome = Answered; polynomial = composition m g h }
  unfolding compose
  composed-is = rw (pair-accepted ag ah fit)

  pub composed-reduced : Reduced m (composition m g h)
  unfolding composition
  composed-reduced = reduced-reduced m pos (after g h)

  pub composed-same : Same m (after g h) (composition m g h)
  unfolding composition terms
  composed-same = reduced-same m pos (after g h) (λ i l. whole.above i (omega arith))

  composed-monic : Monic m (degree g * degree h) (composition m g h)
  composed-monic = monic-same m pos composed-same whole

  pub composed-degree : degree (composition m g h) ≡ degree g * degree h
  composed-degree = let l = one in degree-monic (omega arith) composed-reduced composed-monic

  composed-accepted : Accepted m (composition m g h)
  composed-accepted = record {
    modulus = ag.modulus;
    reduced = composed-reduced;
    monic = rw composed-degree composed-monic;
    two = rw composed-degree (omega (arith, ag.two, ah.two, N.mul-le-mul ag.two ah.two));
  }

  degrees : Degrees (degree (composition m g h)) (degree g) (degree h)
  degrees = record { product = sym composed-degree; within = rw composed-degree fit; two_left = ag.two; two_right = ah.two }

  -- the pair comes back
  pub round_trip : Normal m h → Coprime (degree g) m → {y : Parts} → Splits m (compose m g h).polynomial (degree g) y → y ≡ record { outcome = Answered; left = g; right = h }
  round_trip z c {y} s = split_determined composed-reduced.long (rw composed-is at s) (split_answered composed-accepted degrees (of.found {g = g} {h = h} c pair refl))
    where
      pair : NormalPair m (composition m g h) (degree g) (degree h) g h
      pair = record {
        pair = record { left = ag.monic; right = ah.monic; whole = same_sym composed-same };
        normal = z;
        reduced_left = ag.reduced;
        reduced_right = ah.reduced;
      }
