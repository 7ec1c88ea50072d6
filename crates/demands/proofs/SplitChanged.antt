-- Demand 3 for one split, over the contracts of split and change.
--
--   Altered, altered    f is accepted, and f' is f changed by c; so is what change_polynomial answers
--   SplitCarried        what the split of f says of that of f'
--   quick_changed       the quick question gives the changed f the same answer, whole
--   split_changed       splitting the changed f gives the changed pair; and every refusal, "no pair" included, is that of f
use mathlib.Core.Path.{◌≡◌, refl, sym, ap, ◌∙◌}
use mathlib.Core.List.{List}
use Prim.Native.Nat.{ℕ, ◌/◌, ◌<◌}
use native.Mathlib.Omega.{arith}
use lib.ListN.{length}
use Rattle.algebra.specs.Polynomial.{degree, terms, Reduced}
use Rattle.algebra.specs.Number.{Coprime}
use Rattle.algebra.specs.Pair.{NormalPair, NoPair, Report}
use Rattle.algebra.specs.Change.{Changed, ChangedPair}
use Rattle.algebra.proofs.Reduction.{degree-monic}
use Rattle.algebra.proofs.Factors.{coprime-invertible}
use Rattle.algebra.proofs.Pairs as P
use Rattle.algebra.proofs.Report.{report_changed}
use Rattle.refusal.specs.declared.Refusal.{Refusal}
use Rattle.refusal.specs.Refusal.{Outcome}
use Rattle.refusal.specs.Refusal.{Answered, Refused}
use Rattle.refusal.proofs.Outcomes.{never}
use Rattle.polynomial.specs.Checks.{check_one, check_pair, Accepted}
use Rattle.polynomial.specs.Answers.{no_parts}
use Rattle.polynomial.specs.Degrees.{Degrees}
use Rattle.polynomial.specs.Answers.{Answer}
use Rattle.polynomial.specs.Answers.{Parts}
use Rattle.polynomial.proofs.Acceptance.{accepted-one, one-accepted, accepted-above, pair-accepted, accepted-changed}
use Rattle.pair.specs.Pairing.{check_split, SplitAnswer, Splits}
use Rattle.pair.specs.Pairing as pairing
use Rattle.pair.specs.Asking.{Verdict}
use Rattle.pair.specs.Asking.{a_no, QuickAnswer, QuickOf}
use Rattle.pair.specs.Asking as quick
use Rattle.pair.proofs.Reports.{posed, refutes, quick_determined}
use Rattle.pair.proofs.Forcing.{fits_below}
use Rattle.pair.proofs.Determined.{split_accepted, split_determined}
use Rattle.change.specs.declared.Change.{Change}
use Rattle.change.specs.Changing.{Proper, ChangesPolynomial, ChangesPair}
use Rattle.change.specs.Changing as changing
use Rattle.change.proofs.Determined.{change_pair_determined}
use Rattle.change.proofs.Following.{went}
use Rattle.demands.specs.Splitting.{SplitCarried}

-- f is accepted, and f' is f changed by c
pub record Altered (m : ℕ) (c : Change) (f f' : List ℕ) : Type 0 where
  pub long : length f ≡ terms
  pub accepted : check_one m f ≡ Answered
  pub proper : Proper m c
  pub reduced : Reduced m f'
  pub changed : Changed m (degree f) c.unit c.origin f f'

-- what the operation answers is f changed by c
pub altered : {m : ℕ} {c : Change} {f : List ℕ} {w : Answer} → length f ≡ terms → ChangesPolynomial m f c w → w.outcome ≡ Answered → Altered m c f w.polynomial
altered long k o = let s = went k o in record { long = long; accepted = s.passed; proper = s.proper; reduced = s.reduced; changed = s.is }

module _ {m : ℕ} {c : Change} {f f' : List ℕ} (x : Altered m c f f') where
  taken : Accepted m f
  taken = accepted-one x.long x.accepted

  one : 1 < m
  one = accepted-above taken

  pos : 0 < m
  pos = let o = one in omega arith

  both : Accepted m f' × (degree f' ≡ degree f)
  both = accepted-changed taken x.reduced x.proper.invertible x.changed

  same-degree : degree f' ≡ degree f
  same-degree = both.1

  changed-accepted : check_one m f' ≡ Answered
  changed-accepted = one-accepted both.0

  -- the checks of a split look at the degree only
  same_checks : (r : ℕ) → check_split m f' r ≡ check_split m f r
  unfolding check_split
  same_checks r = rw (changed-accepted, x.accepted, same-degree)

  -- past the checks
  module _ (r : ℕ) (e : check_split m f r ≡ Answered) where
    fit : Degrees (degree f) r (degree f / r)
    fit = (split_accepted x.long e).1

    -- what the changed pair is, the desk's change of the pair answers
    changed-pair-is : {g h g' h' : List ℕ} → NormalPair m f r (degree f / r) g h → NormalPair m f' r (degree f / r) g' h'
        → ChangedPair m r (degree f / r) c.unit c.origin g h g' h' → ChangesPair m g h c (record { outcome = Answered; left = g'; right = h' })
    changed-pair-is {g} {h} {g'} {h'} p q k = changing.changed {g' = g'} {h' = h'} checked x.proper q.reduced_left q.reduced_right (rw (dg, dh) k) refl
      where
        dg : degree g ≡ r
        dg = let o = one in degree-monic (omega arith) p.reduced_left p.pair.left

        dh : degree h ≡ degree f / r
        dh = let o = one in degree-monic (omega arith) p.reduced_right p.pair.right

        checked : check_pair m g h ≡ Answered
        checked = pair-accepted
            (record { modulus = taken.modulus; reduced = p.reduced_left; monic = rw dg p.pair.left; two = rw dg fit.two_left })
            (record { modulus = taken.modulus; reduced = p.reduced_right; monic = rw dh p.pair.right; two = rw dh fit.two_right })
            (rw (dg, dh, fit.product) fit.within)

  -- no pair of f is no pair of the changed f
  unsplit : (r : ℕ) → check_split m f r ≡ Answered → NoPair m f r (degree f / r) → NoPair m f' r (degree f / r)
  unsplit r e n = let w = fit r e in (P.no-pair-changed pos (omega (arith, w.two_left)) (omega (arith, w.two_right)) w.product (coprime-invertible m pos x.proper.invertible) x.changed).0 n

  -- both are refused, and alike
  alike : {o : Outcome} {e : Refusal} {y z : Parts} → o ≡ Refused e → y ≡ no_parts o → z ≡ no_parts o → SplitCarried m c y z
  unfolding no_parts
  alike {o} {e} {y} {z} q p k =
      let no : y.outcome ≡ Answered → ⊥ = λ a. never (ap (λ (w : Parts). w.outcome) p ∙ q) a in record {
        answered = (λ a. ap (λ (w : Parts). w.outcome) (p ∙ sym k) ∙ a, λ a. absurd (no a));
        pair = λ a. absurd (no a);
        same = λ a. absurd (no a);
        refused = λ a. k ∙ sym p;
      }

  -- past the checks an answer for the changed f is the desk's
  told : (r : ℕ) → check_split m f r ≡ Answered → {y z : Parts} → Splits m f' r z → SplitAnswer m f' r (degree f / r) y → z ≡ y
  told r e s a = split_determined x.reduced.long s (pairing.answered (same_checks r ∙ e) (rw same-degree a))

  -- the changed pair of an answer is the answer for the changed f; any other answer is the same for both
  pub split_changed : (r : ℕ) {y z : Parts} → Splits m f r y → Splits m f' r z → SplitCarried m c y z
  split_changed r (pairing.refused e p) s = alike refl p (split_determined x.reduced.long s (pairing.refused (same_checks r ∙ e) refl))
  split_changed r (pairing.answered e (pairing.shared d p)) s = alike refl p (told r e s (pairing.shared d refl))
  split_changed r (pairing.answered e (pairing.none d n p)) s = alike refl p (told r e s (pairing.none d (unsplit r e n) refl))
  split_changed r {y} {z} (pairing.answered e (pairing.found d n p)) s =
      let w = fit r e in
      let (g', h', k, n') = P.changed-pair-exists pos (omega (arith, w.two_left)) (omega (arith, w.two_right)) (fits_below w).0 (fits_below w).1 w.product
      (coprime-invertible m pos x.proper.invertible) n.pair x.changed in
      let q = told r e s (pairing.found {g = g'} {h = h'} d n' refl) in
      let o = ap (λ (v : Parts). v.outcome) p in
      let is : ChangesPair m y.left y.right c z = rw (p, q) (changed-pair-is r e n n' k) in record {
        answered = (λ a. o, λ a. ap (λ (v : Parts). v.outcome) q);
        pair = λ a. is;
        same = λ a v b. change_pair_determined is b;
        refused = λ b. absurd (b o);
      }

  -- past the checks: a yes of one is a yes of the other, and where both have a no, the power is the same
  same-verdict : (r : ℕ) → check_split m f r ≡ Answered → Coprime r m → {y z : Verdict} → QuickAnswer m f r (degree f / r) y → QuickAnswer m f' r (degree f' / r) z → z ≡ y
  same-verdict r e d (quick.composes n p) (quick.composes l q) = q ∙ sym p
  same-verdict r e d (quick.composes n p) (quick.differs T q) =
      let w = fit r e in
      let (g', h', k, n') = P.changed-pair-exists pos (omega (arith, w.two_left)) (omega (arith, w.two_right)) (fits_below w).0 (fits_below w).1 w.product
      (coprime-invertible m pos x.proper.invertible) n x.changed in
      absurd (refutes (posed x.reduced.long (same_checks r ∙ e) d) T g' h' (rw same-degree n'.pair))
  same-verdict r e d (quick.differs R p) (quick.composes {g = g} {h = h} l q) = absurd (unsplit r e (refutes (posed x.long e d) R) g h (rw same-degree at l))
  same-verdict r e d (quick.differs R p) (quick.differs T q) =
      let P = posed x.long e d in
      let P' = posed x.reduced.long (same_checks r ∙ e) d in
      let T' : Report m r (degree f / r) f' _ = rw same-degree at T in
      let s = report_changed pos P.left P.right P.product P.unit (coprime-invertible m pos x.proper.invertible) P.whole (rw same-degree at P'.whole) x.changed R T' in
      q ∙ ap a_no (sym s) ∙ sym p

  pub quick_changed : (r : ℕ) {y z : Verdict} → QuickOf m f r y → QuickOf m f' r z → z ≡ y
  quick_changed r (quick.refused e p) s = quick_determined x.reduced.long s (quick.refused (same_checks r ∙ e) refl) ∙ sym p
  quick_changed r (quick.shared e d p) s = quick_determined x.reduced.long s (quick.shared (same_checks r ∙ e) d refl) ∙ sym p
  quick_changed r (quick.answered e d a) (quick.refused w q) = absurd (never w (same_checks r ∙ e))
  quick_changed r (quick.answered e d a) (quick.shared w n q) = absurd (n d)
  quick_changed r (quick.answered e d a) (quick.answered w n b) = same-verdict r e d a b
