-- The promises of the quick question (request No. 7).
--
--   quick_split      its yes is the full split's, on every input, and so is each refusal from 1 to 6
--   quick_report     with a no, the forced pair composed and f agree above the reported power and differ there; it is no power x^(is),
--                    and below x^(n-s)
--   quick_zero       the power is 0 exactly with a yes
use mathlib.Core.Path.{◌≡◌, refl, sym, ap, ◌∙◌}
use mathlib.Core.Bool.{true, false, true≢false}
use mathlib.Core.Logic.{inl, inr, ◌↔◌}
use mathlib.Core.List.{List}
use Prim.Native.Nat.{ℕ, ◌/◌}
use native.Mathlib.Nat as N
use lib.ListN.{length}
use Rattle.algebra.specs.Polynomial.{after, degree, terms, Same}
use Rattle.algebra.specs.Pair.{ForcedPair, Differs, Report}
use Rattle.algebra.proofs.Polynomials.{after_same}
use Rattle.algebra.proofs.Report.{forced-pair_unique, report_above, report_low}
use Rattle.refusal.specs.Refusal.{Answered}
use Rattle.refusal.proofs.Outcomes.{never}
use Rattle.polynomial.specs.Answers.{Parts}
use Rattle.pair.specs.Pairing.{Splits}
use Rattle.pair.specs.Pairing as of
use Rattle.pair.specs.Asking.{Verdict}
use Rattle.pair.specs.Asking.{unasked, QuickOf}
use Rattle.pair.specs.Asking as quick
use Rattle.pair.proofs.Reports.{Posed, posed, refutes}
use Rattle.demands.specs.Splitting.{Agree, both_refused, both_yes, both_no, Reported}

module _ {m : ℕ} {f : List ℕ} {r s : ℕ} (P : Posed m f r s) where
  above_zero : {k : ℕ} → Report m r s f k → ¬ (k ≡ 0)
  above_zero R z = report_above P.pos R 0 (z ∙ sym (N.zero-mul _))

  reported : {k : ℕ} → Report m r s f k → Reported m f r s k
  reported {k} R = record { exists = R; every_pair = every; no_multiple = report_above P.pos R; low = rw (← P.product) (report_low P.pos P.left P.right P.whole R) }
    where
      -- the forced pair is one, modulo m
      every : (g h : List ℕ) → ForcedPair m r s f g h → Differs m f (after g h) k
      every g h F =
          let (a, b) = forced-pair_unique P.pos P.left P.right P.unit R.forced F in
          let w : Same m (after R.g R.h) (after g h) = after_same m P.pos a b in
          record { above = λ i l. R.differs.above i l ∙ w.at i; here = λ q. R.differs.here (q ∙ sym (w.at k)) }

module _ {m : ℕ} {f : List ℕ} {r : ℕ} (long : length f ≡ terms) where
  pub quick_split : {x : Verdict} {y : Parts} → QuickOf m f r x → Splits m f r y → Agree m f r x y
  quick_split (quick.refused e p) (of.refused k q) = both_refused (inl k) (p ∙ ap unasked (sym e ∙ k)) q
  quick_split (quick.refused e p) (of.answered k b) = absurd (never e k)
  quick_split (quick.shared e c p) (of.refused k q) = absurd (never k e)
  quick_split (quick.shared e c p) (of.answered k (of.shared d q)) = both_refused (inr refl) p q
  quick_split (quick.shared e c p) (of.answered k (of.none d n q)) = absurd (c d)
  quick_split (quick.shared e c p) (of.answered k (of.found d n q)) = absurd (c d)
  quick_split (quick.answered e c a) (of.refused k q) = absurd (never k e)
  quick_split (quick.answered e c a) (of.answered k (of.shared d q)) = absurd (d c)
  quick_split (quick.answered e c (quick.composes n p)) (of.answered k (of.none d l q)) = absurd (l _ _ n)
  quick_split (quick.answered e c (quick.composes n p)) (of.answered k (of.found d l q)) = both_yes p (rw q refl)
  quick_split (quick.answered e c (quick.differs n p)) (of.answered k (of.none d l q)) = both_no p q
  quick_split (quick.answered e c (quick.differs n p)) (of.answered k (of.found d l q)) = absurd (refutes (posed long e c) n _ _ l.pair)

  pub quick_report : {x : Verdict} → QuickOf m f r x → x.outcome ≡ Answered → x.splits ≡ false → Reported m f r (degree f / r) x.power
  quick_report (quick.refused e p) o s = absurd (never (ap (λ (x : Verdict). x.outcome) p) o)
  quick_report (quick.shared e c p) o s = absurd (never (ap (λ (x : Verdict). x.outcome) p) o)
  quick_report (quick.answered e c (quick.composes n p)) o s = absurd (true≢false (sym (ap (λ (x : Verdict). x.splits) p) ∙ s))
  quick_report (quick.answered e c (quick.differs R p)) o s = rw p (reported (posed long e c) R)

  pub quick_zero : {x : Verdict} → QuickOf m f r x → x.outcome ≡ Answered → (x.power ≡ 0) ↔ (x.splits ≡ true)
  quick_zero (quick.refused e p) o = absurd (never (ap (λ (x : Verdict). x.outcome) p) o)
  quick_zero (quick.shared e c p) o = absurd (never (ap (λ (x : Verdict). x.outcome) p) o)
  quick_zero (quick.answered e c (quick.composes n p)) o = (λ z. ap (λ (x : Verdict). x.splits) p, λ z. ap (λ (x : Verdict). x.power) p)
  quick_zero (quick.answered e c (quick.differs R p)) o = (λ z. absurd (above_zero (posed long e c) R (sym (ap (λ (x : Verdict). x.power) p) ∙ z)), λ z. absurd (true≢false (sym z ∙ ap (λ (x : Verdict). x.splits) p)))
