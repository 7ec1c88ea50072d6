-- The quick question (request No. 7).
--
--   quick_determined       two answers to it are equal
--   Posed, posed, refutes  what the laws of the report ask, and that a no is no pair
use mathlib.Core.Path.{◌≡◌, sym, ap, ◌∙◌}
use mathlib.Core.List.{List}
use Prim.Native.Nat.{ℕ, ◌*◌, ◌/◌, ◌<◌}
use native.Mathlib.Omega.{arith}
use lib.ListN.{length}
use Rattle.algebra.specs.Number.{Coprime, Invertible}
use Rattle.algebra.specs.Polynomial.{degree, terms, Monic}
use Rattle.algebra.specs.Pair.{NoPair, Report}
use Rattle.algebra.proofs.Factors.{coprime-invertible}
use Rattle.algebra.proofs.Report.{report_unique, report_refutes}
use Rattle.refusal.specs.Refusal.{Answered}
use Rattle.refusal.proofs.Outcomes.{never}
use Rattle.polynomial.proofs.Acceptance.{accepted-above}
use Rattle.pair.specs.Pairing.{check_split}
use Rattle.pair.specs.Asking.{Verdict}
use Rattle.pair.specs.Asking.{unasked, a_no, QuickAnswer, QuickOf}
use Rattle.pair.specs.Asking as quick
use Rattle.pair.proofs.Determined.{split_accepted}

-- what the laws of the report ask
pub record Posed (m : ℕ) (f : List ℕ) (r s : ℕ) : Type 0 where
  pub pos : 0 < m
  pub left : 0 < r
  pub right : 0 < s
  pub unit : Invertible m r
  pub product : r * s ≡ degree f
  pub whole : Monic m (r * s) f

-- past the checks and No. 5
pub posed : {m : ℕ} {f : List ℕ} {r : ℕ} → length f ≡ terms → check_split m f r ≡ Answered → Coprime r m → Posed m f r (degree f / r)
posed {m} {f} {r} long e c =
    let (a, d) = split_accepted {m = m} {f = f} {r = r} long e in
    let one = accepted-above a in
    record {
      pos = omega arith;
      left = omega (arith, d.two_left);
      right = omega (arith, d.two_right);
      unit = coprime-invertible m (omega arith) c;
      product = d.product;
      whole = rw d.product a.monic;
    }

module _ {m : ℕ} {f : List ℕ} {r s : ℕ} (P : Posed m f r s) where
  -- a no is no pair
  pub refutes : {k : ℕ} → Report m r s f k → NoPair m f r s
  refutes R = report_refutes P.pos P.left P.right P.unit P.whole R

  one_answer : {x y : Verdict} → QuickAnswer m f r s x → QuickAnswer m f r s y → x ≡ y
  one_answer (quick.composes n p) (quick.composes l q) = p ∙ sym q
  one_answer (quick.composes n p) (quick.differs l q) = absurd (refutes l _ _ n)
  one_answer (quick.differs n p) (quick.composes l q) = absurd (refutes n _ _ l)
  one_answer (quick.differs n p) (quick.differs l q) = p ∙ ap a_no (report_unique P.pos P.left P.right P.unit P.whole n l) ∙ sym q

module _ {m : ℕ} {f : List ℕ} {r : ℕ} (long : length f ≡ terms) where
  pub quick_determined : {x y : Verdict} → QuickOf m f r x → QuickOf m f r y → x ≡ y
  quick_determined (quick.refused e p) (quick.refused k q) = p ∙ ap unasked (sym e ∙ k) ∙ sym q
  quick_determined (quick.refused e p) (quick.shared k c q) = absurd (never e k)
  quick_determined (quick.refused e p) (quick.answered k c b) = absurd (never e k)
  quick_determined (quick.shared e c p) (quick.refused k q) = absurd (never k e)
  quick_determined (quick.shared e c p) (quick.shared k d q) = p ∙ sym q
  quick_determined (quick.shared e c p) (quick.answered k d b) = absurd (c d)
  quick_determined (quick.answered e c a) (quick.refused k q) = absurd (never k e)
  quick_determined (quick.answered e c a) (quick.shared k d q) = absurd (d c)
  quick_determined (quick.answered e c a) (quick.answered k d b) = one_answer (posed long e c) a b
