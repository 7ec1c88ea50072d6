-- Demand 2 for a split and for a left part: where the degrees fit, the desk hands out what there is, and says No. 7 exactly if there is nothing.
--
--   split_answer_exact, left-answer_exact     the answer past the checks
--   split_exact                 r and s of 2 or more with r·s = n, and r with no factor in common with m
--   left_exact                  the same for a given h of degree s, whatever r has in common with m
--   split_shared, split_coprime past the other refusals No. 5 is for an r that shares a factor with m, and only another r can be split
use mathlib.Core.Path.{◌≡◌, sym, ap, ◌∙◌}
use mathlib.Core.Logic.{◌↔◌, inl, inr}
use mathlib.Core.List.{List}
use Prim.Native.Nat.{ℕ, ◌*◌, ◌≤◌}
use native.Mathlib.Omega.{arith}
use Rattle.algebra.specs.Number.{Coprime}
use Rattle.algebra.specs.Polynomial.{degree}
use Rattle.refusal.specs.Refusal.{number_of, refusal}
use Rattle.refusal.specs.declared.Concerns.TheVariants.{Neither}
use Rattle.refusal.specs.declared.Reason.TheVariants.{Factor, NoPair}
use Rattle.refusal.specs.Refusal.{Answered}
use Rattle.refusal.proofs.Outcomes.{never}
use Rattle.polynomial.specs.Checks.{Accepted}
use Rattle.polynomial.specs.Answers.{nothing, no_parts}
use Rattle.polynomial.specs.Degrees.{Degrees}
use Rattle.polynomial.specs.Answers.{Answer}
use Rattle.polynomial.specs.Answers.{Parts}
use Rattle.polynomial.proofs.Acceptance.{degree-fits}
use Rattle.left.specs.Left.{LeftAnswer}
use Rattle.left.specs.Left as left
use Rattle.pair.specs.Pairing.{check_split, LeftPartOf, SplitAnswer, Splits}
use Rattle.pair.specs.Pairing as of
use Rattle.pair.proofs.Fitting.{degrees_fit}
use Rattle.pair.proofs.Determined.{degrees_swap, accepted-left, accepted_split}
use Rattle.demands.specs.Splitting.{ExactSplit, ExactLeft}

no-parts-refused : {x : Parts} → x ≡ no_parts (refusal Neither NoPair) → x.outcome ≡ Answered → ⊥
unfolding no_parts
no-parts-refused p q = never (ap (λ (x : Parts). x.outcome) p) q

nothing-refused : {x : Answer} → x ≡ nothing (refusal Neither NoPair) → x.outcome ≡ Answered → ⊥
unfolding nothing
nothing-refused p q = never (ap (λ (x : Answer). x.outcome) p) q

-- the answer past the checks
split_answer_exact : {m r s : ℕ} {f : List ℕ} {x : Parts} → Coprime r m → SplitAnswer m f r s x → ExactSplit m f r s x
split_answer_exact c (of.shared d p) = absurd (d c)
split_answer_exact c (of.none d n p) = record {
  decided = inr p;
  some = (λ z. absurd (no-parts-refused p z), λ (g, h, q). absurd (n g h q));
  is = λ z. absurd (no-parts-refused p z);
  none = (λ z. n, λ z. p);
}
split_answer_exact c (of.found {g = g} {h = h} d n p) = let o = ap (λ (x : Parts). x.outcome) p in record {
  decided = inl o;
  some = (λ z. (g, h, n.pair), λ z. o);
  is = λ z. rw p n;
  none = (λ z. absurd (no-parts-refused z o), λ z. absurd (z g h n.pair));
}

left-answer_exact : {m r : ℕ} {f h : List ℕ} {x : Answer} → LeftAnswer m f r h x → ExactLeft m f h r x
left-answer_exact (left.none n p) = record {
  decided = inr p;
  some = (λ z. absurd (nothing-refused p z), λ (g, l, w). absurd (n g l w));
  is = λ z. absurd (nothing-refused p z);
  none = (λ z. n, λ z. p);
}
left-answer_exact (left.found {g = g} l p) = let o = ap (λ (x : Answer). x.outcome) p in record {
  decided = inl o;
  some = (λ z. (g, l.monic, l.whole), λ z. o);
  is = λ z. rw p l;
  none = (λ z. absurd (nothing-refused z o), λ z. absurd (z g l.monic l.whole));
}

module _ {m r s : ℕ} {f : List ℕ} (a : Accepted m f) (two_left : 2 ≤ r) (two_right : 2 ≤ s) (product : r * s ≡ degree f) where
  fit : Degrees (degree f) r s
  fit = record { product = product; within = degree-fits a; two_left = two_left; two_right = two_right }

  pub split_exact : Coprime r m → {x : Parts} → Splits m f r x → ExactSplit m f r s x
  split_exact c (of.refused e p) = absurd (never e (accepted_split a fit))
  split_exact c (of.answered e k) = split_answer_exact c (rw (degrees_fit fit).1 at k)

module _ {m r : ℕ} {f h : List ℕ} (a : Accepted m f) (b : Accepted m h) (two_left : 2 ≤ r) (product : r * degree h ≡ degree f) where
  fits : Degrees (degree f) r (degree h)
  fits = record { product = product; within = degree-fits a; two_left = two_left; two_right = b.two }

  pub left_exact : {x : Answer} → LeftPartOf m f h x → ExactLeft m f h r x
  left_exact (of.refused e p) = absurd (never e (accepted-left a b fits))
  left_exact (of.answered e k) = left-answer_exact (rw (degrees_fit (degrees_swap fits)).1 at k)

-- past the other refusals, No. 5 exactly if r shares a factor with m
pub split_shared : {m r : ℕ} {f : List ℕ} {x : Parts} → check_split m f r ≡ Answered → Splits m f r x → (x.outcome ≡ refusal Neither Factor) ↔ (Coprime r m → ⊥)
unfolding no_parts
split_shared k (of.refused e p) = absurd (never e k)
split_shared k (of.answered e (of.shared d p)) = (λ z. d, λ z. ap (λ (x : Parts). x.outcome) p)
split_shared k (of.answered e (of.none c n p)) = (λ z. absurd (let w : ◌≡◌ {A = ℕ} 7 5 = ap number_of (sym (ap (λ (x : Parts). x.outcome) p) ∙ z) in omega arith), λ z. absurd (z c))
split_shared k (of.answered e (of.found c n p)) = (λ z. absurd (never z (ap (λ (x : Parts). x.outcome) p)), λ z. absurd (z c))

-- a split that is answered
pub split_coprime : {m r : ℕ} {f : List ℕ} {x : Parts} → Splits m f r x → x.outcome ≡ Answered → Coprime r m
unfolding no_parts
split_coprime (of.refused e p) z = absurd (never (ap (λ (x : Parts). x.outcome) p) z)
split_coprime (of.answered e (of.shared d p)) z = absurd (never (ap (λ (x : Parts). x.outcome) p) z)
split_coprime (of.answered e (of.none c n p)) z = absurd (never (ap (λ (x : Parts). x.outcome) p) z)
split_coprime (of.answered e (of.found c n p)) z = c
