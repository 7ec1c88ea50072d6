-- Changes that follow each other, over what combine answers; and what (1, 0) does to a pair.
--
--   combine_is                                     where combine answers, both changes are proper, and the answer is their combination
--   associative                                    three changes, combined in either grouping
--   identity-left, identity-right                  (1, 0) before and after a change
--   combined-polynomial, combined-pair             changing by c and then by d is changing by what combine answers
--   made-normal                                    changed by (1, 0), a pair composes to the same polynomial, and its right part has constant term 0
use mathlib.Core.Path.{◌≡◌, refl, sym, ap, subst, ◌∙◌}
use mathlib.Core.List.{List}
use Prim.Native.Nat.{ℕ}
use native.Mathlib.Omega.{arith}
use lib.ListN.{length}
use Rattle.algebra.specs.Polynomial.{after, terms, Same}
use Rattle.algebra.specs.Pair.{Normal}
use Rattle.algebra.proofs.Polynomials.{same_refl}
use Rattle.algebra.proofs.Factors.{invertible-one}
use Rattle.algebra.proofs.Changes.{changed_by_nothing, changed-pair, changed-right-monic}
use Rattle.refusal.specs.Refusal.{Answered}
use Rattle.refusal.proofs.Outcomes.{never}
use Rattle.polynomial.specs.Moduli.{check_modulus}
use Rattle.polynomial.specs.Answers.{no_parts}
use Rattle.polynomial.specs.Answers.{Answer}
use Rattle.polynomial.specs.Answers.{Parts}
use Rattle.polynomial.proofs.Acceptance.{accepted-above, accepted-pair}
use Rattle.change.specs.declared.Change.{Change}
use Rattle.change.specs.Changing.{Made}
use Rattle.change.specs.Changing.{identity, Proper, combined_change, Combines, ChangesPolynomial, ChangesPair}
use Rattle.change.specs.Changing as of
use Rattle.change.proofs.Combining.{combine_associative, combine_identity-left, combine_identity-right, combined_proper}
use Rattle.change.proofs.Following as law
use Rattle.change.proofs.Determined.{combine_determined}

-- what an answer of combine says
record Combined (m : ℕ) (c d : Change) (x : Made) : Type 0 where
  modulus : check_modulus m ≡ Answered
  first : Proper m c
  second : Proper m d
  is : x ≡ record { outcome = Answered; change = combined_change m c d }

combine_is : {m : ℕ} {c d : Change} {x : Made} → Combines m c d x → x.outcome ≡ Answered → Combined m c d x
combine_is (of.refused e k) o = absurd (never (ap (λ (x : Made). x.outcome) k) o)
combine_is (of.first_improper e n k) o = absurd (never (ap (λ (x : Made). x.outcome) k) o)
combine_is (of.second_improper e p n k) o = absurd (never (ap (λ (x : Made). x.outcome) k) o)
combine_is (of.combined e p q k) o = record { modulus = e; first = p; second = q; is = k }

-- proper changes are combined
combines : {m : ℕ} {c d : Change} {x : Made} → check_modulus m ≡ Answered → Proper m c → Proper m d → Combines m c d x → x ≡ record { outcome = Answered; change = combined_change m c d }
combines e p q k = combine_determined k (of.combined e p q refl)

-- c and d, then e; or c, then d and e
pub associative : {m : ℕ} {c d e : Change} {x y z w : Made} → Combines m c d x → x.outcome ≡ Answered → Combines m x.change e y
    → Combines m d e z → z.outcome ≡ Answered → Combines m c z.change w → y ≡ w
associative {m} {c} {d} {e} {x} {y} {z} {w} k o l k' o' l' =
    let a = combine_is k o in
    let b = combine_is k' o' in
    let left : Combines m (combined_change m c d) e y = subst (λ (i : Change). Combines m i e y) (ap (λ (x : Made). x.change) a.is) l in
    let right : Combines m c (combined_change m d e) w = subst (λ (i : Change). Combines m c i w) (ap (λ (x : Made). x.change) b.is) l' in
    combines a.modulus (combined_proper a.first a.second) b.second left
    ∙ ap (λ (i : Change). record { outcome = Answered; change = i }) (combine_associative m c d e)
    ∙ sym (combines a.modulus a.first (combined_proper b.first b.second) right)

-- (1, 0), then c
pub identity-left : {m : ℕ} {c : Change} {x : Made} → Combines m identity c x → x.outcome ≡ Answered → x.change ≡ c
identity-left k o = let a = combine_is k o in ap (λ (x : Made). x.change) a.is ∙ combine_identity-left a.second.unit_below a.second.origin_below

-- c, then (1, 0)
pub identity-right : {m : ℕ} {c : Change} {x : Made} → Combines m c identity x → x.outcome ≡ Answered → x.change ≡ c
identity-right k o = let a = combine_is k o in ap (λ (x : Made). x.change) a.is ∙ combine_identity-right a.first.unit_below a.first.origin_below

-- changing by c and then by d is changing by what combine answers
pub combined-polynomial : {m : ℕ} {f : List ℕ} → length f ≡ terms → {c d : Change} {w : Made} {x y z : Answer} → Combines m c d w → w.outcome ≡ Answered
    → ChangesPolynomial m f c x → x.outcome ≡ Answered → ChangesPolynomial m x.polynomial d y → y.outcome ≡ Answered → ChangesPolynomial m f w.change z → y ≡ z
combined-polynomial {m} {f} long {z = z} k o x p y q s =
    law.combined-polynomial long x p y q (subst (λ (i : Change). ChangesPolynomial m f i z) (ap (λ (x : Made). x.change) (combine_is k o).is) s)

-- and of a pair
pub combined-pair : {m : ℕ} {g h : List ℕ} → length g ≡ terms → length h ≡ terms → {c d : Change} {w : Made} {x y z : Parts} → Combines m c d w → w.outcome ≡ Answered
    → ChangesPair m g h c x → x.outcome ≡ Answered → ChangesPair m x.left x.right d y → y.outcome ≡ Answered → ChangesPair m g h w.change z → y ≡ z
combined-pair {m} {g} {h} long long' {z = z} k o x p y q s =
    law.combined-pair long long' x p y q (subst (λ (i : Change). ChangesPair m g h i z) (ap (λ (x : Made). x.change) (combine_is k o).is) s)

-- a pair whose h(0) is not zero is made normal by (1, 0), and composes to the same polynomial
pub made-normal : {m : ℕ} {g h : List ℕ} {x : Parts} → length g ≡ terms → length h ≡ terms → ChangesPair m g h identity x → x.outcome ≡ Answered
    → Normal m x.right × Same m (after g h) (after x.left x.right)
unfolding no_parts
made-normal long long' (of.refused e k) o = absurd (never (ap (λ (x : Parts). x.outcome) k) o)
made-normal long long' (of.not_proper e n k) o = absurd (never (ap (λ (x : Parts). x.outcome) k) o)
made-normal {m} {g} {h} long long' (of.changed e p r s u k) o =
    let (a, b, l) = accepted-pair long long' e in
    let above = accepted-above a in
    let normal = (changed-right-monic (omega arith) (omega (arith, b.two)) (invertible-one m) b.monic u.right).1 in
    let pair = changed-pair (omega arith) {f = after g h} {f' = after g h} (omega (arith, a.two)) (omega (arith, b.two)) refl (invertible-one m)
    (record { left = a.monic; right = b.monic; whole = same_refl (after g h) }) (changed_by_nothing (omega arith) (after g h)) u in
    rw k (normal, pair.whole)
