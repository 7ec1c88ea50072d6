-- Changes of polynomials and pairs that follow each other.
--
--   Went, went                             what an answer to a change of a polynomial says, where it is no refusal
--   identity-polynomial, identity-pair     (1, 0) changes no accepted polynomial, and no accepted normal pair
--   combined-polynomial, combined-pair     changing by c and then by d is changing by the combined change
--   undone-polynomial, undone-pair         changing by c and then by what undoes it gives back a polynomial, and a normal pair
use mathlib.Core.Path.{◌≡◌, refl, sym, ap, ◌∙◌}
use mathlib.Core.Bool.{true≢false}
use mathlib.Core.List.{List}
use Prim.Native.Nat.{ℕ}
use native.Mathlib.Nat as N
use native.Mathlib.Omega.{arith}
use lib.ListN.{length}
use Rattle.algebra.specs.Polynomial.{degree, terms, Monic, Reduced}
use Rattle.algebra.specs.Pair.{Normal}
use Rattle.algebra.specs.Change.{Changed, ChangedPair}
use Rattle.algebra.proofs.Reduction.{degree-monic}
use Rattle.algebra.proofs.Factors.{invertible-one, invertible-pow}
use Rattle.algebra.proofs.Changes.{changed-pair_numbers, changed-monic, changed_numbers, changed-combined, changed_by_nothing, changed-undone, changed-right-monic, changed-pair_equal, changed-pair-combined, changed-pair_by_nothing}
use Rattle.refusal.specs.Refusal.{is_refused}
use Rattle.refusal.specs.declared.Concerns.TheVariants.{First}
use Rattle.refusal.specs.Refusal.{Answered}
use Rattle.refusal.proofs.Outcomes.{then_both}
use Rattle.polynomial.specs.Checks.{check_polynomial, check_one, check_two, check_pair, Accepted}
use Rattle.polynomial.specs.Moduli.{check_modulus}
use Rattle.polynomial.specs.Answers.{nothing, no_parts}
use Rattle.polynomial.specs.Answers.{Answer}
use Rattle.polynomial.specs.Answers.{Parts}
use Rattle.polynomial.proofs.Acceptance.{accepted-above, accepted-one, one-accepted, accepted-pair, pair-accepted}
use Rattle.change.specs.declared.Change.{Change}
use Rattle.change.specs.Changing.{Made}
use Rattle.change.specs.Changing.{identity, Proper, combined_change, Undone, Undoing, ChangesPolynomial, ChangesPair, refused, not_proper, undone, changed}
use Rattle.change.proofs.Determined.{modulus_positive, proper_invertible, change_polynomial_determined, change_pair_determined}
use Rattle.change.proofs.Combining.{identity_proper, combined_proper, undone_proper}

-- what an answer with no refusal says, of a polynomial
pub record Went (m : ℕ) (f : List ℕ) (c : Change) (f' : List ℕ) : Type 0 where
  pub passed : check_one m f ≡ Answered
  pub proper : Proper m c
  pub reduced : Reduced m f'
  pub is : Changed m (degree f) c.unit c.origin f f'

pub went : {m : ℕ} {f : List ℕ} {c : Change} {x : Answer} → ChangesPolynomial m f c x → x.outcome ≡ Answered → Went m f c x.polynomial
unfolding nothing
went (refused e k) o = absurd (true≢false (ap is_refused (rw k at o)))
went (not_proper a n k) o = absurd (true≢false (ap is_refused (rw k at o)))
went (changed a p r u k) o = rw k (record { passed = a; proper = p; reduced = r; is = u })

-- and of a pair
record WentPair (m : ℕ) (g h : List ℕ) (c : Change) (g' h' : List ℕ) : Type 0 where
  passed : check_pair m g h ≡ Answered
  proper : Proper m c
  reduced_left : Reduced m g'
  reduced_right : Reduced m h'
  is : ChangedPair m (degree g) (degree h) c.unit c.origin g h g' h'

went_pair : {m : ℕ} {g h : List ℕ} {c : Change} {x : Parts} → ChangesPair m g h c x → x.outcome ≡ Answered → WentPair m g h c x.left x.right
unfolding no_parts
went_pair (refused e k) o = absurd (true≢false (ap is_refused (rw k at o)))
went_pair (not_proper a n k) o = absurd (true≢false (ap is_refused (rw k at o)))
went_pair (changed a p r s u k) o = rw k (record { passed = a; proper = p; reduced_left = r; reduced_right = s; is = u })

-- an accepted pair and a proper change are not refused
pair-answered : {m : ℕ} {g h : List ℕ} {c : Change} {x : Parts} → check_pair m g h ≡ Answered → Proper m c → ChangesPair m g h c x → x.outcome ≡ Answered
pair-answered a p (refused e k) = absurd (true≢false (ap is_refused (sym e ∙ a)))
pair-answered a p (not_proper b n k) = absurd (n p)
pair-answered a p (changed b q r s u k) = rw k

-- what a proper change is undone by
undone_by : {m : ℕ} {c : Change} {x : Made} → check_modulus m ≡ Answered → Proper m c → Undoing m c x → Undone m c x.change
undone_by a p (refused e k) = absurd (true≢false (ap is_refused (sym e ∙ a)))
undone_by a p (not_proper b n k) = absurd (n p)
undone_by a p (undone b q u k) = rw k u

-- what is monic of the degree of an accepted polynomial has its degree, and is accepted
kept : {m : ℕ} {f f' : List ℕ} → Accepted m f → Reduced m f' → Monic m (degree f) f' → (degree f' ≡ degree f) × Accepted m f'
kept a r k = let e = degree-monic (accepted-above a) r k in (e, record { modulus = a.modulus; reduced = r; monic = rw e k; two = rw e a.two })

-- so of a polynomial
kept-polynomial : {m : ℕ} {f f' : List ℕ} {c : Change} → Accepted m f → Went m f c f' → (degree f' ≡ degree f) × Accepted m f'
kept-polynomial a s = kept a s.reduced (changed-monic (modulus_positive s.proper) (omega (arith, a.two)) (proper_invertible s.proper) a.monic s.is)

module _ {m : ℕ} {f : List ℕ} (long : length f ≡ terms) where
  -- (1, 0) changes no accepted polynomial
  pub identity-polynomial : {x : Answer} → check_one m f ≡ Answered → ChangesPolynomial m f identity x → x ≡ record { outcome = Answered; polynomial = f }
  identity-polynomial h x =
      let a = accepted-one long h in
      change_polynomial_determined x (changed h (identity_proper (accepted-above a)) a.reduced (changed_by_nothing (omega (arith, accepted-above a)) f) refl)

  -- changing by c and then by d is changing by the combined change
  pub combined-polynomial : {c d : Change} {x y z : Answer} → ChangesPolynomial m f c x → x.outcome ≡ Answered
      → ChangesPolynomial m x.polynomial d y → y.outcome ≡ Answered → ChangesPolynomial m f (combined_change m c d) z → y ≡ z
  combined-polynomial x x-answered y y-answered z =
      let s = went x x-answered in
      let t = went y y-answered in
      let pos = modulus_positive s.proper in
      let (e, b) = kept-polynomial (accepted-one long s.passed) s in
      change_polynomial_determined
      (changed s.passed (combined_proper s.proper t.proper) t.reduced
      (changed_numbers pos _ _ _ _ (sym (N.mod-mod _ m)) (sym (N.mod-mod _ m)) (changed-combined pos s.is (rw e at t.is))) (rw (← y-answered)))
      z

  -- changing by c and then by what undoes it gives f back
  pub undone-polynomial : {c : Change} {x y : Answer} {u : Made} → ChangesPolynomial m f c x → x.outcome ≡ Answered
      → Undoing m c u → ChangesPolynomial m x.polynomial u.change y → y ≡ record { outcome = Answered; polynomial = f }
  unfolding check_one
  undone-polynomial x answered u y =
      let s = went x answered in
      let k = undone_by (then_both (check_modulus m) (check_polynomial First m f) s.passed).0 s.proper u in
      let a = accepted-one long s.passed in
      let (e, b) = kept-polynomial a s in
      change_polynomial_determined y
      (changed (one-accepted b) (undone_proper s.proper k) a.reduced (rw e (changed-undone (modulus_positive s.proper) k.undoes s.is)) refl)

-- and of both parts of a pair
kept_pair : {m : ℕ} {g h g' h' : List ℕ} {c : Change} → Accepted m g → Accepted m h → WentPair m g h c g' h'
    → (degree g' ≡ degree g) × Accepted m g' × (degree h' ≡ degree h) × Accepted m h'
kept_pair {h = h} a b s =
    let pos = modulus_positive s.proper in
    let i = proper_invertible s.proper in
    let (d, p) = kept a s.reduced_left (changed-monic pos (omega (arith, a.two)) (invertible-pow i (degree h)) a.monic s.is.left) in
    let (e, q) = kept b s.reduced_right (changed-right-monic pos (omega (arith, b.two)) i b.monic s.is.right).0 in
    (d, p, e, q)

module _ {m : ℕ} {g h : List ℕ} (long-left : length g ≡ terms) (long-right : length h ≡ terms) where
  -- (1, 0) changes no accepted normal pair
  pub identity-pair : {x : Parts} → check_pair m g h ≡ Answered → Normal m h → ChangesPair m g h identity x → x ≡ record { outcome = Answered; left = g; right = h }
  identity-pair e z x =
      let (a, b, l) = accepted-pair long-left long-right e in
      change_pair_determined x (changed e (identity_proper (accepted-above a)) a.reduced b.reduced (changed-pair_by_nothing (omega (arith, accepted-above a)) g z) refl)

  -- changing by c and then by d is changing by the combined change
  pub combined-pair : {c d : Change} {x y z : Parts} → ChangesPair m g h c x → x.outcome ≡ Answered
      → ChangesPair m x.left x.right d y → y.outcome ≡ Answered → ChangesPair m g h (combined_change m c d) z → y ≡ z
  combined-pair x x-answered y y-answered z =
      let s = went_pair x x-answered in
      let t = went_pair y y-answered in
      let pos = modulus_positive s.proper in
      let (a, b, l) = accepted-pair long-left long-right s.passed in
      let (d, p, e, q) = kept_pair a b s in
      change_pair_determined
      (changed s.passed (combined_proper s.proper t.proper) t.reduced_left t.reduced_right
      (changed-pair_numbers pos _ _ _ _ (sym (N.mod-mod _ m)) (sym (N.mod-mod _ m)) (changed-pair-combined pos s.is (rw (d, e) at t.is))) (rw (← y-answered)))
      z

  -- changing by c and then by what undoes it gives a normal pair back
  pub undone-pair : {c : Change} {x y : Parts} {u : Made} → Normal m h → ChangesPair m g h c x → x.outcome ≡ Answered
      → Undoing m c u → ChangesPair m x.left x.right u.change y → y ≡ record { outcome = Answered; left = g; right = h }
  unfolding check_pair check_two
  undone-pair z x x-answered u y =
      let s = went_pair x x-answered in
      let pos = modulus_positive s.proper in
      let k = undone_by (then_both (check_modulus m) _ (then_both (check_two m g h) _ s.passed).0).0 s.proper u in
      let (a, b, l) = accepted-pair long-left long-right s.passed in
      let (d, p, e, q) = kept_pair a b s in
      let y-answered = pair-answered (pair-accepted p q (rw (d, e) l)) (undone_proper s.proper k) y in
      let t = went_pair y y-answered in
      let (left, right) = changed-pair_equal pos (invertible-one m) t.reduced_left t.reduced_right a.reduced b.reduced
      (changed-pair_numbers pos _ _ 1 0 k.undoes.unit k.undoes.origin (changed-pair-combined pos s.is (rw (d, e) at t.is))) (changed-pair_by_nothing pos g z) in
      rw (← y-answered, ← left, ← right)
