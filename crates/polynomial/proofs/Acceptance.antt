-- What the checks let pass.
--
--   coefficients-first          No. 2 comes before 3 and 4
--   coefficients-words          and at the modulus 2^32 it cannot occur
--   two-after-one               the checks of two polynomials are those of the first, then 2, 3, 4 for the second
--   accepted-polynomial, polynomial-accepted     what passes 2, 3, 4, whichever it is called, is accepted, and what is accepted passes
--   accepted-one, one-accepted  what passes the checks of one polynomial is accepted, and what is accepted passes them
--   accepted-two, two-accepted  the same for two
--   degrees-multiply, above-limit, within-limit     the composed degree, and No. 10
--   accepted-pair, pair-accepted     the checks of a pair that is composed
--   neither                     two tests of which neither holds
--   accepted-modulus            a modulus that passes No. 1 is one that the leaves take
--   accepted-above              so the modulus of an accepted polynomial is above 1
--   accepted_as                 an accepted polynomial as a leaf asks for it
--   accepted-changed            a changed polynomial is accepted as it was, and has its degree
--   degree-fits                 an accepted polynomial is within the desk's limit
use mathlib.Core.Path.{◌≡◌, refl, sym, ◌∙◌}
use mathlib.Core.Bool.{Bool, true, false, ◌||◌}
use mathlib.Core.Logic.{⊎_elim}
use mathlib.Core.List.{List}
use Prim.Native.Nat.{ℕ, ◌*◌, ◌≤◌, ◌<◌}
use native.Mathlib.Nat.{mod-eq_of_lt, mul-le-mul}
use native.Mathlib.Omega.{arith}
use lib.Dec.{ltb}
use lib.ListN.{length}
use borrow.Author.Tests.{ltb-false, eqb-true, not-false, lt-ltb, le-ltb, eq-eqb}
use Rattle.algebra.specs.Number.{Coprime, Modulus}
use Rattle.algebra.specs.Change.{Changed}
use Rattle.algebra.proofs.Reduction.{degree-monic}
use Rattle.algebra.proofs.Factors.{coprime-invertible}
use Rattle.algebra.proofs.Changes.{changed-monic}
use Rattle.algebra.specs.Polynomial.{coef, limit, terms, degree, Monic, Reduced, Held}
use Rattle.refusal.specs.Refusal.{◌then◌, is_refused, refusal, refuse}
use Rattle.refusal.specs.declared.Concerns.{Concerns}
use Rattle.refusal.specs.declared.Concerns.TheVariants.{Neither, First, Second}
use Rattle.refusal.specs.declared.Reason.TheVariants.{Limit}
use Rattle.refusal.specs.Refusal.{Outcome}
use Rattle.refusal.specs.Refusal.{Answered}
use Rattle.refusal.proofs.Outcomes.{then_refused, then_both, then_assoc, refuse-answered}
use Rattle.polynomial.specs.Moduli.{machine_words, smallest, largest, check_modulus}
use Rattle.polynomial.specs.Checks.{offending, check_coefficients, check_degree, check_leading, check_polynomial, check_one, check_two, check_pair, Accepted}
use Rattle.polynomial.proofs.Moduli.{taken-modulus}
use Rattle.polynomial.proofs.Lowest.{offending-none, none-offending}
use Rattle.algebra.proofs.Highest.{degree-below, degree-above}

-- where a coefficient is m or more, that is the refusal, whatever the degree and the leading coefficient
pub coefficients-first : (c : Concerns) (m : ℕ) (f : List ℕ) → is_refused (check_coefficients c m f) ≡ true → check_polynomial c m f ≡ check_coefficients c m f
unfolding check_polynomial
coefficients-first c m f h = then_refused (check_degree c f then check_leading c f) h

-- at the modulus 2^32 no machine word is m or more
pub coefficients-words : (c : Concerns) (f : List ℕ) → ((i : ℕ) → coef f i < machine_words) → check_coefficients c machine_words f ≡ Answered
unfolding check_coefficients
coefficients-words c f small =
    let none : offending machine_words f ≡ length f = none-offending machine_words f (record { below = λ i l. small i }) in
    simp (le-ltb (offending machine_words f) (length f) (omega arith))

-- the checks of two polynomials are those of the first, then 2, 3, 4 for the second
pub two-after-one : (m : ℕ) (f h : List ℕ) → check_two m f h ≡ (check_one m f then check_polynomial Second m h)
unfolding check_one check_two
two-after-one m f h = sym (then_assoc (check_modulus m) (check_polynomial First m f) (check_polynomial Second m h))

-- two tests of which neither holds
pub neither : (s t : Bool) → (s || t) ≡ false → (s ≡ false) × (t ≡ false)
neither true t h = (h, cc)
neither false t h = (refl, h)

-- a modulus that passes No. 1 is one that the leaves take
pub accepted-modulus : {m : ℕ} → check_modulus m ≡ Answered → Modulus m
unfolding machine_words smallest largest
accepted-modulus {m} h = ⊎_elim (λ e. record { above_one = omega arith; fits = omega arith }) (λ e. record { above_one = omega arith; fits = omega arith }) (taken-modulus m h)

-- so the modulus of an accepted polynomial is above 1
pub accepted-above : {m : ℕ} {f : List ℕ} → Accepted m f → 1 < m
accepted-above a = (accepted-modulus a.modulus).above_one

-- 2, 3, 4 of a polynomial, whichever it is called: what passes is accepted
pub accepted-polynomial : (c : Concerns) {m : ℕ} {f : List ℕ} → length f ≡ terms → check_modulus m ≡ Answered → check_polynomial c m f ≡ Answered → Accepted m f
unfolding check_polynomial check_coefficients check_degree check_leading
accepted-polynomial c {m} {f} long o h =
    let (two, three-four) = then_both (check_coefficients c m f) _ h in
    let (three, four) = then_both (check_degree c f) (check_leading c f) three-four in
    let passed = offending-none m f (ltb-false _ _ (refuse-answered _ _ _ two)) in
    let lead : coef f (degree f) ≡ 1 = eqb-true _ _ (not-false _ (refuse-answered _ _ _ four)) in
    record {
      modulus = o;
      reduced = record { long = long; below = λ i l. passed.below i (omega arith) };
      monic = record { top = rw lead; above = λ i l. rw (degree-above f i l) };
      two = ltb-false _ _ (refuse-answered _ _ _ three);
    }

-- and what is accepted passes
pub polynomial-accepted : (c : Concerns) {m : ℕ} {f : List ℕ} → Accepted m f → check_polynomial c m f ≡ Answered
unfolding terms check_polynomial check_coefficients check_degree check_leading
polynomial-accepted c {m} {f} a =
    let w = accepted-modulus a.modulus in
    let none : offending m f ≡ length f = none-offending m f (record { below = λ i l. a.reduced.below i (omega arith) }) in
    let small : coef f (degree f) < m = a.reduced.below (degree f) (omega (arith, degree-below f (omega arith))) in
    let lead : coef f (degree f) ≡ 1 = sym (mod-eq_of_lt small) ∙ a.monic.top ∙ mod-eq_of_lt (omega arith) in
    simp (le-ltb (offending m f) (length f) (omega arith), le-ltb (degree f) 2 a.two, eq-eqb _ _ lead)

-- what passes the checks of one polynomial is accepted
pub accepted-one : {m : ℕ} {f : List ℕ} → length f ≡ terms → check_one m f ≡ Answered → Accepted m f
unfolding check_one
accepted-one {m} {f} long h =
    let (one, others) = then_both (check_modulus m) (check_polynomial First m f) h in
    accepted-polynomial First long one others

-- what is accepted passes them
pub one-accepted : {m : ℕ} {f : List ℕ} → Accepted m f → check_one m f ≡ Answered
unfolding check_one
one-accepted a = simp (a.modulus, polynomial-accepted First a)

-- what passes the checks of two polynomials is accepted
pub accepted-two : {m : ℕ} {f h : List ℕ} → length f ≡ terms → length h ≡ terms → check_two m f h ≡ Answered → Accepted m f × Accepted m h
unfolding check_one
accepted-two {m} {f} {h} long long-h e =
    let (first, second) = then_both (check_one m f) (check_polynomial Second m h) (sym (two-after-one m f h) ∙ e) in
    let (one, others) = then_both (check_modulus m) (check_polynomial First m f) first in
    (accepted-one long first, accepted-polynomial Second long-h one second)

-- two that are accepted pass them
pub two-accepted : {m : ℕ} {f h : List ℕ} → Accepted m f → Accepted m h → check_two m f h ≡ Answered
two-accepted {m} {f} {h} a b = two-after-one m f h ∙ simp (one-accepted a, polynomial-accepted Second b)

-- an accepted polynomial is within the desk's limit
pub degree-fits : {m : ℕ} {f : List ℕ} → Accepted m f → degree f ≤ limit
unfolding terms
degree-fits {m} {f} a = omega (arith, degree-below f (omega arith))

-- the degrees of two polynomials of the desk multiply within a word
pub degrees-multiply : (g h : List ℕ) {r s : ℕ} → length g ≡ terms → r ≡ degree g → length h ≡ terms → s ≡ degree h → r * s ≤ limit * limit
unfolding terms
degrees-multiply g h {r} {s} lg er lh es = mul-le-mul (under g lg er) (under h lh es)
  where
    under : (f : List ℕ) {n : ℕ} → length f ≡ terms → n ≡ degree f → n ≤ limit
    under f l e = omega (arith, degree-below f (omega arith))

-- No. 10, by the test on the degrees
pub above-limit : (g h : List ℕ) {r s : ℕ} {o : Outcome} → r ≡ degree g → s ≡ degree h → limit < r * s → o ≡ refusal Neither Limit → o ≡ refuse (ltb limit (degree g * degree h)) Neither Limit
above-limit g h er es l e = rw (← er, ← es) (simp (lt-ltb _ _ l) e)

pub within-limit : (g h : List ℕ) {r s : ℕ} → r ≡ degree g → s ≡ degree h → r * s ≤ limit → Answered ≡ refuse (ltb limit (degree g * degree h)) Neither Limit
within-limit g h er es l = rw (← er, ← es) (simp (le-ltb _ _ l))

-- what passes the checks of a pair: both are accepted, and the composed degree is within the limit
pub accepted-pair : {m : ℕ} {g h : List ℕ} → length g ≡ terms → length h ≡ terms → check_pair m g h ≡ Answered → Accepted m g × Accepted m h × (degree g * degree h ≤ limit)
unfolding check_pair
accepted-pair {m} {g} {h} lg lh e =
    let (two, ten) = then_both (check_two m g h) _ e in
    let (a, b) = accepted-two lg lh two in
    (a, b, ltb-false _ _ (refuse-answered _ _ _ ten))

pub pair-accepted : {m : ℕ} {g h : List ℕ} → Accepted m g → Accepted m h → degree g * degree h ≤ limit → check_pair m g h ≡ Answered
unfolding check_pair
pair-accepted {m} {g} {h} a b l = rw (two-accepted a b) (sym (within-limit g h refl refl l))

-- an accepted polynomial, by its degree as the code has it
pub accepted_as : {m n : ℕ} {f : List ℕ} → n ≡ degree f → Accepted m f → Modulus m × Held m n f × (2 ≤ n)
accepted_as {m} {n} {f} e a =
    (accepted-modulus a.modulus, record { reduced = a.reduced; monic = rw e a.monic; within = rw e (degree-fits a) }, rw e a.two)

-- f changed, and reduced, is accepted as f is, and has its degree
pub accepted-changed : {m a b : ℕ} {f f' : List ℕ} → Accepted m f → Reduced m f' → Coprime a m → Changed m (degree f) a b f f' → Accepted m f' × (degree f' ≡ degree f)
accepted-changed {m} {a} {b} {f} {f'} acc red unit changed = (record { modulus = acc.modulus; reduced = red; monic = rw same monic; two = rw same acc.two }, same)
  where
    monic : Monic m (degree f) f'
    monic = let w = accepted-modulus acc.modulus in changed-monic (omega arith) (omega (arith, acc.two)) (coprime-invertible m (omega arith) unit) acc.monic changed

    same : degree f' ≡ degree f
    same = let w = accepted-modulus acc.modulus in degree-monic (omega arith) red monic
