-- The written text reads back.
--
--   decimal-digits, decimal-value      the digits of a number are digits, and stand for it
--   tree f, tree-spelled               the tree of the written text
--   tree-fits                          it keeps the limits
--   tree-means, tree-within            it means f, and nothing on the way is above the limit
--   written_sized                      the text has 1 to 8,192 bytes
--   reads_back                         reading the written text of an accepted polynomial answers it
--   written-read_back                  so for what the writer has written into an area
use mathlib.Core.Path.{◌≡◌, refl, sym, ap, ap₂, ◌∙◌}
use mathlib.Core.Bool.{cond}
use mathlib.Core.List.{List, [], ◌∷◌, ◌++◌, append_assoc, append-nil}
use Prim.Native.Nat.{ℕ, zero, suc, ◌+◌, ◌*◌, ◌/◌, ◌%◌, ◌≤◌, ◌<◌}
use native.Mathlib.Nat as N
use native.Mathlib.Omega.{arith}
use native.Mathlib.Decide.{dec_lt, ℕ_discrete}
use borrow.Author.Tests.{lt-ltb, le-ltb, eq-eqb, ne_eqb}
use lib.Dec.{ltb, eqb}
use lib.ListN.{length, take, drop, length-append, get_or-eq_default}
use lib.Seq.{take-append-le, take-length}
use Rattle.algebra.specs.Polynomial.{coef, power, degree, limit, terms, reduced}
use Rattle.algebra.proofs.Coefficients.{coef-plus}
use Rattle.algebra.proofs.Highest.{degree-above}
use Rattle.algebra.proofs.Numbers.{table_ext}
use Rattle.algebra.proofs.Reduction.{reduced_equal, reduced-reduced}
use Rattle.polynomial.proofs.Acceptance.{accepted-modulus, accepted-one, polynomial-accepted, degree-fits}
use Rattle.built.specs.Built as built-specs
use Rattle.built.proofs.Singles.{single-same, single-other, single-high, number-times, x_term, zero_low}
use Rattle.built.proofs.Joining.{reduced-low}
use Rattle.refusal.specs.declared.Concerns.TheVariants.{First}
use Rattle.refusal.specs.Refusal.{Answered}
use Rattle.polynomial.specs.Answers.{Answer}
use Rattle.polynomial.specs.Checks.{check_one, Accepted}
use Rattle.digits.specs.Digits.{decimal, digits, most_digits, digit}
use Rattle.text.specs.Grammar.{Sum, Product, term, add, single, multiply, plain, raised, number, unknown, spell, digits_value, digits_value_from, AllDigits, Decimal, Fits, FitsProduct, most_deep}
use Rattle.text.specs.Language.{Sentence}
use Rattle.text.specs.Meaning.{meaning, meaning_product, Within, WithinProduct}
use Rattle.text.specs.Answers.{Sized, ReadsText, check_text, WritesText, refused, wrote, checked_text}
use Rattle.text.specs.Answers.{Written}
use Rattle.refusal.proofs.Outcomes.{never, then_both}
use Rattle.text.specs.Writing.{term_text, lower_term, lower, text_of, most_term}
use Rattle.digits.proofs.Text.{tens, small, large}
use Rattle.text.proofs.Reached.{all_more}
use Rattle.text.proofs.Spelling.{value_last}
use Rattle.text.proofs.Promises.{read_exactly, two_passes}

-- ---- digits

-- a number below it has at most ten digits
abbrev ten_digits : ℕ
ten_digits = tens most_digits

-- the bytes, how many they are, and their number
record DecimalOf (k n : ℕ) (c : List ℕ) : Type 0 where
  all : AllDigits c
  some : 1 ≤ length c
  few : length c ≤ k
  is : digits_value c ≡ n

decimal_of : (k n : ℕ) → n < tens (suc k) → DecimalOf (suc k) n (digits (suc k) n)
unfolding AllDigits digits_value digits_value_from
decimal_of zero n h = rw (small zero n (omega arith)) (record { all = (omega arith, omega arith, tt); some = omega arith; few = omega arith; is = omega arith })
decimal_of (suc k) n h = go (decimal_of k (n / 10) (omega arith)) (dec_lt n 10)
  where
    go : DecimalOf (suc k) (n / 10) (digits (suc k) (n / 10)) → Dec (n < 10) → DecimalOf (suc (suc k)) n (digits (suc (suc k)) n)
    go d (yes l) = rw (small (suc k) n l) (record { all = (omega arith, omega arith, tt); some = omega arith; few = omega arith; is = omega arith })
    go d (no l) = rw (large (suc k) n (omega arith)) (record {
      all = all_more (digits (suc k) (n / 10)) (digit (n % 10)) d.all (omega arith) (omega arith);
      some = omega (arith, length-append (digits (suc k) (n / 10)) (digit (n % 10) ∷ []));
      few = omega (arith, length-append (digits (suc k) (n / 10)) (digit (n % 10) ∷ []), d.few);
      is = value_last (digits (suc k) (n / 10)) (digit (n % 10)) ∙ omega (arith, d.is);
    })

decimal-digits : (n : ℕ) → n < ten_digits → Decimal (decimal n)
unfolding decimal most_digits
decimal-digits n h = let d = decimal_of 9 n h in record { digits = d.all; some = d.some; few = d.few }

decimal-value : (n : ℕ) → n < ten_digits → digits_value (decimal n) ≡ n
unfolding decimal most_digits
decimal-value n h = (decimal_of 9 n h).is

-- a power does
limit-fits : (i : ℕ) → i ≤ limit → i < ten_digits
unfolding limit most_digits
limit-fits i l = omega arith

-- ---- the tree

abbrev product_of : ℕ → ℕ → Product
product_of c i = multiply (single (plain (number (decimal c)))) (raised unknown (decimal i))

unfoldable tree_from : Sum → ℕ → List ℕ → Sum
tree_from s zero f = s
tree_from s (suc k) f = tree_from (cond (eqb (coef f k) 0) s (add s (product_of (coef f k) k))) k f

unfoldable tree : List ℕ → Sum
tree f = tree_from (term (product_of (coef f (degree f)) (degree f))) (degree f) f

-- a zero changes nothing
by_zero : (P : Sum → Type 0) (s t : Sum) (c : ℕ) → (c ≡ 0 → P s) → ((c ≡ 0 → ⊥) → P t) → P (cond (eqb c 0) s t)
by_zero P s t c a b = go (ℕ_discrete c 0)
  where
    go : Dec (c ≡ 0) → P (cond (eqb c 0) s t)
    go (yes e) = rw (eq-eqb c 0 e) (a e)
    go (no e) = rw (ne_eqb c 0 e) (b e)

step-text : (s : Sum) (c k : ℕ) → Dec (c ≡ 0) → spell (cond (eqb c 0) s (add s (product_of c k))) ≡ spell s ++ lower_term c k
unfolding spell lower_term term_text
step-text s c k (yes e) = rw (eq-eqb c 0 e) (sym (append-nil (spell s)))
step-text s c k (no e) = rw (ne_eqb c 0 e) refl

spell_from : (k : ℕ) (s : Sum) (f : List ℕ) → spell (tree_from s k f) ≡ spell s ++ lower k f
unfolding tree_from lower
spell_from zero s f = sym (append-nil (spell s))
spell_from (suc k) s f = spell_from k (cond (eqb (coef f k) 0) s (add s (product_of (coef f k) k))) f ∙ ap (λ (l : List ℕ). l ++ lower k f) (step-text s (coef f k) k (ℕ_discrete (coef f k) 0)) ∙ append_assoc (spell s) (lower_term (coef f k) k) (lower k f)

leading-text : (c i : ℕ) → spell (term (product_of c i)) ≡ term_text c i
unfolding spell term_text
leading-text c i = refl

tree-spelled : (f : List ℕ) → spell (tree f) ≡ text_of f
unfolding tree text_of
tree-spelled f = spell_from (degree f) (term (product_of (coef f (degree f)) (degree f))) f ∙ ap (λ (l : List ℕ). l ++ lower (degree f) f) (leading-text (coef f (degree f)) (degree f))

-- ---- limits

fits-product : (c i : ℕ) → c < ten_digits → i ≤ limit → FitsProduct (product_of c i) most_deep 0
unfolding Fits
fits-product c i h l = (decimal-digits c h, (tt, decimal-digits i (limit-fits i l), rw (decimal-value i (limit-fits i l)) l))

-- the coefficients fit ten digits
record Tens (f : List ℕ) : Type 0 where
  small : (i : ℕ) → coef f i < ten_digits

fits_from : (k : ℕ) (s : Sum) (f : List ℕ) → Tens f → k ≤ limit → Fits s most_deep 0 → Fits (tree_from s k f) most_deep 0
unfolding tree_from Fits
fits_from zero s f t l h = h
fits_from (suc k) s f t l h =
    fits_from k (cond (eqb (coef f k) 0) s (add s (product_of (coef f k) k))) f t (omega arith)
    (by_zero (λ (u : Sum). Fits u most_deep 0) s (add s (product_of (coef f k) k)) (coef f k) (λ e. h) (λ e. (h, fits-product (coef f k) k (t.small k) (omega arith))))

tree-fits : (f : List ℕ) → Tens f → degree f ≤ limit → Fits (tree f) most_deep 0
unfolding tree Fits
tree-fits f t l = fits_from (degree f) (term (product_of (coef f (degree f)) (degree f))) f t (omega arith) (fits-product (coef f (degree f)) (degree f) (t.small (degree f)) l)

-- ---- meaning

product-coef : (c i m j : ℕ) → c < ten_digits → i ≤ limit → coef (meaning_product (product_of c i) m) j ≡ coef (built-specs.single c i) j
unfolding meaning
product-coef c i m j h l = rw (decimal-value c h, decimal-value i (limit-fits i l)) (number-times c (power (0 ∷ 1 ∷ []) i) j ∙ x_term c i j)

-- v below k, and 0 from k on
abbrev below : ℕ → ℕ → ℕ → ℕ
below k j v = cond (ltb j k) v 0

below_more : (k j : ℕ) (f : List ℕ) → coef (built-specs.single (coef f k) k) j + below k j (coef f j) ≡ below (suc k) j (coef f j)
below_more k j f = go (dec_lt j k) (ℕ_discrete k j)
  where
    go : Dec (j < k) → Dec (k ≡ j) → coef (built-specs.single (coef f k) k) j + below k j (coef f j) ≡ below (suc k) j (coef f j)
    go (yes l) d = rw (lt-ltb j k l, lt-ltb j (suc k) (omega arith), single-other (coef f k) k j (λ e. omega arith)) (N.zero-add (coef f j))
    go (no l) (yes e) = rw (← e, le-ltb k k (N.le_refl k), lt-ltb k (suc k) (N.le_refl (suc k)), single-same (coef f k) k) (N.add-zero (coef f k))
    go (no l) (no e) = rw (le-ltb j k (omega arith), le-ltb j (suc k) (omega arith), single-other (coef f k) k j e) refl

-- 0·x^k
nothing : (k j : ℕ) → coef (built-specs.single 0 k) j ≡ 0
unfolding built-specs.single
nothing zero zero = refl
nothing zero (suc j) = refl
nothing (suc k) zero = refl
nothing (suc k) (suc j) = nothing k j

more-coef : (s : Sum) (c k m j : ℕ) → c < ten_digits → k ≤ limit → coef (meaning (cond (eqb c 0) s (add s (product_of c k))) m) j ≡ coef (meaning s m) j + coef (built-specs.single c k) j
unfolding meaning
more-coef s c k m j h l =
    by_zero (λ (u : Sum). coef (meaning u m) j ≡ coef (meaning s m) j + coef (built-specs.single c k) j) s (add s (product_of c k)) c
    (λ e. rw (e, nothing k j) (sym (N.add-zero (coef (meaning s m) j))))
    (λ e. coef-plus (meaning s m) (meaning_product (product_of c k) m) j ∙ ap (λ (n : ℕ). coef (meaning s m) j + n) (product-coef c k m j h l))

from_coef : (k : ℕ) (s : Sum) (f : List ℕ) (m j : ℕ) → Tens f → k ≤ limit → coef (meaning (tree_from s k f) m) j ≡ coef (meaning s m) j + below k j (coef f j)
unfolding tree_from
from_coef zero s f m j t l = rw (le-ltb j 0 (omega arith)) (sym (N.add-zero (coef (meaning s m) j)))
from_coef (suc k) s f m j t l =
    from_coef k (cond (eqb (coef f k) 0) s (add s (product_of (coef f k) k))) f m j t (omega arith)
    ∙ ap (λ (n : ℕ). n + below k j (coef f j)) (more-coef s (coef f k) k m j (t.small k) (omega arith))
    ∙ N.add_assoc (coef (meaning s m) j) (coef (built-specs.single (coef f k) k) j) (below k j (coef f j))
    ∙ ap (λ (n : ℕ). coef (meaning s m) j + n) (below_more k j f)

first-coef : (c i m j : ℕ) → c < ten_digits → i ≤ limit → coef (meaning (term (product_of c i)) m) j ≡ coef (built-specs.single c i) j
unfolding meaning
first-coef c i m j h l = product-coef c i m j h l

tree-means : (f : List ℕ) (m j : ℕ) → Tens f → degree f ≤ limit → coef (meaning (tree f) m) j ≡ coef f j
unfolding tree
tree-means f m j t l =
    from_coef (degree f) (term (product_of (coef f (degree f)) (degree f))) f m j t (omega arith)
    ∙ ap (λ (n : ℕ). n + below (degree f) j (coef f j)) (first-coef (coef f (degree f)) (degree f) m j (t.small (degree f)) l)
    ∙ below_more (degree f) j f ∙ go (dec_lt j (suc (degree f)))
  where
    go : Dec (j < suc (degree f)) → below (suc (degree f)) j (coef f j) ≡ coef f j
    go (yes h) = rw (lt-ltb j (suc (degree f)) h) refl
    go (no h) = rw (le-ltb j (suc (degree f)) (omega arith)) (sym (degree-above f j (omega arith)))

-- ---- the limit

within-product : (c i m : ℕ) → c < ten_digits → i ≤ limit → WithinProduct (product_of c i) m
unfolding Within meaning
within-product c i m h l = (
  tt,
  (tt, record { all = λ k a b. zero_low (λ j g. sym (N.one-mul _) ∙ x_term 1 k j ∙ single-high 1 k j (omega (arith, decimal-value i (limit-fits i l))) g) }),
  zero_low (λ j g. product-coef c i m j h l ∙ single-high c i j l g),
)

record Inner (m : ℕ) (s : Sum) : Type 0 where
  within : Within s m
  low : (j : ℕ) → limit < j → coef (meaning s m) j ≡ 0

inner-add : (m : ℕ) (s : Sum) (c k : ℕ) → c < ten_digits → k ≤ limit → Inner m s → Inner m (add s (product_of c k))
unfolding Within meaning
inner-add m s c k h l i = record { within = (i.within, within-product c k m h l, zero_low zeros); low = zeros }
  where
    zeros : (j : ℕ) → limit < j → coef (meaning (add s (product_of c k)) m) j ≡ 0
    zeros j g = coef-plus (meaning s m) (meaning_product (product_of c k) m) j ∙ ap₂ ◌+◌ (i.low j g) (product-coef c k m j h l ∙ single-high c k j l g)

inner_from : (m k : ℕ) (s : Sum) (f : List ℕ) → Tens f → k ≤ limit → Inner m s → Inner m (tree_from s k f)
unfolding tree_from
inner_from m zero s f t l i = i
inner_from m (suc k) s f t l i =
    inner_from m k (cond (eqb (coef f k) 0) s (add s (product_of (coef f k) k))) f t (omega arith)
    (by_zero (Inner m) s (add s (product_of (coef f k) k)) (coef f k) (λ e. i) (λ e. inner-add m s (coef f k) k (t.small k) (omega arith) i))

inner_first : (m c k : ℕ) → c < ten_digits → k ≤ limit → Inner m (term (product_of c k))
unfolding Within meaning
inner_first m c k h l = record { within = within-product c k m h l; low = λ j g. product-coef c k m j h l ∙ single-high c k j l g }

tree-within : (f : List ℕ) (m : ℕ) → Tens f → degree f ≤ limit → Within (tree f) m
unfolding tree
tree-within f m t l = (inner_from m (degree f) (term (product_of (coef f (degree f)) (degree f))) f t (omega arith) (inner_first m (coef f (degree f)) (degree f) (t.small (degree f)) l)).within

-- ---- the length

term_size : (c i : ℕ) → c < ten_digits → i ≤ limit → (1 ≤ length (term_text c i)) × (length (term_text c i) ≤ most_term)
unfolding term_text most_term most_digits
term_size c i h l =
    let a = decimal-digits c h in
    let b = decimal-digits i (limit-fits i l) in
    let z = length-append (decimal c) (42 ∷ 120 ∷ 94 ∷ decimal i) in
    (omega (arith, z, a.some), omega (arith, z, a.few, b.few))

lower-term_size : (c i : ℕ) → c < ten_digits → i ≤ limit → Dec (c ≡ 0) → length (lower_term c i) ≤ 1 + most_term
unfolding lower_term
lower-term_size c i h l (yes e) = rw (eq-eqb c 0 e) (omega arith)
lower-term_size c i h l (no e) = rw (ne_eqb c 0 e) (omega (arith, (term_size c i h l).1))

lower_size : (k : ℕ) (f : List ℕ) → Tens f → k ≤ limit → length (lower k f) ≤ (1 + most_term) * k
unfolding lower most_term most_digits
lower_size zero f t l = omega arith
lower_size (suc k) f t l = omega (arith, length-append (lower_term (coef f k) k) (lower k f), lower-term_size (coef f k) k (t.small k) (omega arith) (ℕ_discrete (coef f k) 0), lower_size k f t (omega arith))

written_sized : (f : List ℕ) → Tens f → degree f ≤ limit → Sized (text_of f)
unfolding text_of most_term most_digits limit
written_sized f t l =
    let z = length-append (term_text (coef f (degree f)) (degree f)) (lower (degree f) f) in
    let a = term_size (coef f (degree f)) (degree f) (t.small (degree f)) l in
    let b = lower_size (degree f) f t (omega arith) in
    record { some = omega (arith, z, a); few = omega (arith, z, a, b) }

-- ---- back

module _ {m : ℕ} {f : List ℕ} (ok : Accepted m f) where
  tens_of : Tens f
  unfolding most_digits
  tens_of = record { small = λ i. go i (dec_lt i terms) }
    where
      go : (i : ℕ) → Dec (i < terms) → coef f i < ten_digits
      go i (yes l) = omega (arith, ok.reduced.below i l, (accepted-modulus ok.modulus).fits)
      go i (no l) = let e : coef f i ≡ 0 = get_or-eq_default f 0 (omega (arith, ok.reduced.long)) in omega arith

  pos : 0 < m
  pos = omega (arith, (accepted-modulus ok.modulus).above_one)

  same-reduced : reduced m (meaning (tree f) m) ≡ f
  unfolding reduced terms
  same-reduced =
      table_ext terms (λ i. coef (meaning (tree f) m) i % m) (λ i. coef f i % m) (λ i l. ap (λ (n : ℕ). n % m) (tree-means f m i tens_of (degree-fits ok)))
      ∙ reduced_equal (reduced-reduced m pos f) ok.reduced (reduced-low pos (zero_low (λ j g. get_or-eq_default f 0 (omega (arith, ok.reduced.long)))))

  sentence_of : Sentence most_deep (text_of f)
  sentence_of = record { tree = tree f; fits = tree-fits f tens_of (degree-fits ok); spelled = tree-spelled f }

  -- reading the written text answers the polynomial
  pub reads_back : {r : Answer} → ReadsText m (text_of f) r → r ≡ record { outcome = Answered; polynomial = f }
  unfolding sentence_of terms checked_text
  reads_back t =
      read_exactly ok.modulus (written_sized f tens_of (degree-fits ok)) sentence_of (tree-within f m tens_of (degree-fits ok)) t
      ∙ ap checked_text same-reduced ∙ rw (sym (two_passes ok.reduced) ∙ polynomial-accepted First ok) refl

-- what the writer wrote, read, answers the polynomial
pub written-read_back : {m : ℕ} {f xs ys : List ℕ} {x : Written} {r : Answer} → length f ≡ terms → WritesText m f xs ys x → x.outcome ≡ Answered
    → ReadsText m (take x.length ys) r → r ≡ record { outcome = Answered; polynomial = f }
unfolding check_text
written-read_back l (refused p a e) o t = absurd (never (ap (λ (w : Written). w.outcome) e) o)
written-read_back {m} {f} {xs} {ys} {x} l (wrote p a e) o t = reads_back (accepted-one l (then_both (check_one m f) _ p).0) (rw back at t)
  where
    back : take x.length ys ≡ text_of f
    back = ap₂ take (ap (λ (w : Written). w.length) e) a ∙ take-append-le (length (text_of f)) (text_of f) (drop (length (text_of f)) xs) (N.le_refl (length (text_of f))) ∙ take-length (text_of f)
