-- What was read, told from the state: the text so far, and that it begins a sentence.
--
--   text_stack, text-frame    the text of the open brackets, and of what stands before a factor
--   Fine most w q             q has read w, and what it has read keeps the limits
--   fine-step, fine-run       a step, a run
--   fine-start                a state that is no fault has read what begins a sentence
--   fine-good                 and a sentence where its verdict is good
use mathlib.Core.Path.{◌≡◌, refl, sym, ◌∙◌}
use mathlib.Core.Bool.{Bool, true, false, cond, and-eq-true_iff}
use mathlib.Core.List.{List, [], ◌∷◌, ◌++◌, append_assoc, append-nil}
use Prim.Native.Nat.{ℕ, ◌≤◌, ◌<◌}
use native.Mathlib.Omega.{arith}
use borrow.Author.Tests.{eqb-true, ltb-true, leb-true}
use lib.Dec.{ltb, leb, eqb}
use lib.ListN.{length, length-append}
use Rattle.algebra.specs.Polynomial.{limit}
use Rattle.text.specs.Grammar.{Sum, Product, Factor, plain, raised, number, unknown, bracket, spell, spell_product, spell_factor, spell_base, digits_value, digits_value_from, AllDigits, Decimal, Fits, FitsProduct, FitsFactor, FitsBase, number_digits, most_power}
use Rattle.text.specs.Language.{Start}
use Rattle.text.specs.States.{Before, nothing, minus, plus, less, Left, none, some, Frame, frame, Fault, State, begin, expect, caret, factor, stuck, fresh, to_sum, to_product, joined, timed, is_digit, opening, longer, powered, closed, step, run, good, verdict}

-- ---- the text before a factor

abbrev text-before : Before → List ℕ
text-before nothing = []
text-before minus = 45 ∷ []
text-before (plus s) = spell s ++ (43 ∷ [])
text-before (less s) = spell s ++ (45 ∷ [])

abbrev text-left : Left → List ℕ
text-left none = []
text-left (some p) = spell_product p ++ (42 ∷ [])

abbrev text-frame : Frame → List ℕ
text-frame (frame b l) = text-before b ++ text-left l

abbrev text_stack : List Frame → List ℕ
text_stack [] = []
text_stack (f ∷ st) = text_stack st ++ (text-frame f ++ (40 ∷ []))

spell_to_sum : (b : Before) (p : Product) → spell (to_sum b p) ≡ text-before b ++ spell_product p
unfolding spell
spell_to_sum nothing p = refl
spell_to_sum minus p = refl
spell_to_sum (plus s) p = simp append_assoc
spell_to_sum (less s) p = simp append_assoc

spell_to_product : (l : Left) (t : Factor) → spell_product (to_product l t) ≡ text-left l ++ spell_factor t
unfolding spell
spell_to_product none t = refl
spell_to_product (some p) t = simp append_assoc

spell-joined : (f : Frame) (t : Factor) → spell (joined f t) ≡ text-frame f ++ spell_factor t
spell-joined (frame b l) t = rw (spell_to_sum b (to_product l t), spell_to_product l t) (sym (append_assoc (text-before b) (text-left l) (spell_factor t)))

-- ---- the limits

abbrev FitsBefore : Before → ℕ → ℕ → Type 0
FitsBefore nothing most d = Unit
FitsBefore minus most d = Unit
FitsBefore (plus s) most d = Fits s most d
FitsBefore (less s) most d = Fits s most d

abbrev FitsLeft : Left → ℕ → ℕ → Type 0
FitsLeft none most d = Unit
FitsLeft (some p) most d = FitsProduct p most d

abbrev FitsFrame : Frame → ℕ → ℕ → Type 0
FitsFrame (frame b l) most d = FitsBefore b most d × FitsLeft l most d

abbrev FitsStack : List Frame → ℕ → Type 0
FitsStack [] most = Unit
FitsStack (f ∷ st) most = FitsFrame f most (length st) × (length st < most) × FitsStack st most

fits_to_sum : (b : Before) (p : Product) (most d : ℕ) → FitsBefore b most d → FitsProduct p most d → Fits (to_sum b p) most d
unfolding Fits
fits_to_sum nothing p most d h g = g
fits_to_sum minus p most d h g = g
fits_to_sum (plus s) p most d h g = (h, g)
fits_to_sum (less s) p most d h g = (h, g)

fits_to_product : (l : Left) (t : Factor) (most d : ℕ) → FitsLeft l most d → FitsFactor t most d → FitsProduct (to_product l t) most d
unfolding Fits
fits_to_product none t most d h g = g
fits_to_product (some p) t most d h g = (h, g)

fits-joined : (f : Frame) (t : Factor) (most d : ℕ) → FitsFrame f most d → FitsFactor t most d → Fits (joined f t) most d
fits-joined (frame b l) t most d h g = fits_to_sum b (to_product l t) most d h.0 (fits_to_product l t most d h.1 g)

-- ---- a state and what it has read

-- w is the text of the open brackets, of the frame, and u
pub record Place (most : ℕ) (w : List ℕ) (st : List Frame) (f : Frame) (u : List ℕ) : Type 0 where
  pub reads : text_stack st ++ (text-frame f ++ u) ≡ w
  pub stack : FitsStack st most
  pub last : FitsFrame f most (length st)

abbrev pub Fine : ℕ → List ℕ → State → Type 0
Fine most w (begin st) = Place most w st fresh []
Fine most w (expect st f) = Place most w st f []
Fine most w (caret st f a) = Place most w st f (spell_base a ++ (94 ∷ [])) × FitsBase a most (length st)
Fine most w (factor st f t) = Place most w st f (spell_factor t) × FitsFactor t most (length st)
Fine most w (stuck e) = Unit

pub by_cond : (P : State → Type 0) (t : Bool) {x y : State} → (t ≡ true → P x) → (t ≡ false → P y) → P (cond t x y)
by_cond P true h g = h refl
by_cond P false h g = g refl

pub digit_bounds : (b : ℕ) → is_digit b ≡ true → (48 ≤ b) × (b ≤ 57)
digit_bounds b e = let (h, g) = (and-eq-true_iff (leb 48 b) (leb b 57)).0 e in (leb-true 48 b h, leb-true b 57 g)

module _ {most : ℕ} {w : List ℕ} {st : List Frame} {f : Frame} where
  -- one byte more after the frame
  longer-place : {u : List ℕ} (b : ℕ) → Place most w st f u → Place most (w ++ (b ∷ [])) st f (u ++ (b ∷ []))
  longer-place {u} b p =
      record {
        reads = rw (← p.reads) (simp append_assoc);
        stack = p.stack;
        last = p.last;
      }

one-digit : (b : ℕ) → 48 ≤ b → b ≤ 57 → Decimal (b ∷ [])
unfolding AllDigits
one-digit b h g = record { digits = (h, g, tt); some = omega arith; few = omega arith }

single-digit : (b : ℕ) → b ≤ 57 → digits_value (b ∷ []) ≤ limit
unfolding digits_value digits_value_from limit
single-digit b g = omega arith

pub all_more : (c : List ℕ) (b : ℕ) → AllDigits c → 48 ≤ b → b ≤ 57 → AllDigits (c ++ (b ∷ []))
unfolding AllDigits
all_more [] b a h g = (h, g, tt)
all_more (x ∷ c) b a h g = (a.0, a.1, all_more c b a.2 h g)

more-digits : (c : List ℕ) (b : ℕ) → Decimal c → 48 ≤ b → b ≤ 57 → length c < 10 → Decimal (c ++ (b ∷ []))
more-digits c b d h g l =
    record {
      digits = all_more c b d.digits h g;
      some = omega (arith, length-append c (b ∷ []));
      few = omega (arith, length-append c (b ∷ []));
    }

module _ (most : ℕ) (w : List ℕ) (st : List Frame) where
  fine-longer : (f : Frame) (t : Factor) (b : ℕ) → Fine most w (factor st f t) → 48 ≤ b → b ≤ 57 → Fine most (w ++ (b ∷ [])) (longer st f t b)
  unfolding spell Fits
  fine-longer f (plain (number c)) b p h g =
      by_cond (Fine most (w ++ (b ∷ []))) (ltb (length c) number_digits)
      (λ l. (longer-place b p.0, more-digits c b p.1 h g (ltb-true (length c) 10 l)))
      (λ l. tt)
  fine-longer f (plain unknown) b p h g = tt
  fine-longer f (plain (bracket s)) b p h g = tt
  fine-longer f (raised a c) b p h g =
      by_cond (Fine most (w ++ (b ∷ []))) (ltb (length c) number_digits)
      (λ l. by_cond (Fine most (w ++ (b ∷ []))) (leb (digits_value (c ++ (b ∷ []))) most_power)
      (λ v. (rw append_assoc at (longer-place b p.0), (p.1.0, more-digits c b p.1.1 h g (ltb-true (length c) 10 l), leb-true (digits_value (c ++ (b ∷ []))) limit v)))
      (λ v. tt))
      (λ l. tt)

  fine-powered : (f : Frame) (t : Factor) → Fine most w (factor st f t) → Fine most (w ++ (94 ∷ [])) (powered st f t)
  unfolding spell Fits
  fine-powered f (plain a) p = (longer-place 94 p.0, p.1)
  fine-powered f (raised a c) p = tt

  fine_negated : Fine most w (begin st) → Fine most (w ++ (45 ∷ [])) (expect st (frame minus none))
  fine_negated p = record { reads = rw (← p.reads) (simp (append_assoc, append-nil)); stack = p.stack; last = (tt, tt) }

  module _ (f : Frame) (t : Factor) (p : Fine most w (factor st f t)) where
    fine-plus : Fine most (w ++ (43 ∷ [])) (expect st (frame (plus (joined f t)) none))
    fine-plus = record { reads = rw (← p.0.reads, spell-joined f t) (simp (append_assoc, append-nil)); stack = p.0.stack; last = (fits-joined f t most (length st) p.0.last p.1, tt) }

    fine-less : Fine most (w ++ (45 ∷ [])) (expect st (frame (less (joined f t)) none))
    fine-less = record { reads = rw (← p.0.reads, spell-joined f t) (simp (append_assoc, append-nil)); stack = p.0.stack; last = (fits-joined f t most (length st) p.0.last p.1, tt) }

  fine-times : (f : Frame) (t : Factor) → Fine most w (factor st f t) → Fine most (w ++ (42 ∷ [])) (expect st (timed f t))
  fine-times (frame b l) t p =
      record {
        reads = rw (← p.0.reads, spell_to_product l t) (simp (append_assoc, append-nil));
        stack = p.0.stack;
        last = (p.0.last.0, fits_to_product l t most (length st) p.0.last.1 p.1);
      }

fine-closed : (most : ℕ) (w : List ℕ) (st : List Frame) (f : Frame) (t : Factor) → Fine most w (factor st f t) → Fine most (w ++ (41 ∷ [])) (closed st (joined f t))
unfolding spell Fits
fine-closed most w [] f t p = tt
fine-closed most w (g ∷ st) f t p = (
  record { reads = rw (← p.0.reads, spell-joined f t) (simp append_assoc); stack = p.0.stack.2; last = p.0.stack.0 },
  (p.0.stack.1, fits-joined f t most (length (g ∷ st)) p.0.last p.1),
)

fine_open : (most : ℕ) (w : List ℕ) (st : List Frame) (f : Frame) → Fine most w (expect st f) → length st < most → Fine most (w ++ (40 ∷ [])) (begin (f ∷ st))
fine_open most w st f p l = record { reads = rw (← p.reads) (simp (append_assoc, append-nil)); stack = (p.last, l, p.stack); last = (tt, tt) }

-- the byte is the one that was tested
module _ (most : ℕ) (w : List ℕ) (q : State) where
  tested : (b c : ℕ) → eqb b c ≡ true → Fine most (w ++ (c ∷ [])) q → Fine most (w ++ (b ∷ [])) q
  tested b c e h = rw (eqb-true b c e) h

fine-opening : (most : ℕ) (w : List ℕ) (st : List Frame) (f : Frame) (b : ℕ) → Fine most w (expect st f) → Fine most (w ++ (b ∷ [])) (opening most st f b)
unfolding spell Fits
fine-opening most w st f b p =
    by_cond (Fine most (w ++ (b ∷ []))) (is_digit b)
    (λ e. let (h, g) = digit_bounds b e in (longer-place b p, one-digit b h g))
    (λ e. by_cond (Fine most (w ++ (b ∷ []))) (eqb b 120)
    (λ x. tested most w (factor st f (plain unknown)) b 120 x (longer-place 120 p, tt))
    (λ x. by_cond (Fine most (w ++ (b ∷ []))) (eqb b 40)
    (λ o. by_cond (Fine most (w ++ (b ∷ []))) (ltb (length st) most)
    (λ l. tested most w (begin (f ∷ st)) b 40 o (fine_open most w st f p (ltb-true (length st) most l)))
    (λ l. tt))
    (λ o. tt)))

pub fine-step : (most : ℕ) (w : List ℕ) (q : State) (b : ℕ) → Fine most w q → Fine most (w ++ (b ∷ [])) (step most q b)
unfolding step spell Fits
fine-step most w (begin st) b p =
    by_cond (Fine most (w ++ (b ∷ []))) (eqb b 45)
    (λ m. tested most w (expect st (frame minus none)) b 45 m (fine_negated most w st p))
    (λ m. fine-opening most w st fresh b p)
fine-step most w (expect st f) b p = fine-opening most w st f b p
fine-step most w (caret st f a) b p =
    by_cond (Fine most (w ++ (b ∷ []))) (is_digit b)
    (λ e. let (h, g) = digit_bounds b e in (rw append_assoc at (longer-place b p.0), (p.1, one-digit b h g, single-digit b g)))
    (λ e. tt)
fine-step most w (factor st f t) b p =
    by_cond (Fine most (w ++ (b ∷ []))) (is_digit b)
    (λ e. let (h, g) = digit_bounds b e in fine-longer most w st f t b p h g)
    (λ e. by_cond (Fine most (w ++ (b ∷ []))) (eqb b 94)
    (λ x. tested most w (powered st f t) b 94 x (fine-powered most w st f t p))
    (λ x. by_cond (Fine most (w ++ (b ∷ []))) (eqb b 43)
    (λ y. tested most w (expect st (frame (plus (joined f t)) none)) b 43 y (fine-plus most w st f t p))
    (λ y. by_cond (Fine most (w ++ (b ∷ []))) (eqb b 45)
    (λ z. tested most w (expect st (frame (less (joined f t)) none)) b 45 z (fine-less most w st f t p))
    (λ z. by_cond (Fine most (w ++ (b ∷ []))) (eqb b 42)
    (λ u. tested most w (expect st (timed f t)) b 42 u (fine-times most w st f t p))
    (λ u. by_cond (Fine most (w ++ (b ∷ []))) (eqb b 41)
    (λ v. tested most w (closed st (joined f t)) b 41 v (fine-closed most w st f t p))
    (λ v. tt))))))
fine-step most w (stuck e) b p = tt

pub fine-run : (most : ℕ) (w : List ℕ) (q : State) (s : List ℕ) → Fine most w q → Fine most (w ++ s) (run most q s)
unfolding run
fine-run most w q [] p = rw append-nil p
fine-run most w q (b ∷ s) p = rw append_assoc at (fine-run most (w ++ (b ∷ [])) (step most q b) s (fine-step most w q b p))

pub fine-first : (most : ℕ) → Fine most [] (begin [])
fine-first most = record { reads = refl; stack = tt; last = (tt, tt) }

-- ---- how a text goes on to a sentence

-- the open brackets closed after s
abbrev close : List Frame → Sum → Sum
close [] s = s
close (f ∷ st) s = close st (joined f (plain (bracket s)))

abbrev closing : List Frame → List ℕ
closing [] = []
closing (f ∷ st) = 41 ∷ closing st

spell_close : (st : List Frame) (s : Sum) → spell (close st s) ≡ text_stack st ++ (spell s ++ closing st)
unfolding spell
spell_close [] s = sym (append-nil (spell s))
spell_close (f ∷ st) s = spell_close st (joined f (plain (bracket s))) ∙ rw (spell-joined f (plain (bracket s))) (simp append_assoc)

fits_close : (most : ℕ) (st : List Frame) (s : Sum) → FitsStack st most → Fits s most (length st) → Fits (close st s) most 0
unfolding Fits
fits_close most [] s h g = g
fits_close most (f ∷ st) s h g = fits_close most st (joined f (plain (bracket s))) h.2 (fits-joined f (plain (bracket s)) most (length st) h.0 (h.1, g))

module _ (most : ℕ) (w : List ℕ) (st : List Frame) (f : Frame) where
  -- with the factor t, whose bytes are u and then v, and closed
  begins : (t : Factor) (u v : List ℕ) → u ++ v ≡ spell_factor t → Place most w st f u → FitsFactor t most (length st) → Start most w
  begins t u v e p h =
      record {
        rest = v ++ closing st;
        sentence = record {
          tree = close st (joined f t);
          fits = fits_close most st (joined f t) p.stack (fits-joined f t most (length st) p.last h);
          spelled = spell_close st (joined f t) ∙ rw (spell-joined f t, ← e, ← p.reads) (simp append_assoc);
        };
      }

pub fine-start : (most : ℕ) (w : List ℕ) (q : State) → Fine most w q → ((e : Fault) → q ≡ stuck e → ⊥) → Start most w
unfolding spell Fits AllDigits digits_value_from digits_value
fine-start most w (begin st) p n = begins most w st fresh (plain unknown) [] (120 ∷ []) refl p tt
fine-start most w (expect st f) p n = begins most w st f (plain unknown) [] (120 ∷ []) refl p tt
fine-start most w (caret st f a) p n = begins most w st f (raised a (48 ∷ [])) (spell_base a ++ (94 ∷ [])) (48 ∷ []) (simp append_assoc) p.0 (p.1, one-digit 48 (omega arith) (omega arith), omega arith)
fine-start most w (factor st f t) p n = begins most w st f t (spell_factor t) [] (append-nil (spell_factor t)) p.0 p.1
fine-start most w (stuck e) p n = absurd (n e refl)

pub fine-good : (most : ℕ) (w : List ℕ) (q : State) (s : Sum) → Fine most w q → verdict q ≡ good s → (Fits s most 0) × (spell s ≡ w)
fine-good most w (begin st) s p e = absurd (let z : ◌≡◌ {A = ℕ} 0 1 = cc in omega arith)
fine-good most w (expect st f) s p e = absurd (let z : ◌≡◌ {A = ℕ} 0 1 = cc in omega arith)
fine-good most w (caret st f a) s p e = absurd (let z : ◌≡◌ {A = ℕ} 0 1 = cc in omega arith)
fine-good most w (factor [] f t) s p e =
    let j : joined f t ≡ s = cc in
    rw (← j) (fits-joined f t most 0 p.0.last p.1, spell-joined f t ∙ p.0.reads)
fine-good most w (factor (g ∷ st) f t) s p e = absurd (let z : ◌≡◌ {A = ℕ} 0 1 = cc in omega arith)
fine-good most w (stuck x) s p e = absurd (let z : ◌≡◌ {A = ℕ} 0 1 = cc in omega arith)
