-- A spelling leads the reader to the tree: so each text has one tree.
--
--   run-append, run-stuck                     a text and then another; a fault stays
--   product-plus, sum-plus, ..                a sign after a product, after a sum
--   value-append, value_last                  the number of digits and then others, and then one
--   digits-run, power-run                     the digits of a number, of a power
--   base-run, factor-run, product-run, sum-run     the spelling of a tree leads to the state after it
--   one-meaning                               two trees with one spelling are one tree
use mathlib.Core.Path.{◌≡◌, refl, sym, ap, ◌∙◌}
use mathlib.Core.List.{List, [], ◌∷◌, ◌++◌, append_assoc, append-nil}
use Prim.Native.Nat.{ℕ, ◌+◌, ◌*◌, ◌-◌, ◌≤◌, ◌<◌}
use native.Mathlib.Omega.{arith}
use native.Mathlib.Nat.{le_refl, le_trans}
use borrow.Author.Tests.{ne_eqb, lt-ltb, le-leb}
use lib.ListN.{length, length-append}
use Rattle.algebra.specs.Polynomial.{limit}
use Rattle.text.specs.Grammar.{Sum, Product, Factor, Base, term, negative, add, subtract, single, multiply, plain, raised, number, unknown, bracket, spell, spell_product, spell_factor, spell_base, digits_value, digits_value_from, AllDigits, Decimal, Fits, FitsProduct, FitsFactor, FitsBase}
use Rattle.text.specs.States.{Before, nothing, minus, plus, less, none, some, Frame, frame, Fault, State, begin, expect, caret, factor, stuck, fresh, to_sum, step, run, at_product, at_sum, good, verdict}

pub run-append : (most : ℕ) (q : State) (a b : List ℕ) → run most q (a ++ b) ≡ run most (run most q a) b
unfolding run
run-append most q [] b = refl
run-append most q (x ∷ a) b = run-append most (step most q x) a b

pub run-stuck : (most : ℕ) (e : Fault) (s : List ℕ) → run most (stuck e) s ≡ stuck e
unfolding run step
run-stuck most e [] = refl
run-stuck most e (x ∷ s) = run-stuck most e s

-- ---- a sign after a product, after a sum

module _ (most : ℕ) (st : List Frame) where
  pub product-plus : (b : Before) (p : Product) → step most (at_product st b p) 43 ≡ expect st (frame (plus (to_sum b p)) none)
  unfolding step
  product-plus b (single t) = refl
  product-plus b (multiply p t) = refl

  pub product-less : (b : Before) (p : Product) → step most (at_product st b p) 45 ≡ expect st (frame (less (to_sum b p)) none)
  unfolding step
  product-less b (single t) = refl
  product-less b (multiply p t) = refl

  pub product-times : (b : Before) (p : Product) → step most (at_product st b p) 42 ≡ expect st (frame b (some p))
  unfolding step
  product-times b (single t) = refl
  product-times b (multiply p t) = refl

  pub product_close : (g : Frame) (b : Before) (p : Product) → step most (at_product (g ∷ st) b p) 41 ≡ factor st g (plain (bracket (to_sum b p)))
  unfolding step
  product_close g b (single t) = refl
  product_close g b (multiply p t) = refl

  pub sum-plus : (s : Sum) → step most (at_sum st s) 43 ≡ expect st (frame (plus s) none)
  sum-plus (term p) = product-plus nothing p
  sum-plus (negative p) = product-plus minus p
  sum-plus (add s p) = product-plus (plus s) p
  sum-plus (subtract s p) = product-plus (less s) p

  pub sum_less : (s : Sum) → step most (at_sum st s) 45 ≡ expect st (frame (less s) none)
  sum_less (term p) = product-less nothing p
  sum_less (negative p) = product-less minus p
  sum_less (add s p) = product-less (plus s) p
  sum_less (subtract s p) = product-less (less s) p

  pub sum_close : (g : Frame) (s : Sum) → step most (at_sum (g ∷ st) s) 41 ≡ factor st g (plain (bracket s))
  sum_close g (term p) = product_close g nothing p
  sum_close g (negative p) = product_close g minus p
  sum_close g (add s p) = product_close g (plus s) p
  sum_close g (subtract s p) = product_close g (less s) p

-- the state after a sum is the sum's verdict
pub sum-verdict : (s : Sum) → verdict (at_sum [] s) ≡ good s
sum-verdict (term (single t)) = refl
sum-verdict (term (multiply p t)) = refl
sum-verdict (negative (single t)) = refl
sum-verdict (negative (multiply p t)) = refl
sum-verdict (add s (single t)) = refl
sum-verdict (add s (multiply p t)) = refl
sum-verdict (subtract s (single t)) = refl
sum-verdict (subtract s (multiply p t)) = refl

-- ---- digits

value-above : (v : ℕ) (c : List ℕ) → v ≤ digits_value_from v c
unfolding digits_value_from
value-above v [] = le_refl v
value-above v (b ∷ c) = le_trans (omega arith) (value-above (10 * v + (b - 48)) c)

pub value-append : (v : ℕ) (a c : List ℕ) → digits_value_from v (a ++ c) ≡ digits_value_from (digits_value_from v a) c
unfolding digits_value_from
value-append v [] c = refl
value-append v (b ∷ a) c = value-append (10 * v + (b - 48)) a c

pub value_last : (c : List ℕ) (b : ℕ) → digits_value (c ++ (b ∷ [])) ≡ 10 * digits_value c + (b - 48)
unfolding digits_value digits_value_from
value_last c b = value-append 0 c (b ∷ [])

value-less : (a c : List ℕ) → digits_value a ≤ digits_value (a ++ c)
unfolding digits_value
value-less a c = rw (value-append 0 a c) (value-above (digits_value_from 0 a) c)

module _ (most : ℕ) (st : List Frame) (f : Frame) where
  pub number_more : (c : List ℕ) (b : ℕ) → 48 ≤ b → b ≤ 57 → length c < 10 → step most (factor st f (plain (number c))) b ≡ factor st f (plain (number (c ++ (b ∷ []))))
  unfolding step
  number_more c b h g l = simp (le-leb 48 b h, le-leb b 57 g, lt-ltb (length c) 10 l)

  pub power-more : (a : Base) (c : List ℕ) (b : ℕ) → 48 ≤ b → b ≤ 57 → length c < 10 → digits_value (c ++ (b ∷ [])) ≤ limit → step most (factor st f (raised a c)) b ≡ factor st f (raised a (c ++ (b ∷ [])))
  unfolding step
  power-more a c b h g l v = simp (le-leb 48 b h, le-leb b 57 g, lt-ltb (length c) 10 l, le-leb (digits_value (c ++ (b ∷ []))) limit v)

  digits-run : (e c : List ℕ) → AllDigits e → length c + length e ≤ 10 → run most (factor st f (plain (number c))) e ≡ factor st f (plain (number (c ++ e)))
  unfolding run AllDigits
  digits-run [] c a l = rw append-nil refl
  digits-run (b ∷ e) c a l =
      ap (λ q. run most q e) (number_more c b a.0 a.1 (omega arith))
      ∙ digits-run e (c ++ (b ∷ [])) a.2 (omega (arith, length-append c (b ∷ [])))
      ∙ ap (λ (k : List ℕ). factor st f (plain (number k))) (append_assoc c (b ∷ []) e)

  power-run : (a : Base) (e c : List ℕ) → AllDigits e → length c + length e ≤ 10 → digits_value (c ++ e) ≤ limit → run most (factor st f (raised a c)) e ≡ factor st f (raised a (c ++ e))
  unfolding run AllDigits
  power-run a [] c d l v = rw append-nil refl
  power-run a (b ∷ e) c d l v =
      let w : digits_value ((c ++ (b ∷ [])) ++ e) ≤ limit = rw append_assoc v in
      ap (λ q. run most q e) (power-more a c b d.0 d.1 (omega arith) (le_trans (value-less (c ++ (b ∷ [])) e) w))
      ∙ power-run a e (c ++ (b ∷ [])) d.2 (omega (arith, length-append c (b ∷ []))) w
      ∙ ap (λ (k : List ℕ). factor st f (raised a k)) (append_assoc c (b ∷ []) e)

  pub number-run : (c : List ℕ) → Decimal c → run most (expect st f) c ≡ factor st f (plain (number c))
  unfolding run step AllDigits
  number-run [] d = absurd (omega (arith, d.some))
  number-run (b ∷ c) d =
      ap (λ q. run most q c) (simp (le-leb 48 b d.digits.0, le-leb b 57 d.digits.1))
      ∙ digits-run c (b ∷ []) d.digits.2 (omega (arith, d.few))

  pub raised-run : (a : Base) (c : List ℕ) → Decimal c → digits_value c ≤ limit → run most (caret st f a) c ≡ factor st f (raised a c)
  unfolding run step AllDigits
  raised-run a [] d v = absurd (omega (arith, d.some))
  raised-run a (b ∷ c) d v =
      ap (λ q. run most q c) (simp (le-leb 48 b d.digits.0, le-leb b 57 d.digits.1))
      ∙ power-run a c (b ∷ []) d.digits.2 (omega (arith, d.few)) v

-- ---- the start of a sum

-- where no minus stands, a sum begins with a factor
pub same_step : (most : ℕ) (st : List Frame) (b : ℕ) → (b ≡ 45 → ⊥) → step most (begin st) b ≡ step most (expect st fresh) b
unfolding step
same_step most st b n = simp (ne_eqb b 45 n)

same_start : (most : ℕ) (st : List Frame) (c : List ℕ) → Decimal c → run most (expect st fresh) c ≡ run most (begin st) c
unfolding run AllDigits
same_start most st [] d = absurd (omega (arith, d.some))
same_start most st (b ∷ c) d = ap (λ q. run most q c) (sym (same_step most st b (λ e. omega (arith, d.digits.0))))

-- ---- trees

module _ (most : ℕ) (q : State) where
  -- a text, a byte, a text
  on : (a : List ℕ) (b : ℕ) (c : List ℕ) {r t : State} → run most q a ≡ r → step most r b ≡ t → run most q (a ++ (b ∷ c)) ≡ run most t c
  unfolding run
  on a b c e h = run-append most q a (b ∷ c) ∙ ap (λ z. run most z (b ∷ c)) e ∙ ap (λ z. run most z c) h

mutual
  unfolding run step spell Fits

  pub sum-run : (s : Sum) (most : ℕ) (st : List Frame) → Fits s most (length st) → run most (begin st) (spell s) ≡ at_sum st s
  sum-run (term p) most st h = first_run p most st h
  sum-run (negative p) most st h = product-run p most st minus h
  sum-run (add s p) most st h = on most (begin st) (spell s) 43 (spell_product p) (sum-run s most st h.0) (sum-plus most st s) ∙ product-run p most st (plus s) h.1
  sum-run (subtract s p) most st h = on most (begin st) (spell s) 45 (spell_product p) (sum-run s most st h.0) (sum_less most st s) ∙ product-run p most st (less s) h.1

  pub product-run : (p : Product) (most : ℕ) (st : List Frame) (b : Before) → FitsProduct p most (length st) → run most (expect st (frame b none)) (spell_product p) ≡ at_product st b p
  product-run (single t) most st b h = factor-run t most st (frame b none) h
  product-run (multiply p t) most st b h = on most (expect st (frame b none)) (spell_product p) 42 (spell_factor t) (product-run p most st b h.0) (product-times most st b p) ∙ factor-run t most st (frame b (some p)) h.1

  -- a product's spelling does not begin with a minus, so it may begin a sum
  first_run : (p : Product) (most : ℕ) (st : List Frame) → FitsProduct p most (length st) → run most (begin st) (spell_product p) ≡ at_product st nothing p
  first_run (single t) most st h = first-factor t most st h
  first_run (multiply p t) most st h = on most (begin st) (spell_product p) 42 (spell_factor t) (first_run p most st h.0) (product-times most st nothing p) ∙ factor-run t most st (frame nothing (some p)) h.1

  first-factor : (t : Factor) (most : ℕ) (st : List Frame) → FitsFactor t most (length st) → run most (begin st) (spell_factor t) ≡ factor st fresh t
  first-factor (plain b) most st h = first-base b most st h
  first-factor (raised b c) most st h = on most (begin st) (spell_base b) 94 c (first-base b most st h.0) refl ∙ raised-run most st fresh b c h.1 h.2

  first-base : (b : Base) (most : ℕ) (st : List Frame) → FitsBase b most (length st) → run most (begin st) (spell_base b) ≡ factor st fresh (plain b)
  first-base (number c) most st h = sym (same_start most st c h) ∙ number-run most st fresh c h
  first-base unknown most st h = refl
  first-base (bracket s) most st h =
      ap (λ q. run most q (spell s ++ (41 ∷ []))) (simp (lt-ltb (length st) most h.0))
      ∙ on most (begin (fresh ∷ st)) (spell s) 41 [] (sum-run s most (fresh ∷ st) h.1) (sum_close most st fresh s)

  pub factor-run : (t : Factor) (most : ℕ) (st : List Frame) (f : Frame) → FitsFactor t most (length st) → run most (expect st f) (spell_factor t) ≡ factor st f t
  factor-run (plain b) most st f h = base-run b most st f h
  factor-run (raised b c) most st f h = on most (expect st f) (spell_base b) 94 c (base-run b most st f h.0) refl ∙ raised-run most st f b c h.1 h.2

  pub base-run : (b : Base) (most : ℕ) (st : List Frame) (f : Frame) → FitsBase b most (length st) → run most (expect st f) (spell_base b) ≡ factor st f (plain b)
  base-run (number c) most st f h = number-run most st f c h
  base-run unknown most st f h = refl
  base-run (bracket s) most st f h =
      ap (λ q. run most q (spell s ++ (41 ∷ []))) (simp (lt-ltb (length st) most h.0))
      ∙ on most (begin (f ∷ st)) (spell s) 41 [] (sum-run s most (f ∷ st) h.1) (sum_close most st f s)

-- each text has one meaning
pub one-meaning : (most : ℕ) (s t : Sum) → Fits s most 0 → Fits t most 0 → spell s ≡ spell t → s ≡ t
one-meaning most s t a b e =
    let z : good s ≡ good t = sym (sum-verdict s) ∙ ap verdict (sym (sum-run s most [] a) ∙ ap (run most (begin [])) e ∙ sum-run t most [] b) ∙ sum-verdict t in
    cc
