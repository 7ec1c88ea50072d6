-- The text of a polynomial, put into a buffer piece by piece.
--
--   put_x, put-term, put_zero, put-lower    *x^; a term; no term; + and a term
--   Lowering, lowering_none, lowering_more, lowering_all     the terms from the degree down
--   put_written                    the leading term and the others
--   copied                         a text copied from a buffer
use mathlib.Core.Path.{◌≡◌, refl, sym, ap, ap₂, ◌∙◌}
use mathlib.Core.List.{List, [], ◌∷◌, ◌++◌, append_assoc, append-nil}
use Prim.Native.Nat.{ℕ, suc, ◌+◌, ◌*◌, ◌-◌, ◌≤◌}
use native.Mathlib.Nat as N
use native.Mathlib.Omega.{arith}
use borrow.Author.Tests.{eq-eqb, ne_eqb}
use lib.ListN.{length, set, take, drop}
use lib.Seq.{sets, sets-eq, take_at, drop-drop}
use Rattle.algebra.specs.Polynomial.{coef, terms}
use Rattle.polynomial.specs.Checks.{Measured}
use Rattle.built.proofs.Building.{measured_ends}
use Rattle.digits.specs.Digits.{decimal, most_digits, Put}
use Rattle.digits.proofs.Text.{put-append, put-most, put_byte, put-nothing}
use Rattle.text.specs.Writing.{term_text, lower_term, lower, text_of, most_term, most_text}

-- a text that is copied into its place
put_slice : (b t : List ℕ) (at : ℕ) {s : List ℕ} {n : ℕ} → at + length t ≤ length b → n ≡ length t → s ≡ t → take at b ++ (s ++ drop n (drop at b)) ≡ sets b at t
put_slice b t at room long is =
    ap₂ (λ (l : List ℕ) (k : ℕ). take at b ++ (l ++ drop k (drop at b))) is long ∙ ap (λ (r : List ℕ). take at b ++ (t ++ r)) (drop-drop (length t) at b)
    ∙ sym (append_assoc (take at b) t (drop (at + length t) b)) ∙ sym (sets-eq t b at room)

pub put_x : (b : List ℕ) (at : ℕ) {s : List ℕ} {n : ℕ} → at + 3 ≤ length b → n ≡ 3 → s ≡ 42 ∷ 120 ∷ 94 ∷ [] → Put b at (42 ∷ 120 ∷ 94 ∷ []) 3 (take at b ++ (s ++ drop n (drop at b))) (at + 3)
put_x b at room long is = record { stored = put_slice b (42 ∷ 120 ∷ 94 ∷ []) at room long is; end = refl; within = omega arith }

pub put-term : {b x y z : List ℕ} {at p q r : ℕ} (c i : ℕ) → Put b at (decimal c) most_digits x p → Put x p (42 ∷ 120 ∷ 94 ∷ []) 3 y q → Put y q (decimal i) most_digits z r → Put b at (term_text c i) most_term z r
unfolding term_text most_term
put-term c i one two three = put-most (omega arith) (put-append one (put-append two three))

pub put_zero : (b : List ℕ) (at : ℕ) {c : ℕ} (i : ℕ) → c ≡ 0 → Put b at (lower_term c i) (1 + most_term) b at
unfolding lower_term
put_zero b at {c} i e = rw (eq-eqb c 0 e) (put-nothing b at (1 + most_term))

pub put-lower : {b y : List ℕ} {at q : ℕ} (c i : ℕ) → (c ≡ 0 → ⊥) → Put (set b at 43) (at + 1) (term_text c i) most_term y q → Put b at (lower_term c i) (1 + most_term) y q
unfolding lower_term
put-lower {b} {at = at} c i n p = rw (ne_eqb c 0 n) (put-append (put_byte b at 43) p)

-- the terms from x^n down to x^k stand behind `at`
pub record Lowering (f : List ℕ) (n : ℕ) (before : List ℕ) (at : ℕ) (after : List ℕ) (k p : ℕ) : Type 0 where
  pub text : List ℕ
  pub put : Put before at text ((1 + most_term) * (n - k)) after p
  pub whole : text ++ lower k f ≡ lower n f
  pub few : k ≤ n

pub lowering_none : (f : List ℕ) (n : ℕ) (b : List ℕ) (at : ℕ) → Lowering f n b at b n at
lowering_none f n b at = record { text = []; put = put-nothing b at ((1 + most_term) * (n - n)); whole = refl; few = N.le_refl n }

pub lowering_more : {f : List ℕ} {n : ℕ} {b x y : List ℕ} {at d k p q c : ℕ} → Lowering f n b at x d p → d ≡ suc k → c ≡ coef f k → Put x p (lower_term c k) (1 + most_term) y q → Lowering f n b at y k q
unfolding lower most_term most_digits
lowering_more {f} {n} {b} {x} {y} {at} {d} {k} {p} {q} {c} w e h u =
    record {
      text = w.text ++ lower_term c k;
      put = put-most (omega (arith, w.few)) (put-append w.put u);
      whole = append_assoc w.text (lower_term c k) (lower k f) ∙ rw h (ap (λ (j : ℕ). w.text ++ lower j f) (sym e) ∙ w.whole);
      few = omega (arith, w.few);
    }

pub lowering_all : {f : List ℕ} {n : ℕ} {b y : List ℕ} {at d q : ℕ} → Lowering f n b at y d q → d ≡ 0 → Put b at (lower n f) ((1 + most_term) * n) y q
unfolding lower most_term most_digits
lowering_all {f} {n} {b} {y} {at} {d} {q} w e =
    let z : w.text ≡ lower n f = sym (append-nil w.text) ∙ ap (λ (j : ℕ). w.text ++ lower j f) (sym e) ∙ w.whole in
    put-most (omega arith) (rw z at w.put)

pub put_written : (f : List ℕ) {b x y : List ℕ} {n c p r : ℕ} → Measured n f → c ≡ coef f n → Put b 0 (term_text c n) most_term x p → Put x p (lower n f) ((1 + most_term) * n) y r → Put b 0 (text_of f) most_text y r
unfolding text_of most_text most_term most_digits terms
put_written f {n = n} d h one two = rw (← d.is, ← h) (put-most (omega (arith, (measured_ends d).inside)) (put-append one two))

-- ---- from the buffer into the area

-- the text, and past it what was there
pub copied : (b t xs : List ℕ) {ys text : List ℕ} {n most : ℕ} → length t ≤ length b → Put b 0 t most text n → ys ≡ take n text ++ drop n xs → ys ≡ t ++ drop (length t) xs
copied b t xs {n = n} room p is =
    let e : n ≡ length t = p.end ∙ N.zero-add (length t) in
    is ∙ ap₂ ◌++◌ (ap (take n) (p.stored ∙ sets-eq t b 0 (omega arith)) ∙ take_at t _ n (sym e)) (ap (λ (k : ℕ). drop k xs) e)
