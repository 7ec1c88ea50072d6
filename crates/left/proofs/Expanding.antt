-- Digits in powers of h, from the lowest on.
--
--   flat_digits                                  what is shorter than h is one digit
--   lowest_digits                                a division by h^k, and the k digits of its remainder
--   top_flat, lowest_top                         whose highest is a constant, or none
--   lowest_digit, lowest_no                      a division by h, and one digit; a digit that is no constant
--   Reached m h s p₀ at p                        the digits of p₀ below place `at` are found, and above it p has the quotient
--   reached-none, reached-first, reached-more    before the first digit, after it, and k digits further
--   reached-no, reached_last                     and then one that is no constant, or all digits of the quotient
--   digits_long                                  where there is a quotient beside the first digit
--   piece, last_piece                            whole pieces of w places, and what is behind them
--   reached_asked                                a quotient may be divided again
use mathlib.Core.Path.{◌≡◌, refl, sym, ap, ◌∙◌, subst}
use mathlib.Core.Logic.Iff
use mathlib.Core.Logic.{◌↔◌}
use mathlib.Core.Bool.{Bool, true, false, true≢false, false≢true}
use mathlib.Core.List.{List, [], ◌∷◌, ◌++◌}
use Prim.Native.Nat.{ℕ, zero, suc, ◌+◌, ◌*◌, ◌-◌, ◌/◌, ◌%◌, ◌≤◌, ◌<◌}
use native.Mathlib.Nat as N
use native.Mathlib.Omega.{arith}
use native.Mathlib.Decide.{dec_lt}
use lib.ListN.{length, take, drop, length-take, length-drop, length-append, take-append-drop, get_or-eq_default}
use lib.Seq.{get_or-take, get_or-drop, length-take-le, drop_at, drop-drop}
use Rattle.algebra.specs.Polynomial.{coef, after, Same, Held}
use Rattle.algebra.proofs.Polynomials.{◌⨾◌, same_refl, same_sym, zero_nothing, plus-same, plus_comm, plus-nothing, times_comm, times-nothing, after_same, constant-after}
use Rattle.algebra.proofs.Division.{after-short, parts-after, left-part_unique}
use Rattle.division.specs.Division.{DivisionAsked, Divided, Raised, ConstantIs}
use Rattle.division.proofs.Asked.{remainder_asked}
use Rattle.left.specs.Digits.{Begins, Lowest, Digits}
use Rattle.polynomial.proofs.Below.{take_below, join_below}
use Rattle.division.proofs.Pieces.{front, back}
use Rattle.division.proofs.Raising.{raised-one}

-- the first term of g, after anything
first-term : {m : ℕ} → 0 < m → (g h : List ℕ) → Same m (after (take 1 g) h) (coef g 0 ∷ [])
unfolding after
first-term {m} pos [] h = same_sym (zero_nothing m pos)
first-term {m} pos (x ∷ g) h = constant-after m pos x h

-- and its others
other-terms : (g : List ℕ) (i : ℕ) → coef (drop 1 g) i ≡ coef g (suc i)
other-terms [] i = refl
other-terms (x ∷ g) i = refl

module _ {m s : ℕ} {h : List ℕ} (pos : 0 < m) (above : 0 < s) (right : Held m s h) where
  -- p, shorter than h, is g(h) exactly if g is p's constant and p is
  short-after : {p : List ℕ} → length p ≤ s → (g : List ℕ) → Same m p (after g h) ↔ (Same m p (coef g 0 ∷ []) × Same m [] (drop 1 g))
  unfolding after
  short-after {p} l g = (
    λ e. (let (x, y) = apart.0 e in (x ⨾ first-term pos g h, left-part_unique m pos {g = []} above right.monic y)),
    λ (x, y). apart.1 (x ⨾ same_sym (first-term pos g h), after_same m pos y (same_refl h)),
  )
    where
      apart : Same m p (after g h) ↔ (Same m p (after (take 1 g) h) × Same m [] (after (drop 1 g) h))
      apart = parts-after m pos 1 {q = []} above right.monic (raised-one pos right).same (λ i b. ap (λ (x : ℕ). x % m) (get_or-eq_default p 0 (omega arith)))
          (same_sym (plus-same m pos (same_refl p) (times_comm m pos h [] ⨾ times-nothing m pos h) ⨾ plus_comm m pos p [] ⨾ plus-nothing m pos p)) g

-- what is shorter than h is one digit
pub flat_digits : {m s : ℕ} {h p : List ℕ} {t : Bool} → DivisionAsked m s h p → length p ≤ s
    → ConstantIs p t → Digits m h s p p t
flat_digits {m} {s} {h} {p} {t} d l flat = record { long = refl; below = d.below; yes = λ e g. (digit e g, whole e g); no = λ e g w. none (flat.no e) g w }
  where
    pos : 0 < m
    pos = omega (arith, d.modulus.above_one)

    apart : (g : List ℕ) → Same m p (after g h) ↔ (Same m p (coef g 0 ∷ []) × Same m [] (drop 1 g))
    apart = short-after pos d.above_zero d.right l

    beyond : (i : ℕ) → coef p (suc i * s) ≡ 0
    beyond i = get_or-eq_default p 0 (omega (arith, N.mul-le-mul_right {m = 1} {n = suc i} s (omega arith)))

    first : coef p (0 * s) ≡ coef p 0
    first = ap (coef p) (N.zero-mul s)

    digit : t ≡ true → (g : List ℕ) → Same m p (after g h) → (i : ℕ) → coef g i % m ≡ coef p (i * s) % m
    digit e g w zero = sym (((apart g).0 w).0.at 0) ∙ ap (λ (x : ℕ). x % m) (sym first)
    digit e g w (suc i) = ap (λ (x : ℕ). x % m) (sym (other-terms g i)) ∙ sym (((apart g).0 w).1.at i) ∙ ap (λ (x : ℕ). x % m) (sym (beyond i))

    whole : t ≡ true → (g : List ℕ) → ((i : ℕ) → coef g i % m ≡ coef p (i * s) % m) → Same m p (after g h)
    whole e g w = (apart g).1 (record { at = constant }, record { at = λ i. sym (ap (λ (x : ℕ). x % m) (other-terms g i) ∙ w (suc i) ∙ ap (λ (x : ℕ). x % m) (beyond i)) })
      where
        constant : (i : ℕ) → coef p i % m ≡ coef (coef g 0 ∷ []) i % m
        constant zero = ap (λ (x : ℕ). x % m) (sym first) ∙ sym (w 0)
        constant (suc i) = ap (λ (x : ℕ). x % m) (flat.yes e (suc i) (omega arith))

    none : (i : ℕ) × (0 < i) × ¬ (coef p i ≡ 0) → (g : List ℕ) → Same m p (after g h) → ⊥
    none (zero, b, n) g w = N.not-suc-le-zero b
    none (suc i, b, n) g w = n (sym (N.mod-eq_of_lt (d.below (suc i))) ∙ ((apart g).0 w).0.at (suc i) ∙ N.zero-mod m)

-- the division by h^k
module _ {m s w : ℕ} (k : ℕ) {h b p q : List ℕ} (d : DivisionAsked m s h p) (raised : Raised m h s k b) (ew : w ≡ k * s) (l : w ≤ length p) (divided : Divided m b w p q) where
  pos : 0 < m
  pos = omega (arith, d.modulus.above_one)

  halves : (g : List ℕ) → Same m p (after g h) ↔ (Same m (take w q) (after (take k g) h) × Same m (drop w q) (after (drop k g) h))
  halves = parts-after m pos k d.above_zero d.right.monic raised.same
      (λ i c. ap (λ (x : ℕ). x % m) (get_or-eq_default (take w q) 0 (omega (arith, length-take w q)))) divided.whole

  -- k digits: the remainder has them, in its lowest v places
  pub lowest_digits : {v : ℕ} {r : List ℕ} {t : Bool} → v ≤ w → w < v + s → ((i : ℕ) → v ≤ i → i < w → coef q i ≡ 0)
      → Digits m h s (take v q) r t → Lowest m h s k p (r ++ drop v q) t
  lowest_digits {v} {r} {t} lv ls gap digits =
      record {
        long = length-append r (drop v q) ∙ rw (wide, length-drop v q, divided.long) (omega arith);
        below = join_below r (drop v q) digits.below (λ i. rw (get_or-drop v q i 0) (divided.below (v + i)));
        yes = λ e g. Iff.trans (halves g) (λ (x, y). (λ i c. begins e g x i c, rw (← ew, rest) y), λ (x, y). (short ⨾ (digits.yes e (take k g)).1 (all g x), rw (← ew, rest) at y));
        no = λ e g x. digits.no e (take k g) (same_sym short ⨾ ((halves g).0 x).0);
      }
    where
      wide : length r ≡ v
      wide = digits.long ∙ length-take-le v q (rw divided.long (omega arith))

      -- what is above the remainder stays
      rest : drop w (r ++ drop v q) ≡ drop w q
      rest = let f : w ≡ v + (w - v) = omega arith in rw f (sym (drop-drop (w - v) v (r ++ drop v q)) ∙ ap (drop (w - v)) (drop_at r (drop v q) v wide) ∙ drop-drop (w - v) v q)

      -- and above its lowest v places there is nothing
      short : Same m (take w q) (take v q)
      short = record { at = λ i. ap (λ (x : ℕ). x % m) (go i (dec_lt i v) (dec_lt i w)) }
        where
          go : (i : ℕ) → Dec (i < v) → Dec (i < w) → coef (take w q) i ≡ coef (take v q) i
          go i (yes x) y = get_or-take w q i 0 (omega arith) ∙ sym (get_or-take v q i 0 x)
          go i (no x) (yes y) = get_or-take w q i 0 y ∙ gap i (omega arith) y ∙ sym (get_or-eq_default (take v q) 0 (omega (arith, length-take v q)))
          go i (no x) (no y) = get_or-eq_default (take w q) 0 (omega (arith, length-take w q)) ∙ sym (get_or-eq_default (take v q) 0 (omega (arith, length-take v q)))

      inside : (i : ℕ) → i < k → i * s < v
      inside i c = omega (arith, N.mul-le-mul_right {m = i + 1} {n = k} s (omega arith))

      begins : t ≡ true → (g : List ℕ) → Same m (take w q) (after (take k g) h) → Begins m s k (r ++ drop v q) g
      begins e g x i c = ap (λ (y : ℕ). y % m) (sym (get_or-take k g i 0 c)) ∙ (digits.yes e (take k g)).0 (same_sym short ⨾ x) i ∙ ap (λ (y : ℕ). y % m) (sym (front r (drop v q) wide (i * s) (inside i c)))

      all : (g : List ℕ) → Begins m s k (r ++ drop v q) g → (i : ℕ) → coef (take k g) i % m ≡ coef r (i * s) % m
      all g x i = go (dec_lt i k)
        where
          go : Dec (i < k) → coef (take k g) i % m ≡ coef r (i * s) % m
          go (yes c) = ap (λ (y : ℕ). y % m) (get_or-take k g i 0 c) ∙ x i c ∙ ap (λ (y : ℕ). y % m) (front r (drop v q) wide (i * s) (inside i c))
          go (no c) = ap (λ (y : ℕ). y % m) (get_or-eq_default (take k g) 0 (omega (arith, length-take k g))
              ∙ sym (get_or-eq_default r 0 (omega (arith, wide, N.mul-le-mul_right {m = k} {n = i} s (omega arith)))))

  -- the remainder's highest digit, from place `top` on
  module _ (top : ℕ) (et : top + s ≡ w) {t : Bool} (flat : ConstantIs (take (w - top) (drop top q)) t) where
    place : (j : ℕ) → j < w - top → coef (take (w - top) (drop top q)) j ≡ coef q (top + j)
    place j l = get_or-take (w - top) (drop top q) j 0 l ∙ get_or-drop top q j 0

    -- is a constant: then the remainder ends there
    pub top_flat : t ≡ true → (i : ℕ) → top + 1 ≤ i → i < w → coef q i ≡ 0
    top_flat e i a b =
        let f : top + (i - top) ≡ i = omega arith in
        ap (coef q) (sym f) ∙ sym (place (i - top) (omega arith)) ∙ flat.yes e (i - top) (omega arith)

    -- or is none
    pub lowest_top : t ≡ false → Lowest m h s k p q false
    lowest_top e = record { long = divided.long; below = divided.below; yes = λ f. absurd (false≢true f); no = λ _ g x. none (flat.no e) g ((halves g).0 x).0 }
      where
        none : (i : ℕ) × (0 < i) × ¬ (coef (take (w - top) (drop top q)) i ≡ 0) → (g : List ℕ) → Same m (take w q) (after (take k g) h) → ⊥
        none (i, a, n) g x = go (dec_lt i (w - top))
          where
            go : Dec (i < w - top) → ⊥
            go (yes b) = n (place i b ∙ sym (N.mod-eq_of_lt (divided.below (top + i))) ∙ ap (λ (y : ℕ). y % m) (sym (get_or-take w q (top + i) 0 (omega arith))) ∙ x.at (top + i)
                ∙ after-short m pos d.above_zero d.right.monic k g (top + i) (omega arith) ∙ N.zero-mod m)
            go (no b) = n (get_or-eq_default (take (w - top) (drop top q)) 0 (omega (arith, length-take (w - top) (drop top q))))

-- one digit
pub lowest_digit : {m s : ℕ} {h p q : List ℕ} {t : Bool} → DivisionAsked m s h p → s ≤ length p → Divided m h s p q
    → ConstantIs (take s q) t → Lowest m h s 1 p q t
lowest_digit {m} {s} {h} {p} {q} {t} d l c flat = subst (λ (x : List ℕ). Lowest m h s 1 p x t) (take-append-drop s q)
    (lowest_digits 1 d (raised-one (omega (arith, d.modulus.above_one)) d.right) (omega arith) l c (omega arith) (omega (arith, d.above_zero)) (λ (i : ℕ) (x : s ≤ i) (y : i < s). absurd (N.lt_irrefl i (N.le_trans y x)))
    (flat_digits (remainder_asked s d c d.above_zero l) (omega (arith, length-take s q)) flat))

-- the digits below place `at` are found, and what is above it is the quotient
pub record Reached (m : ℕ) (h : List ℕ) (s : ℕ) (p₀ : List ℕ) (at : ℕ) (p : List ℕ) : Type 0 where
  pub number : ℕ
  pub place : at ≡ number * s
  pub inside : at < length p
  pub found : Lowest m h s number p₀ p true

-- where there is a quotient beside the first digit
pub digits_long : {r s n : ℕ} → 0 < r → n ≡ r * s + 1 → s < n
digits_long {r} {s} l e = omega (arith, N.mul-le-mul_right {m = 1} {n = r} s l)

-- behind a whole piece of w places there is something
pub piece : (n w i : ℕ) → 0 < n → i < (n - 1) / w → i * w + w < n
piece n w i some l =
    let e : (i + 1) * w ≡ i * w + w = omega arith in
    let below : i + 1 ≤ (n - 1) / w = omega arith in
    omega (arith, e, N.mul-le-mul_right w below, N.div-mul-le_self (n - 1) w)

-- the last piece has no more than w places
pub last_piece : (n w : ℕ) → 0 < w → n - (n - 1) / w * w ≤ w
last_piece n w above = omega (arith, N.lt-div-mul-add {a = n - 1} above)

-- a digit that is no constant
pub lowest_no : {m s k : ℕ} {h p q : List ℕ} {t : Bool} → Lowest m h s k p q t → t ≡ false → Digits m h s p q false
lowest_no d e = record { long = d.long; below = d.below; yes = λ f. absurd (false≢true f); no = λ _. d.no e }

-- the first digit
pub reached-first : {m s : ℕ} {h p q : List ℕ} {t : Bool} → s < length p → Lowest m h s 1 p q t → t ≡ true → Reached m h s p s q
reached-first {m} {s} {h} {p} {q} l d e = record { number = 1; place = omega arith; inside = rw d.long l; found = subst (Lowest m h s 1 p q) e d }

-- before the first digit
pub reached-none : {m s : ℕ} {h p : List ℕ} → DivisionAsked m s h p → Reached m h s p 0 p
reached-none {m} {s} {h} {p} d =
    record {
      number = 0;
      place = sym (N.zero-mul s);
      inside = d.some;
      found = record { long = refl; below = d.below; yes = λ e g. (λ x. (λ i l. absurd (N.not-suc-le-zero l), rw (N.zero-mul s) x), λ (x, y). rw (N.zero-mul s) at y); no = λ e. absurd (true≢false e) };
    }

module _ {m s at : ℕ} {h p₀ p : List ℕ} (above : 0 < s) (c : Reached m h s p₀ at p) where
  abbrev j : ℕ
  j = c.number

  wide : length (take at p) ≡ at
  wide = length-take-le at p (N.le_of_lt c.inside)

  module _ (q : List ℕ) where
    long : length q ≡ length (drop at p) → length (take at p ++ q) ≡ length p
    long f = length-append (take at p) q ∙ rw (wide, f, length-drop at p) (omega (arith, c.inside))

    below : ((i : ℕ) → coef q i < m) → (i : ℕ) → coef (take at p ++ q) i < m
    below = join_below (take at p) q (take_below (omega (arith, c.found.below 0)) at p (λ i _. c.found.below i))

    apart : (g : List ℕ) → Same m p₀ (after g h) ↔ (Begins m s j p g × Same m (drop at p) (after (drop j g) h))
    apart g = subst (λ (n : ℕ). Same m p₀ (after g h) ↔ (Begins m s j p g × Same m (drop n p) (after (drop j g) h))) (sym c.place) (c.found.yes refl g)

    -- the digits before are those of p
    before : (i : ℕ) → i < j → coef (take at p ++ q) (i * s) ≡ coef p (i * s)
    before i b = let f : i * s < at = omega (arith, c.place, N.mul-lt-mul_of_pos_right b above) in front (take at p) q wide (i * s) f ∙ get_or-take at p (i * s) 0 f

    -- and those after them are those of q
    later : (i : ℕ) → coef (take at p ++ q) ((j + i) * s) ≡ coef q (i * s)
    later i = let f : (j + i) * s ≡ at + i * s = omega (arith, c.place) in rw f (back (take at p) q wide (i * s))

    -- both together
    joined : (k : ℕ) (g : List ℕ) → (Begins m s j p g × Begins m s k q (drop j g)) ↔ Begins m s (j + k) (take at p ++ q) g
    joined k g = (λ (x, y) i b. go x y i b (dec_lt i j), λ x. (λ i b. x i (omega arith) ∙ ap (λ (z : ℕ). z % m) (before i b), λ i b. ap (λ (z : ℕ). z % m) (get_or-drop j g i 0) ∙ x (j + i) (omega arith) ∙ ap (λ (z : ℕ). z % m) (later i)))
      where
        go : Begins m s j p g → Begins m s k q (drop j g) → (i : ℕ) → i < j + k → Dec (i < j) → coef g i % m ≡ coef (take at p ++ q) (i * s) % m
        go x y i b (yes d) = x i d ∙ ap (λ (z : ℕ). z % m) (sym (before i d))
        go x y i b (no d) = let f : i ≡ j + (i - j) = omega arith in rw f (ap (λ (z : ℕ). z % m) (sym (get_or-drop j g (i - j) 0)) ∙ y (i - j) (omega arith) ∙ ap (λ (z : ℕ). z % m) (sym (later (i - j))))

  -- k more
  pub reached-more : (k : ℕ) {w : ℕ} {q : List ℕ} {t : Bool} → w ≡ k * s → at + w < length p → Lowest m h s k (drop at p) q t → t ≡ true → Reached m h s p₀ (at + w) (take at p ++ q)
  reached-more k {w} {q} ew l d e =
      record {
        number = j + k;
        place = omega (arith, c.place);
        inside = rw (long q d.long) l;
        found =
            record {
              long = long q d.long ∙ c.found.long;
              below = below q d.below;
              yes = λ _ g. Iff.trans (apart q g) (
                λ (x, y). (let (u, v) = (d.yes e (drop j g)).0 y in ((joined q k g).0 (x, u), rw (quotient, ← drop-drop k j g) v)),
                λ (x, y). (let (u, v) = (joined q k g).1 x in (u, (d.yes e (drop j g)).1 (v, rw (quotient, ← drop-drop k j g) at y))),
              );
              no = λ f. absurd (true≢false f);
            };
      }
    where
      quotient : drop ((j + k) * s) (take at p ++ q) ≡ drop (k * s) q
      quotient = let f : (j + k) * s ≡ at + k * s = omega (arith, c.place) in rw f (sym (drop-drop (k * s) at (take at p ++ q)) ∙ ap (drop (k * s)) (drop_at (take at p) q at wide))

  -- or one that is no constant
  pub reached-no : (k : ℕ) {q : List ℕ} {t : Bool} → Lowest m h s k (drop at p) q t → t ≡ false → Digits m h s p₀ (take at p ++ q) false
  reached-no k {q} d e = record { long = long q d.long ∙ c.found.long; below = below q d.below; yes = λ f. absurd (false≢true f); no = λ _ g x. d.no e (drop j g) ((apart q g).0 x).1 }

  -- or all
  pub reached_last : {q : List ℕ} {t : Bool} → Digits m h s (drop at p) q t → Digits m h s p₀ (take at p ++ q) t
  reached_last {q} d = record {
    long = long q d.long ∙ c.found.long;
    below = below q d.below;
    yes = λ f g. Iff.trans (apart q g) (
      λ (x, y) i. (joined q (i + 1) g).0 (x, λ n _. (d.yes f (drop j g)).0 y n) i (omega arith),
      λ x. (((joined q 0 g).1 (λ i _. x i)).0, (d.yes f (drop j g)).1 (λ i. ((joined q (i + 1) g).1 (λ n _. x n)).1 i (omega arith))),
    );
    no = λ f g x. d.no f (drop j g) ((apart q g).0 x).1;
  }

  -- the quotient may be divided again, too
  pub reached_asked : DivisionAsked m s h p₀ → DivisionAsked m s h (drop at p)
  reached_asked d =
      record {
        modulus = d.modulus;
        right = d.right;
        above_zero = above;
        below = λ i. rw (get_or-drop at p i 0) (c.found.below (at + i));
        some = omega (arith, length-drop at p, c.inside);
        inside = omega (arith, length-drop at p, c.found.long, d.inside);
      }
