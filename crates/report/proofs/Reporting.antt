-- What all digits in powers of h say of f.
--
--   heads                 the constants of the digits
--   digits_exact          where every digit is a constant, f is what they compose to with h
--   digits_differ         and else they differ from f first, from the top, at the highest place that is no constant
--   digits_join           n digits and k of their quotient are n + k
--   digits_block          the digits of a remainder by h^k, and the quotient, are k digits and the quotient
--   expanded_none, expanded_one, expanded_block     no digit yet, one by a division by h, k by a division by h^k
--   expanded_asked, expanded_more     the quotient may be divided again, and gives so many digits more
--   digits-end, digit-end     some digits, or one, end within the list
--   whole_block               k digits at once are among r
--   digit-below           a digit's degree is below s
--   Scanned, scanned_none, scanned_here, scanned_more, scanned_all    the walk over the digits, from the highest on
--   expanded_wide, expanded_front     the digits in the list that holds them
--   digits_report         the report of the leaf
use mathlib.Core.Path.{◌≡◌, refl, sym, ap, ◌∙◌, subst}
use mathlib.Core.Logic.{⊎_elim}
use mathlib.Core.List.{List, [], ◌∷◌, ◌++◌, append_assoc}
use Prim.Native.Nat.{ℕ, zero, suc, ◌+◌, ◌*◌, ◌/◌, ◌-◌, ◌%◌, ◌≤◌, ◌<◌}
use native.Mathlib.Nat as N
use native.Mathlib.Omega.{arith}
use native.Mathlib.Decide.{dec_lt}
use lib.ListN.{length, take, drop, length-take, length-drop, length-append, get_or-eq_default}
use lib.Seq.{take_all, take-add, take_at, take-append-le, drop_at, drop-append-le, drop-drop, get_or-take, get_or-drop, length-take-le}
use Rattle.algebra.specs.Polynomial.{coef, plus, times, power, after, degree, Same, Monic}
use Rattle.algebra.specs.Pair.{Differs}
use Rattle.algebra.proofs.Polynomials.{◌⨾◌, same_refl, same_sym, plus-same, plus_assoc, times-same, times_comm, times_assoc, times-plus, times-one, constant-after}
use Rattle.algebra.proofs.Coefficients.{after-end}
use Rattle.algebra.proofs.Agreement.{forced-left-exists, times-differs, plus_agree, plus-differs}
use Rattle.algebra.proofs.Report.{forced-differs}
use Rattle.algebra.proofs.Highest.{degree-below, degree-above, degree-leads}
use Rattle.polynomial.proofs.Below.{take_below, join_below}
use Rattle.left.specs.Left.{LeftAsked}
use Rattle.division.specs.Division.{DivisionAsked, Divided, Raised}
use Rattle.left.proofs.Found.{asked_same, asked_long}
use Rattle.report.specs.Report.{from_digits, Expanded, Constants, HighestAt, nowhere, place, LeftReport}
use Rattle.report.specs.Report as report

unfoldable pub heads : ℕ → ℕ → List ℕ → List ℕ
heads s zero q = coef q 0 ∷ []
heads s (suc n) q = coef q 0 ∷ heads s n (drop s q)

heads_length : (s n : ℕ) (q : List ℕ) → length (heads s n q) ≡ suc n
unfolding heads
heads_length s zero q = refl
heads_length s (suc n) q = ap suc (heads_length s n (drop s q))

-- the digits after the first
later : (s : ℕ) (q : List ℕ) (i j : ℕ) → coef (drop s q) (i * s + j) ≡ coef q (suc i * s + j)
later s q i j = get_or-drop s q (i * s + j) 0 ∙ ap (coef q) (omega arith)

-- the first digit
zeroth : (s : ℕ) (q : List ℕ) (j : ℕ) → coef q (0 * s + j) ≡ coef q j
zeroth s q j = ap (coef q) (omega arith)

-- a constant has nothing above x^0
above-constant : (c i : ℕ) → 0 < i → coef (c ∷ []) i ≡ 0
above-constant c i l = get_or-eq_default (c ∷ []) 0 l

-- what is the same differs from the same
differs-same : {m k : ℕ} {p p' q q' : List ℕ} → Same m p p' → Same m q q' → Differs m p q k → Differs m p' q' k
differs-same {k = k} a b d = record { above = λ i l. sym (a.at i) ∙ d.above i l ∙ b.at i; here = λ w. d.here (a.at k ∙ w ∙ sym (b.at k)) }

module _ {m s : ℕ} {h : List ℕ} (pos : 0 < m) (sp : 0 < s) (mh : Monic m s h) where
  -- above its place j a digit is its constant
  digit-above : (q : List ℕ) (j : ℕ) → length q ≤ s → ((l : ℕ) → j < l → l < s → coef q l ≡ 0) → (i : ℕ) → j < i → coef q i % m ≡ coef (coef q 0 ∷ []) i % m
  digit-above q j short z i l = ap (λ (x : ℕ). x % m) (go (dec_lt i s) ∙ sym (above-constant _ i (omega arith)))
    where
      go : Dec (i < s) → coef q i ≡ 0
      go (yes b) = z i l b
      go (no b) = get_or-eq_default q 0 (omega arith)

  digit-constant : (q : List ℕ) → length q ≤ s → ((l : ℕ) → 0 < l → l < s → coef q l ≡ 0) → Same m q (coef q 0 ∷ [])
  digit-constant q short z = record { at = at }
    where
      at : (i : ℕ) → coef q i % m ≡ coef (coef q 0 ∷ []) i % m
      at zero = refl
      at (suc i) = digit-above q 0 short z (suc i) (omega arith)

  digit-differs : (q : List ℕ) (j : ℕ) → length q ≤ s → 0 < j → coef q j < m → ¬ (coef q j ≡ 0) → ((l : ℕ) → j < l → l < s → coef q l ≡ 0) → Differs m q (coef q 0 ∷ []) j
  digit-differs q j short a small ne z = record { above = digit-above q j short z; here = λ e. ne (sym (N.mod-eq_of_lt small) ∙ e ∙ ap (λ (x : ℕ). x % m) (above-constant _ j a) ∙ N.zero-mod m) }

  -- the first digit of q
  module _ (q : List ℕ) where
    first : (l : ℕ) → l < s → coef (take s q) l ≡ coef q (0 * s + l)
    first l b = get_or-take s q l 0 b ∙ sym (zeroth s q l)

    short-take : length (take s q) ≤ s
    short-take = omega (arith, length-take s q)

    head : coef (take s q) 0 ≡ coef q 0
    head = get_or-take s q 0 0 sp

    first-constant : ((l : ℕ) → 0 < l → l < s → coef q (0 * s + l) ≡ 0) → Same m (take s q) (coef q 0 ∷ [])
    first-constant z = rw head at (digit-constant (take s q) short-take (λ l a b. first l b ∙ z l a b))

    first-differs : (j : ℕ) → 0 < j → j < s → coef q (0 * s + j) < m → ¬ (coef q (0 * s + j) ≡ 0) → ((l : ℕ) → j < l → l < s → coef q (0 * s + l) ≡ 0) → Differs m (take s q) (coef q 0 ∷ []) j
    first-differs j a b small ne z = rw head at (digit-differs (take s q) j short-take a (rw (first j b) small) (λ e. ne (sym (first j b) ∙ e)) (λ l c d. first l d ∙ z l c d))

  pub digits_exact : (n : ℕ) (q : List ℕ) → length q ≤ n * s + s → Constants s q → Same m (from_digits h s n q) (after (heads s n q) h)
  unfolding from_digits heads after
  digits_exact zero q l z = rw (take_all s q (omega arith)) at (first-constant q (z 0)) ⨾ same_sym (constant-after m pos (coef q 0) h)
  digits_exact (suc n) q l z = plus-same m pos (first-constant q (z 0)) (times-same m pos (same_refl h) (digits_exact n (drop s q) (omega (arith, length-drop s q)) (λ i j a b. later s q i j ∙ z (suc i) j a b)))

  pub digits_differ : (n : ℕ) (q : List ℕ) → length q ≤ n * s + s → ((i : ℕ) → coef q i < m) → (i j : ℕ) → 0 < j → j < s → ¬ (coef q (i * s + j) ≡ 0)
      → ((l : ℕ) → j < l → l < s → coef q (i * s + l) ≡ 0) → ((d l : ℕ) → i < d → 0 < l → l < s → coef q (d * s + l) ≡ 0)
      → Differs m (from_digits h s n q) (after (heads s n q) h) (i * s + j)
  unfolding from_digits heads after
  digits_differ zero q l small zero j a b ne z y =
      let e : j ≡ 0 * s + j = omega arith in
      rw e at (differs-same (same_refl q) (same_sym (constant-after m pos (coef q 0) h)) (rw (take_all s q (omega arith)) at (first-differs q j a b (small _) ne z)))
  digits_differ zero q l small (suc i) j a b ne z y = absurd (ne (get_or-eq_default q 0 (omega arith)))
  digits_differ (suc n) q l small zero j a b ne z y =
      let e : j ≡ 0 * s + j = omega arith in
      rw e at (plus-differs m pos (take s q) (coef q 0 ∷ []) _ _
      (times-same m pos (same_refl h) (digits_exact n (drop s q) (omega (arith, length-drop s q)) (λ i k c d. later s q i k ∙ y (suc i) k (omega arith) c d)))
      (first-differs q j a b (small _) ne z))
  digits_differ (suc n) q l small (suc i) j a b ne z y =
      let e : s + (i * s + j) ≡ suc i * s + j = omega arith in
      rw e at (plus_agree m pos (take s q) (coef q 0 ∷ []) _ _
      (λ k c. ap (λ (x : ℕ). x % m) (get_or-eq_default (take s q) 0 (omega (arith, short-take q)) ∙ sym (above-constant _ k (omega arith))))
      (times-differs m pos _ _ mh (digits_differ n (drop s q) (omega (arith, length-drop s q)) (λ k. rw (get_or-drop s q k 0) (small (s + k))) i j a b (λ w. ne (sym (later s q i j) ∙ w))
      (λ k c d. later s q i k ∙ z k c d) (λ d k c f g. later s q d k ∙ y (suc d) k (omega arith) f g))))

-- k digits from the i-th on end where r of them do, or before
pub digits-end : (i k r s : ℕ) → i + k ≤ r → i * s + k * s ≤ r * s
digits-end i k r s l =
    let e : i * s + k * s ≡ (i + k) * s = omega arith in
    rw e (N.mul-le-mul_right s l)

-- k digits at once, i times before
pub whole_block : (i k r : ℕ) → i < r / k → i * k + k ≤ r
whole_block i k r l =
    let e : (i + 1) * k ≡ i * k + k = omega arith in
    let below : i + 1 ≤ r / k = omega arith in
    omega (arith, e, N.mul-le-mul_right k below, N.div-mul-le_self r k)

-- n digits, and then k of their quotient
digits_join : {m : ℕ} → 0 < m → (h : List ℕ) (s n k : ℕ) (p q : List ℕ) → n * s ≤ length p → Same m (drop (n * s) p) (from_digits h s k q)
    → Same m (from_digits h s n p) (from_digits h s (n + k) (take (n * s) p ++ q))
unfolding from_digits
digits_join pos h s zero k p q l e = rw (N.zero-mul s, N.zero-add k) (rw (N.zero-mul s) at e)
digits_join {m} pos h s (suc n) k p q l e = rw (N.suc-add n k, front, back) (plus-same m pos (same_refl (take s p)) (times-same m pos (same_refl h) (digits_join pos h s n k (drop s p) q (omega (arith, length-drop s p)) (rw (drop-drop (n * s) s p, ← more) e))))
  where
    more : suc n * s ≡ s + n * s
    more = omega arith

    wide : length (take s p) ≡ s
    wide = length-take-le s p (omega arith)

    parts : take (suc n * s) p ++ q ≡ take s p ++ (take (n * s) (drop s p) ++ q)
    parts = ap (λ (k : ℕ). take k p ++ q) more ∙ ap (λ (x : List ℕ). x ++ q) (take-add s (n * s) p) ∙ append_assoc (take s p) (take (n * s) (drop s p)) q

    front : take s (take (suc n * s) p ++ q) ≡ take s p
    front = ap (take s) parts ∙ take_at (take s p) _ s wide

    back : drop s (take (suc n * s) p ++ q) ≡ take (n * s) (drop s p) ++ q
    back = ap (drop s) parts ∙ drop_at (take s p) _ s wide

-- the digits of a remainder by h^(j+1), and the quotient
digits_block : {m : ℕ} → 0 < m → (h : List ℕ) (s j : ℕ) (r q : List ℕ) → length r ≡ suc j * s → Same m (plus (from_digits h s j r) (times (power h (suc j)) q)) (from_digits h s (suc j) (r ++ q))
unfolding from_digits power
digits_block {m} pos h s zero r q l =
    let e : length r ≡ s = omega arith in
    rw (take_at r q s e, drop_at r q s e) (plus-same m pos (same_refl r) (times-same m pos (times_comm m pos h (1 ∷ []) ⨾ times-one m pos h) (same_refl q)))
digits_block {m} pos h s (suc j) r q l =
    let inside : s ≤ length r = omega arith in
    rw (take-append-le s r q inside, drop-append-le s r q inside)
    (plus_assoc m pos (take s r) _ _
    ⨾ plus-same m pos (same_refl (take s r)) (plus-same m pos (same_refl _) (times_assoc m pos h (power h (suc j)) q) ⨾ same_sym (times-plus m pos h _ _) ⨾ times-same m pos (same_refl h) (digits_block pos h s j (drop s r) q (omega (arith, length-drop s r)))))

-- before the first digit
pub expanded_none : {m s : ℕ} {h p : List ℕ} → DivisionAsked m s h p → Expanded m h s 0 p p
unfolding from_digits
expanded_none {p = p} d = record { long = refl; below = d.below; whole = same_refl p }

-- one digit
pub expanded_one : {m s : ℕ} {h p q : List ℕ} → Divided m h s p q → Expanded m h s 1 p q
unfolding from_digits
expanded_one v = record { long = v.long; below = v.below; whole = v.whole }

-- k digits at once
pub expanded_block : {m s w k : ℕ} {h b p q r : List ℕ} → DivisionAsked m s h p → Raised m h s k b → 0 < k → w ≡ k * s → w ≤ length p → Divided m b w p q
    → Expanded m h s (k - 1) (take w q) r → Expanded m h s k p (r ++ drop w q)
expanded_block {m} {s} {w} {k} {h} {b} {p} {q} {r} d raised lk ew l v x =
    record {
      long = length-append r (drop w q) ∙ rw (wide, length-drop w q, v.long) (omega arith);
      below = join_below r (drop w q) x.below (λ i. rw (get_or-drop w q i 0) (v.below (w + i)));
      whole = v.whole ⨾ plus-same m pos x.whole (times-same m pos raised.same (same_refl _)) ⨾ subst (λ (n : ℕ). Same m (plus (from_digits h s (k - 1) r) (times (power h n) (drop w q))) (from_digits h s n (r ++ drop w q))) (sym e) (digits_block pos h s (k - 1) r (drop w q) (wide ∙ ew ∙ ap (λ (n : ℕ). n * s) e));
    }
  where
    pos : 0 < m
    pos = omega (arith, d.modulus.above_one)

    e : k ≡ suc (k - 1)
    e = omega arith

    wide : length r ≡ w
    wide = x.long ∙ length-take-le w q (rw v.long l)

module _ {m s n : ℕ} {h p₀ p : List ℕ} (d : DivisionAsked m s h p₀) (c : Expanded m h s n p₀ p) where
  -- the quotient may be divided again
  pub expanded_asked : n * s < length p → DivisionAsked m s h (drop (n * s) p)
  expanded_asked l =
      record {
        modulus = d.modulus;
        right = d.right;
        above_zero = d.above_zero;
        below = λ i. rw (get_or-drop (n * s) p i 0) (c.below (n * s + i));
        some = omega (arith, length-drop (n * s) p);
        inside = omega (arith, length-drop (n * s) p, c.long, d.inside);
      }

  -- and gives k digits more
  pub expanded_more : {k : ℕ} {q : List ℕ} → n * s ≤ length p → Expanded m h s k (drop (n * s) p) q → Expanded m h s (n + k) p₀ (take (n * s) p ++ q)
  expanded_more {k} {q} l x = record {
    long = length-append (take (n * s) p) q ∙ rw (length-take-le (n * s) p l, x.long, length-drop (n * s) p) (omega (arith, c.long));
    below = join_below (take (n * s) p) q (take_below pos (n * s) p (λ i _. c.below i)) x.below;
    whole = c.whole ⨾ digits_join pos h s n k p q l x.whole;
  }
    where
      pos : 0 < m
      pos = omega (arith, d.modulus.above_one)

-- the digits from the i-th on are constants
unfoldable pub Scanned : ℕ → List ℕ → ℕ → Type 0
Scanned s q i = (d l : ℕ) → i ≤ d → 0 < l → l < s → coef q (d * s + l) ≡ 0

pub scanned_none : (r s : ℕ) (q : List ℕ) → length q ≡ r * s + 1 → Scanned s q r
unfolding Scanned
scanned_none r s q e d l a b c = get_or-eq_default q 0 (omega (arith, N.mul-le-mul_right {m = r} {n = d} s a))

-- digit i - 1 ends where digit i begins
pub digit-end : (i r s : ℕ) → ¬ (i ≡ 0) → i ≤ r → (i - 1) * s + s ≤ r * s
digit-end i r s a b = omega (arith, digits-end (i - 1) 1 r s (omega arith))

-- digit i, as the code lends it
module _ {s at : ℕ} (i w : ℕ) (q : List ℕ) (ea : at ≡ i * s) (ew : w ≡ s) (inside : at + s ≤ length q) (sp : 0 < s) where
  abbrev x : List ℕ
  x = take w (drop at q)

  wide : length x ≡ s
  wide = length-take-le w (drop at q) (omega (arith, length-drop at q)) ∙ ew

  same : (l : ℕ) → l < s → coef x l ≡ coef q (i * s + l)
  same l b = get_or-take w (drop at q) l 0 (omega arith) ∙ get_or-drop at q l 0 ∙ ap (λ (k : ℕ). coef q (k + l)) ea

  pub digit-below : {d : ℕ} → d ≡ degree x → d < s
  digit-below e = omega (arith, wide, degree-below x (omega (arith, wide)))

  pub scanned_here : {d : ℕ} → d ≡ degree x → ¬ (d ≡ 0) → Scanned s q (i + 1) → HighestAt s q (at + d)
  unfolding Scanned
  scanned_here {d} e ne z =
      let b : d < s = digit-below e in
      place i d (omega arith) b (ap (λ (k : ℕ). k + d) ea) (λ w. degree-leads x (omega arith) (ap (coef x) (sym e) ∙ same d b ∙ w))
      (λ l a c. sym (same l c) ∙ degree-above x l (omega arith)) (λ k l a c f. z k l (omega arith) c f)

  pub scanned_more : {d : ℕ} → d ≡ degree x → d ≡ 0 → Scanned s q (i + 1) → Scanned s q i
  unfolding Scanned
  scanned_more {d} e n z k l a b c = ⊎_elim (λ (u : i ≡ k). rw (← u) (sym (same l c) ∙ degree-above x l (omega arith))) (λ (u : i < k). z k l (omega arith) b c) (N.eq-or-lt_of_le a)

pub scanned_all : (s : ℕ) (q : List ℕ) → Scanned s q 0 → HighestAt s q 0
unfolding Scanned
scanned_all s q z = nowhere (λ i j a b. z i j (omega arith) a b) refl

-- the r digits of f, with what lies above x^n behind them
module _ {m n r s : ℕ} {f h q : List ℕ} (asked : LeftAsked m n r s f h) (x : Expanded m h s r (take (n + 1) f) q) where
  pub expanded_wide : length q ≡ n + 1
  expanded_wide = x.long ∙ asked_long asked ∙ ap (λ (k : ℕ). k + 1) asked.degrees.product

  pub expanded_front : take (n + 1) (q ++ drop (n + 1) f) ≡ q
  expanded_front = take_at q (drop (n + 1) f) (n + 1) expanded_wide

  pos : 0 < m
  pos = omega (arith, asked.modulus.above_one)

  sp : 0 < s
  sp = omega (arith, asked.degrees.two_right)

  short : length q ≤ r * s + s
  short = omega (arith, expanded_wide, asked.degrees.product, sp)

  -- f, by its digits
  from : Same m (from_digits h s r q) f
  from = same_sym x.whole ⨾ asked_same asked

  -- what composes to f is monic, as f is
  heads_monic : Same m f (after (heads s r q) h) → Monic m r (heads s r q)
  heads_monic w = record { top = sym (after-end m pos (heads s r q) sp asked.right.monic above).0 ∙ sym (w.at (r * s)) ∙ rw asked.degrees.product asked.whole.monic.top; above = above }
    where
      above : (i : ℕ) → r < i → coef (heads s r q) i % m ≡ 0 % m
      above i l = ap (λ (y : ℕ). y % m) (get_or-eq_default (heads s r q) 0 (omega (arith, heads_length s r q)))

  pub digits_report : {k : ℕ} → HighestAt s q k → LeftReport m f r s h k
  digits_report (nowhere z e) =
      let w : Same m f (after (heads s r q) h) = same_sym from ⨾ digits_exact pos sp asked.right.monic r q short z in
      report.composes (heads_monic w) w e
  digits_report (place i j a b e ne z y) =
      let (g, F) = forced-left-exists m pos {r = r} {s = s} {f = f} {h = h} sp asked.right.monic (rw asked.degrees.product asked.whole.monic) in
      rw e (report.differs F (forced-differs pos i _ sp asked.right.monic F (omega arith) (omega arith) (differs-same from (same_refl _) (digits_differ pos sp asked.right.monic r q short x.below i j a b ne z y))))
