-- The round over the right degrees: what holds of those that were passed.
--
--   tested-few                       at most as many tries as right degrees
--   split_divides, split_pair        the right degree of a pair divides n, and its left degree is n/s
--   half_degrees                     a divisor up to n/2 is the right degree of a pair
--   Passed m n f s t                 f splits at no right degree below s, and t of those were tested
--   passed_none, passed-few          no right degree is below 2; there are fewer tries than s
--   passed_over, passed_missed       one that does not divide n; one at which there is no pair
--   passed_hit                       one at which there is a pair: the first split
--   passed-all                       all up to n/2: there is no split
--   searched_splits                  so the round tells whether f splits
--   asked_at, coprime-at, open_at    what is asked at a right degree, and what is given where the root leaves a pair open
--   none-at                          its no is no pair
--   hit, miss                        what the answer to a split says
use mathlib.Core.Path.{◌≡◌, refl, sym, ap, subst, ◌∙◌}
use mathlib.Core.Bool.{Bool, false, false≢true}
use mathlib.Core.List.{List}
use Prim.Native.Nat.{ℕ, zero, suc, ◌+◌, ◌-◌, ◌/◌, ◌%◌, ◌≤◌, ◌<◌}
use native.Mathlib.Nat as N
use native.Mathlib.Numerals.{sub-one}
use native.Mathlib.Omega.{arith}
use borrow.Author.Count.{below_more}
use Rattle.algebra.specs.Number.{Coprime}
use Rattle.algebra.specs.Polynomial.{limit}
use Rattle.algebra.specs.Pair.{Pair, NormalPair, NoPair, SplitsRight}
use Rattle.algebra.specs.Chain.{divides, tested}
use Rattle.algebra.proofs.Chains.{splits, split_half, unsplit-at, split_at}
use Rattle.polynomial.specs.Degrees.{Degrees}
use Rattle.refusal.specs.Refusal.{Answered, Refused}
use Rattle.refusal.specs.declared.Refusal.{Refusal}
use Rattle.refusal.proofs.Outcomes.{never}
use Rattle.std.specs.Prelude.{Option, Some, None, is_some}
use Rattle.polynomial.specs.Answers.{no_parts}
use Rattle.polynomial.specs.Answers.{Parts}
use Rattle.right.specs.Right.{Root}
use Rattle.pair.specs.Pairing.{SplitAsked, Opened, SplitAnswer}
use Rattle.pair.specs.Pairing as of
use Rattle.pair.proofs.Forcing.{root_open, root_none}
use Rattle.round.specs.declared.Split.{Split}
use Rattle.round.specs.Round.{ChainAsked, FirstSplit, NoSplit, Searched, Splittable}
use Rattle.round.proofs.Asking.{left-coprime}

divides-yes : (d n : ℕ) → n % d ≡ 0 → divides d n ≡ 1
unfolding divides
divides-yes d n e = rw (e, divides)

divides-no : (d n : ℕ) → (n % d ≡ 0 → ⊥) → divides d n ≡ 0
unfolding divides
divides-no d n h = go (n % d) refl
  where
    go : (e : ℕ) → n % d ≡ e → divides d n ≡ 0
    go zero e = absurd (h e)
    go (suc k) e = rw (e, divides)

divides-few : (d n : ℕ) → divides d n ≤ 1
unfolding divides
divides-few d n = go (n % d) refl
  where
    go : (e : ℕ) → n % d ≡ e → divides d n ≤ 1
    go zero e = rw (e, divides) (omega arith)
    go (suc k) e = rw (e, divides) (omega arith)

tested_at : (n s : ℕ) → 2 ≤ s → tested n s ≡ tested n (s - 1) + divides s n
unfolding tested
tested_at n zero l = absurd (omega arith)
tested_at n (suc zero) l = absurd (omega arith)
tested_at n (suc (suc d)) l = rw (sub-one (suc (suc d)))

pub tested-few : (n s : ℕ) → tested n s ≤ s
unfolding tested
tested-few n zero = omega arith
tested-few n (suc zero) = omega arith
tested-few n (suc (suc s)) = omega (arith, tested-few n (suc s), divides-few (suc (suc s)) n)

-- a right degree at which f splits divides n
pub split_divides : {m n s : ℕ} {f : List ℕ} → SplitsRight m n f s → n % s ≡ 0
split_divides {s = s} w = ap (λ (x : ℕ). x % s) (sym w.degrees) ∙ N.mul-mod_left w.r s

-- and the left degree there is n/s
pub split_pair : {m n s : ℕ} {f : List ℕ} (w : SplitsRight m n f s) → Pair m f (n / s) s w.g w.h
split_pair {m} {s = s} {f = f} w = subst (λ (r : ℕ). Pair m f r s w.g w.h) (sym (N.mul-div_cancel w.r (omega (arith, w.two_right))) ∙ ap (λ (x : ℕ). x / s) w.degrees) w.pair

-- a divisor from 2 to n/2 is the right degree of a pair
pub half_degrees : {n s : ℕ} → 2 ≤ s → n % s ≡ 0 → s ≤ n / 2 → n ≤ limit → Degrees n (n / s) s
half_degrees {n} {s} b e l k = record { product = omega (arith, N.div-add-mod' n s, e); within = k; two_left = (N.le-div_iff_mul-le {k = s} {x = 2} {y = n} (omega arith)).1 (omega arith); two_right = b }

-- f splits at no right degree below s, and t of those were tested
pub record Passed (m n : ℕ) (f : List ℕ) (s t : ℕ) : Type 0 where
  pub two : 2 ≤ s
  pub none : (d : ℕ) → d < s → SplitsRight m n f d → ⊥
  pub tries : t ≡ tested n (s - 1)

pub passed_none : (m n : ℕ) (f : List ℕ) → Passed m n f 2 0
unfolding tested
passed_none m n f = record { two = omega arith; none = λ d l w. omega (arith, w.two_right); tries = refl }

module _ {m n s t : ℕ} {f : List ℕ} (p : Passed m n f s t) where
  -- s counts if it divides n
  counted : tested n s ≡ t + divides s n
  counted = omega (arith, p.tries, tested_at n s p.two)

  -- fewer tries than right degrees, so that they fit a word
  pub passed-few : t < s
  passed-few = omega (arith, p.two, p.tries, tested-few n (s - 1))

  passed-more : {u : ℕ} → (SplitsRight m n f s → ⊥) → u ≡ t + divides s n → Passed m n f (s + 1) u
  passed-more {u} none e = record {
    two = omega (arith, p.two);
    none = below_more (λ d. SplitsRight m n f d → ⊥) s p.none none;
    tries = e ∙ sym counted ∙ ap (tested n) (sym (N.add-sub_cancel s 1));
  }

  -- a right degree of a pair divides n
  pub passed_over : (n % s ≡ 0 → ⊥) → Passed m n f (s + 1) t
  passed_over h = passed-more (λ w. h (split_divides w)) (omega (arith, divides-no s n h))

  -- the pair at a right degree s has the left degree n/s
  pub passed_missed : n % s ≡ 0 → NoPair m f (n / s) s → Passed m n f (s + 1) (t + 1)
  passed_missed h none = passed-more (λ w. none w.g w.h (split_pair w)) (omega (arith, divides-yes s n h))

  -- the first right degree at which f splits
  pub passed_hit : {g h : List ℕ} → n % s ≡ 0 → Degrees n (n / s) s → NormalPair m f (n / s) s g h → FirstSplit m n f s (t + 1) g h
  passed_hit e d q = record { two_left = d.two_left; two_right = d.two_right; product = d.product; first = p.none; pair = q; tries = omega (arith, counted, divides-yes s n e) }

  -- a right degree of a pair is at most n/2
  pub passed-all : n / 2 < s → s ≤ n / 2 + 1 → NoSplit m n f t
  passed-all a b = record { none = λ d w. p.none d (omega (arith, split_half w)) w; tries = p.tries ∙ ap (tested n) last }
    where
      last : s - 1 ≡ n / 2
      last = omega arith

-- so the round tells whether f splits
pub searched_splits : {m n : ℕ} {f : List ℕ} (t : ℕ) (x : Option Split) → ChainAsked m n f → Searched m n f t x → Splittable m f (is_some x)
searched_splits t (Some x) a k = record {
  yes = λ z u. split_at a.modulus.above_one a.whole.reduced a.whole.monic u x.at (splits k.two_left k.two_right k.product k.pair.pair);
  no = λ z. absurd (false≢true (sym z));
}
searched_splits t None a k = record {
  yes = λ z. absurd (false≢true z);
  no = λ z. unsplit-at a.modulus.above_one a.whole.reduced a.whole.monic k.none;
}

-- at a right degree
module _ {m n s : ℕ} {f : List ℕ} (a : ChainAsked m n f) (two : 2 ≤ s) (e : n % s ≡ 0) (l : s ≤ n / 2) where
  pub asked_at : SplitAsked m n (n / s) s f
  asked_at = record { modulus = a.modulus; degrees = half_degrees two e l a.whole.within; whole = a.whole }

  pub coprime-at : Coprime (n / s) m
  coprime-at = left-coprime s a.modulus.above_one a.coprime asked_at.degrees.product

  pub open_at : {t : List ℕ} {b : Bool} → Root m f (n / s) s t b → Opened m n (n / s) s f t
  open_at = root_open asked_at coprime-at

  pub none-at : {t : List ℕ} {b : Bool} → Root m f (n / s) s t b → b ≡ false → NoPair m f (n / s) s
  none-at = root_none asked_at coprime-at

-- a split that is answered has the pair
pub hit : {m r s : ℕ} {f g h : List ℕ} → SplitAnswer m f r s (record { outcome = Answered; left = g; right = h }) → NormalPair m f r s g h
unfolding no_parts
hit (of.shared c e) = absurd (never refl (sym (ap (λ (x : Parts). x.outcome) e)))
hit (of.none c n e) = absurd (never refl (sym (ap (λ (x : Parts). x.outcome) e)))
hit {m} {r} {s} {f} {g} {h} (of.found {g = k} {h = l} c p e) =
    let left : g ≡ k = ap (λ (x : Parts). x.left) e in
    let right : h ≡ l = ap (λ (x : Parts). x.right) e in
    rw (left, right) p

-- and one that is refused has none, where r and m share no factor
pub miss : {m r s : ℕ} {f : List ℕ} (o : Refusal) → Coprime r m → SplitAnswer m f r s (no_parts (Refused o)) → NoPair m f r s
unfolding no_parts
miss o c (of.shared d e) = absurd (d c)
miss o c (of.none d n e) = n
miss o c (of.found d p e) = absurd (never refl (ap (λ (x : Parts). x.outcome) e))
