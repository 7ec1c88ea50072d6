-- The rows of the powers of t as the loops fill them, column after column.
--
--   left_twice, right_twice      the degrees of a pair are at most half of n
--   column_none, column_more     column k, its rows one after the other
--   column_place                 the place that its loop writes is there
--   column_room, column_strides  the rows that column k has, as many as r and k allow, are there
--   room-none                    a new list has room for the rows
--   rows_none, rows_next         the columns one after the other: row 0 by 01's equation, divided by r
--   scaled-none, scaled-more     the binomials divided by -r, one after the other
--   unscaled                     01's equation as it stands
use mathlib.Core.Path.{◌≡◌, refl, sym, ◌∙◌, ap, ap₂}
use mathlib.Core.Logic.{⊎_elim}
use mathlib.Core.List.{List}
use Prim.Native.Nat.{ℕ, zero, suc, min, ◌+◌, ◌*◌, ◌-◌, ◌%◌, ◌≤◌, ◌<◌}
use native.Mathlib.Nat.{mul-add-mod_self_right, mod-eq_of_lt, mod-lt, mul-le-mul_left, mul-le-mul_right, mul-lt-mul_of_pos_right, eq-or-lt_of_le}
use native.Mathlib.Omega.{arith}
use lib.ListN.{length, set, length-set, replicate, length-replicate}
use lib.Seq.{get_or-set_same, get_or-set_other}
use Rattle.algebra.specs.Number.{choose}
use Rattle.algebra.specs.Polynomial.{coef, limit, terms}
use Rattle.inner.specs.Inner.{inner, strided, Strides}
use Rattle.algebra.proofs.Congruent.{Congruent, from_eq, reduced, turn, plus, times, restored, ◌then◌}
use Rattle.inner.proofs.Inner.{inner_extensional, strided-none, strided-more, strided-first, strided_extensional}
use Rattle.binomial.specs.Triangle.{rows}
use Rattle.polynomial.specs.Degrees.{Degrees}
use Rattle.polynomial.proofs.Below.{set_below}
use Rattle.polynomial.proofs.Filling.{zeros}
use Rattle.right.specs.Rows.{words, Space, Scaled, Before, Column, Rows}

pub left_twice : {n r s : ℕ} → Degrees n r s → r + r ≤ n
left_twice {n} {r} {s} D = omega (arith, mul-le-mul_left {m = 2} {n = s} r D.two_right)

pub right_twice : {n r s : ℕ} → Degrees n r s → s + s ≤ n
right_twice {n} {r} {s} D = omega (arith, mul-le-mul_right {m = 2} {n = r} s D.two_left)

-- the column of a place
column_of : (s i c : ℕ) → c < s → (i * s + c) % s ≡ c
column_of s i c l = mul-add-mod_self_right i s c ∙ mod-eq_of_lt l

-- so two columns share no place
apart : {s k : ℕ} (i j c : ℕ) → c < k → k < s → i * s + c ≡ j * s + k → ⊥
apart {s} {k} i j c l h e =
    let q : c ≡ k = sym (column_of s i c (omega arith)) ∙ ap (λ (n : ℕ). n % s) e ∙ column_of s j k h in omega arith

before_refl : {s k : ℕ} {a : List ℕ} → Before s k a a
before_refl = record { at = λ i c l. refl }

before_trans : {s k : ℕ} {a b d : List ℕ} → Before s k a b → Before s k b d → Before s k a d
before_trans h g = record { at = λ i c l. g.at i c l ∙ h.at i c l }

before-less : {s k j : ℕ} {a b : List ℕ} → j ≤ k → Before s k a b → Before s j a b
before-less le h = record { at = λ i c l. h.at i c (omega arith) }

-- a store in column k
before-set : {s k : ℕ} {a b : List ℕ} (i : ℕ) {p : ℕ} (x : ℕ) → k < s → p ≡ i * s + k → Before s k a b → Before s k a (set b p x)
before-set {s} {k} {a} {b} i {p} x l e h = record { at = λ j c g. get_or-set_other b p (j * s + c) x 0 (λ q. apart j i c g l (q ∙ e)) ∙ h.at j c g }

-- row 0
before-first : {s k : ℕ} {a b : List ℕ} (c : ℕ) → c < k → Before s k a b → coef b c ≡ coef a c
before-first {s} c l h = let e : 0 * s + c ≡ c = omega arith in rw e at (h.at 0 c l)

-- what an entry of column k is made of lies before it
before-inner : {s k : ℕ} {a b : List ℕ} (i n : ℕ) → n < k → Before s k a b → inner b b (i * s + k) 1 n ≡ inner a a (i * s + k) 1 n
before-inner {s} {k} {a} {b} i n l h =
    inner_extensional b a b a (i * s + k) 1 n (λ j p q. before-first j (omega arith) h)
    (λ j p q. let e : i * s + k - j ≡ i * s + (k - j) = omega arith in rw e (h.at i (k - j) (omega arith)))

-- a whole column before k
before-strided : {s k : ℕ} {a a' : List ℕ} (b : List ℕ) (c n : ℕ) → c < k → Before s k a a' → strided b a' 2 (c + s) s n ≡ strided b a 2 (c + s) s n
before-strided {s} {k} {a} {a'} b c n l h =
    strided_extensional b b a' a 2 (c + s) s n (λ i g. refl)
    (λ i g. let e : c + s + i * s ≡ suc i * s + c = omega arith in rw e (h.at (suc i) c l))

-- a column's rows after the first do not see the first
set-strided : {s : ℕ} (b a : List ℕ) (k x n : ℕ) → 0 < s → strided b (set a k x) 2 (k + s) s n ≡ strided b a 2 (k + s) s n
set-strided {s} b a k x n l = strided_extensional b b (set a k x) a 2 (k + s) s n (λ i g. refl) (λ i g. get_or-set_other a k (k + s + i * s) x 0 (λ q. omega arith))

-- before the first row, and after row i + 1
pub column_none : {m s k : ℕ} {a : List ℕ} → Column m s k 0 a a
column_none = record { long = refl; small = λ h. h; before = before_refl; is = λ i l. omega arith }

pub column_more : {m s k i : ℕ} {a b : List ℕ} {p n x : ℕ} → 0 < m → k < s → i < k → p ≡ i * s + k → p + s < length b
    → n ≡ k - suc i → x ≡ inner b b p 1 n % m → Column m s k i a b → Column m s k (i + 1) a (set b (p + s) x)
column_more {m} {s} {k} {i} {a} {b} {p} {n} {x} pos l ik e inside f v h = record {
  long = length-set b (p + s) x ∙ h.long;
  small = λ g. set_below b (p + s) x (rw v (mod-lt _ pos)) (h.small g);
  before = before-set (suc i) x l row h.before;
  is = λ j g. ⊎_elim
      (λ (q : j ≡ i). rw q (ap (coef (set b (p + s) x)) (sym row) ∙ get_or-set_same b (p + s) x 0 inside ∙ v ∙ ap₂ (λ (c d : ℕ). inner b b c 1 d % m) e f ∙ same i (omega arith)))
      (λ (q : j < i). get_or-set_other b (p + s) (suc j * s + k) x 0 (λ w. other j q (w ∙ row)) ∙ h.is j q ∙ same j (omega arith))
      (eq-or-lt_of_le (omega arith));
}
  where
    row : p + s ≡ suc i * s + k
    row = omega arith

    same : (j : ℕ) → j < k → inner b b (j * s + k) 1 (k - suc j) % m ≡ inner (set b (p + s) x) (set b (p + s) x) (j * s + k) 1 (k - suc j) % m
    same j q = ap (λ (y : ℕ). y % m) (sym (before-inner j (k - suc j) (omega arith) (before-set (suc i) x l row before_refl)))

    other : (j : ℕ) → j < i → suc j * s + k ≡ suc i * s + k → ⊥
    other j q w = let t : suc j * s < suc i * s = mul-lt-mul_of_pos_right (omega arith) (omega arith) in omega arith

-- row i + 1 of the rows up to n lies in the list
pub column_place : (i n w k : ℕ) → i < n → k < w → (n + 1) * w ≤ words → i * w + k + w < words
column_place i n w k l h b = omega (arith, mul-le-mul_right {m = i + 2} {n = n + 1} w (omega arith))

-- column k has the rows up to l = min r k, from 1
module _ {n r s k l : ℕ} (D : Degrees n r s) (e : l ≡ min r k) (kw : k < s + 2) where
  room : l * (s + 2) ≤ words
  unfolding words terms
  room = let t : l * s ≤ r * s = mul-le-mul_right s (omega arith) in omega (arith, left_twice D)

  pub column_room : 0 < k → (l - 1 + 1) * (s + 2) ≤ words
  column_room kp = let q : l - 1 + 1 ≡ l = omega (arith, D.two_left) in rw q room

  pub column_strides : {la lb : ℕ} → l < la → lb ≡ words → Strides la lb 1 (l + 1) k (s + 2)
  unfolding limit
  column_strides f g =
      let p = left_twice D in
      let q = right_twice D in
      record {
        order = omega arith;
        first = omega arith;
        inside = λ i h. omega (arith, room, mul-le-mul_right {m = i + 1} {n = l} (s + 2) (omega arith));
        few = omega arith;
        start = omega arith;
        stride = omega arith;
      }

-- b = -C/r
negated : (m r u C : ℕ) {x y b : ℕ} → 0 < m → u * r % m ≡ 1 % m → x ≡ C % m → y ≡ x * u % m → b ≡ (0 + (m - y)) % m → (r * b + C) % m ≡ 0 % m
negated m r u C {x} {y} {b} pos unit xe ye be =
    let U : Congruent m (u * r) 1 = record { same = unit } in
    let i : 1 * x ≡ x = omega arith in
    let j : u * r * x ≡ x * u * r = omega arith in
    let k : r * b + C ≡ C + r * b = omega arith in
    let l : x * u * r + r * b ≡ (b + x * u) * r = omega arith in
    let o : 0 * r ≡ 0 = omega arith in
    (from_eq k then plus (r * b) (turn (reduced xe) then turn (from_eq i) then times x (turn U) then from_eq j) then from_eq l then times r (restored (x * u) pos ye be) then from_eq o).same

pub scaled-none : {m r u : ℕ} → Scaled m r u 1 (set (replicate rows zero) 1 u)
unfolding rows
scaled-none {m} {r} {u} = record {
  long = length-set (replicate 64 zero) 1 u ∙ length-replicate 64 zero;
  one = refl;
  is = λ i l h. absurd (omega arith);
}

pub scaled-more : {m r u i : ℕ} {b : List ℕ} {x y c : ℕ} → 0 < m → u * r % m ≡ 1 % m → 1 < i → i < rows → x ≡ choose r i % m → y ≡ x * u % m → c ≡ (0 + (m - y)) % m
    → Scaled m r u (i - 1) b → Scaled m r u (i + 1 - 1) (set b i c)
scaled-more {m} {r} {u} {i} {b} {x} {y} {c} pos unit l in_rows xe ye ce S = record {
  long = length-set b i c ∙ S.long;
  one = get_or-set_other b i 1 c 0 (λ q. omega arith) ∙ S.one;
  is = λ j a h. ⊎_elim
      (λ (q : j ≡ i). rw (q, get_or-set_same b i c 0 (omega (arith, S.long))) (negated m r u (choose r i) pos unit xe ye ce))
      (λ (q : j < i). rw (get_or-set_other b i j c 0 (λ z. omega arith)) (S.is j a (omega arith)))
      (eq-or-lt_of_le (omega arith));
}

-- a new list
pub room-none : {m : ℕ} → 0 < m → Space m (replicate words 0)
room-none pos = record { long = length-replicate words 0; small = λ i. rw (zeros words i) pos }

-- before the first column
pub rows_none : {m : ℕ} {f : List ℕ} {n r w : ℕ} {b a : List ℕ} → Space m a → Rows m f n r w b 1 a
rows_none R = record { room = R; is = λ k i l h. omega arith; sum = λ k l h. omega arith }

-- after column k: a' has its rows after the first, f's coefficient y is put at k, and then the sum x
module _ {m : ℕ} {f : List ℕ} {n r w : ℕ} {b : List ℕ} {k : ℕ} {a : List ℕ} (a' : List ℕ) (y x : ℕ) {l : ℕ}
    (le : l ≡ min r k) (R : Rows m f n r w b k a) (C : Column m w k (l - 1) a a') (two : 2 ≤ r) (pos : 0 < m) (kp : 0 < k) (kw : k < w)
    (inside : k < length a') (ye : y ≡ coef f (n - k)) (small : y < m) (xe : x ≡ strided b (set a' k y) 1 k w (l + 1 - 1) % m) where
  first : Before w k a' (set a' k y)
  first = before-set 0 y kw (omega arith) before_refl

  fresh : Before w k a' (set (set a' k y) k x)
  fresh = before-set 0 x kw (omega arith) first

  all : Before w k a (set (set a' k y) k x)
  all = before_trans C.before fresh

  -- 01's equation for place k of row 0
  here : coef (set (set a' k y) k x) k ≡ (coef b 1 * coef f (n - k) + strided b (set (set a' k y) k x) 2 (k + w) w (min r k - 1)) % m
  here =
      let e : l + 1 - 1 ≡ suc (min r k - 1) = omega arith in
      get_or-set_same (set a' k y) k x 0 (rw (length-set a' k y) inside) ∙ xe ∙ ap (λ (j : ℕ). strided b (set a' k y) 1 k w j % m) e
      ∙ ap (λ (j : ℕ). j % m) (strided-first b (set a' k y) 1 k w (min r k - 1) ∙ ap₂ (λ (u v : ℕ). coef b 1 * u + v) (get_or-set_same a' k y 0 inside ∙ ye) (sym (set-strided b (set a' k y) k x (min r k - 1) (omega arith))))

  pub rows_next : Rows m f n r w b (k + 1) (set (set a' k y) k x)
  rows_next = record {
    room = record {
      long = length-set (set a' k y) k x ∙ length-set a' k y ∙ C.long ∙ R.room.long;
      small = set_below (set a' k y) k x (rw xe (mod-lt _ pos)) (set_below a' k y small (C.small R.room.small));
    };
    is = λ c i g h. ⊎_elim
        (λ (q : c ≡ k). rw q (get_or-set_other (set a' k y) k (suc i * w + k) x 0 (λ z. omega arith) ∙ get_or-set_other a' k (suc i * w + k) y 0 (λ z. omega arith) ∙ C.is i (omega arith) ∙ ap (λ (n : ℕ). n % m) (sym (before-inner i (k - suc i) (omega arith) fresh))))
        (λ (q : c < k). all.at (suc i) c q ∙ R.is c i q h ∙ ap (λ (n : ℕ). n % m) (sym (before-inner i (c - suc i) (omega arith) (before-less (omega arith) all))))
        (eq-or-lt_of_le (omega arith));
    sum = λ c g h. ⊎_elim
        (λ (q : c ≡ k). rw q here)
        (λ (q : c < k). before-first c q all ∙ R.sum c g q ∙ ap (λ (v : ℕ). (coef b 1 * coef f (n - c) + v) % m) (sym (before-strided b c (min r c - 1) q all)))
        (eq-or-lt_of_le (omega arith));
  }

-- r·b(i) + c(i) is 0 for every term: so is the sum
scaled-sum : (m r : ℕ) (b c a : List ℕ) (lo at step n : ℕ) → ((i : ℕ) → i < n → (r * coef b (lo + i) + coef c (lo + i)) % m ≡ 0 % m)
    → Congruent m (r * strided b a lo at step n + strided c a lo at step n) 0
scaled-sum m r b c a lo at step zero z = from_eq (rw (strided-none b a lo at step, strided-none c a lo at step) (omega arith))
scaled-sum m r b c a lo at step (suc n) z =
    let e : r * (strided b a lo at step n + coef b (lo + n) * coef a (at + n * step)) + (strided c a lo at step n + coef c (lo + n) * coef a (at + n * step))
    ≡ (r * coef b (lo + n) + coef c (lo + n)) * coef a (at + n * step) + (r * strided b a lo at step n + strided c a lo at step n) = omega arith in
    let Zn : Congruent m (r * coef b (lo + n) + coef c (lo + n)) 0 = record { same = z n (omega arith) } in
    let g : 0 * coef a (at + n * step) + (r * strided b a lo at step n + strided c a lo at step n) ≡ r * strided b a lo at step n + strided c a lo at step n = omega arith in
    from_eq (rw (strided-more b a lo at step n, strided-more c a lo at step n) e) then plus (r * strided b a lo at step n + strided c a lo at step n) (times (coef a (at + n * step)) Zn)
    then from_eq g then scaled-sum m r b c a lo at step n (λ i l. z i (omega arith))

-- 01's equation as it stands: c has the binomials themselves
pub unscaled : {m : ℕ} {f : List ℕ} {n r w : ℕ} {b : List ℕ} {K : ℕ} {a : List ℕ} (c : List ℕ) {u top : ℕ} → Scaled m r u top b → u * r % m ≡ 1 % m → Rows m f n r w b K a
    → (k : ℕ) → 0 < k → k < K → min r k ≤ top → ((i : ℕ) → i ≤ r → coef c i ≡ choose r i) → (r * coef a k + strided c a 2 (k + w) w (min r k - 1)) % m ≡ coef f (n - k) % m
unscaled {m} {f} {n} {r} {w} {b} {K} {a} c {u} {top} S unit T k kp kK most ce =
    let B : ℕ = strided b a 2 (k + w) w (min r k - 1) in
    let Cs : ℕ = strided c a 2 (k + w) w (min r k - 1) in
    (from_eq (one (coef a k) Cs) then plus Cs (times r (reduced (T.sum k kp kK ∙ ap (λ (x : ℕ). (x * coef f (n - k) + B) % m) S.one)))
    then from_eq (two u (coef f (n - k)) B Cs) then plus (r * B + Cs) (times (coef f (n - k)) (record { same = unit })) then from_eq (three (coef f (n - k)) (r * B + Cs))
    then plus (coef f (n - k)) (scaled-sum m r b c a 2 (k + w) w (min r k - 1) (λ i l. rw (ce (2 + i) (omega arith)) (S.is (2 + i) (omega arith) (omega arith)))) then from_eq (zero_first (coef f (n - k)))).same
  where
    one : (x y : ℕ) → r * x + y ≡ x * r + y
    one x y = omega arith

    two : (u x y z : ℕ) → (u * x + y) * r + z ≡ u * r * x + (r * y + z)
    two u x y z = omega arith

    three : (x y : ℕ) → 1 * x + y ≡ y + x
    three x y = omega arith

    zero_first : (x : ℕ) → 0 + x ≡ x
    zero_first x = omega arith
