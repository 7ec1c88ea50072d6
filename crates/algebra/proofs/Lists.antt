-- Lists of chains in order.
--
--   earlier_not                          no chain is earlier than itself
--   earlier_trans                        of three chains
--   earlier_first, earlier_more          a smaller rightmost degree; the same part before both
--   earlier_apart, earlier_here          and back; at the rightmost part
--   earlier_degrees                      only the degrees count
--   lists_unique                         there is one list
--   lists_earlier                        what stands before place j of it
--   lists_as, lists-none, lists-one      said otherwise; of nothing; of one
--   lists-append                         one list after another
--   lists-before                         a part put before each chain
use mathlib.Core.Path.{◌≡◌, refl, sym, ap, ap₂, subst, ◌∙◌}
use mathlib.Core.Logic.{◌⊎◌, inl, inr}
use mathlib.Core.List.{List, [], ◌∷◌, ◌++◌, map}
use Prim.Native.Nat.{ℕ, zero, suc, ◌+◌, ◌-◌, ◌<◌}
use native.Mathlib.Nat as N
use native.Mathlib.Omega.{arith}
use native.Mathlib.Decide.{dec_lt}
use lib.ListN.{get_or, length, take, length-append, length-map, get_or-append}
use lib.Seq.{length-take-le, get_or-take, get_or-append-add}
use Rattle.algebra.specs.Polynomial.{highest, degree}
use Rattle.algebra.specs.Chain.{part, degrees}
use Rattle.algebra.specs.Every.{Earlier, chain_at, Lists}

pub earlier_not : (x : List (List ℕ)) → Earlier x x → ⊥
earlier_not x e = N.lt_irrefl _ e.smaller

pub earlier_trans : {x y z : List (List ℕ)} → Earlier x y → Earlier y z → Earlier x z
earlier_trans {x} {y} {z} a b = go (dec_lt a.place b.place) (dec_lt b.place a.place)
  where
    same : (i : ℕ) → i < a.place → i < b.place → degree (part x i) ≡ degree (part z i)
    same i l k = a.same i l ∙ b.same i k

    go : Dec (a.place < b.place) → Dec (b.place < a.place) → Earlier x z
    go (yes l) d = record { place = a.place; same = λ i h. same i h (omega arith); smaller = omega (arith, a.smaller, b.same a.place l) }
    go (no l) (yes k) = record { place = b.place; same = λ i h. same i (omega arith) h; smaller = omega (arith, b.smaller, a.same b.place k) }
    go (no l) (no k) = let e : a.place ≡ b.place = omega arith in record { place = a.place; same = λ i h. same i h (omega arith); smaller = omega (arith, a.smaller, rw (← e) at b.smaller) }

-- so not both ways
earlier_back : {x y : List (List ℕ)} → Earlier x y → Earlier y x → ⊥
earlier_back {x} a b = earlier_not x (earlier_trans a b)

pub earlier_first : {x y : List (List ℕ)} → degree (part x 0) < degree (part y 0) → Earlier x y
earlier_first l = record { place = 0; same = λ i h. absurd (N.not-suc-le-zero h); smaller = l }

pub earlier_more : (h : List ℕ) {x y : List (List ℕ)} → Earlier x y → Earlier (h ∷ x) (h ∷ y)
earlier_more h {x} {y} e = record { place = suc e.place; same = go; smaller = e.smaller }
  where
    go : (i : ℕ) → i < suc e.place → degree (part (h ∷ x) i) ≡ degree (part (h ∷ y) i)
    go zero l = refl
    go (suc i) l = e.same i (N.le_of_suc-le-suc l)

-- the first difference is at the rightmost part or behind it
pub earlier_apart : {g h : List ℕ} {x y : List (List ℕ)} → Earlier (g ∷ x) (h ∷ y) → (degree g < degree h) ⊎ ((degree g ≡ degree h) × Earlier x y)
earlier_apart {g} {h} {x} {y} e = go e.place e.same e.smaller
  where
    go : (k : ℕ) → ((i : ℕ) → i < k → degree (part (g ∷ x) i) ≡ degree (part (h ∷ y) i)) → degree (part (g ∷ x) k) < degree (part (h ∷ y) k)
        → (degree g < degree h) ⊎ ((degree g ≡ degree h) × Earlier x y)
    go zero s l = inl l
    go (suc k) s l = inr (s 0 (omega arith), record { place = k; same = λ i b. s (suc i) (omega arith); smaller = l })

-- at the rightmost part x has the smaller degree, or the same
pub earlier_here : {x y : List (List ℕ)} → Earlier x y → (degree (part x 0) < degree (part y 0)) ⊎ (degree (part x 0) ≡ degree (part y 0))
earlier_here {x} {y} e = go e.place e.same e.smaller
  where
    go : (k : ℕ) → ((i : ℕ) → i < k → degree (part x i) ≡ degree (part y i)) → degree (part x k) < degree (part y k) → (degree (part x 0) < degree (part y 0)) ⊎ (degree (part x 0) ≡ degree (part y 0))
    go zero s l = inl l
    go (suc k) s l = inr (s 0 (omega arith))

-- the degree of a place; past the leftmost part it is 0
degree-place : (x : List (List ℕ)) (i : ℕ) → degree (part x i) ≡ get_or (degrees x) i 0
unfolding degrees degree highest
degree-place [] i = refl
degree-place (p ∷ x) zero = refl
degree-place (p ∷ x) (suc i) = degree-place x i

-- the order is one of degrees
pub earlier_degrees : {x y x' y' : List (List ℕ)} → degrees x' ≡ degrees x → degrees y' ≡ degrees y → Earlier x y → Earlier x' y'
earlier_degrees {x} {y} {x'} {y'} dx dy e = record { place = e.place; same = λ i l. at_x i ∙ e.same i l ∙ sym (at_y i); smaller = rw (at_x e.place, at_y e.place) e.smaller }
  where
    at_x : (i : ℕ) → degree (part x' i) ≡ degree (part x i)
    at_x i = degree-place x' i ∙ ap (λ (d : List ℕ). get_or d i 0) dx ∙ sym (degree-place x i)

    at_y : (i : ℕ) → degree (part y' i) ≡ degree (part y i)
    at_y i = degree-place y' i ∙ ap (λ (d : List ℕ). get_or d i 0) dy ∙ sym (degree-place y i)

-- x stands in l
abbrev Member : List (List (List ℕ)) → List (List ℕ) → Type 0
Member l x = (j : ℕ) × (j < length l) × (chain_at l j ≡ x)

-- in order
record Ordered (l : List (List (List ℕ))) : Type 0 where
  at : (i j : ℕ) → i < j → j < length l → Earlier (chain_at l i) (chain_at l j)

tail_ordered : {x : List (List ℕ)} {l : List (List (List ℕ))} → Ordered (x ∷ l) → Ordered l
tail_ordered o = record { at = λ i j a b. o.at (suc i) (suc j) (omega arith) (omega arith) }

-- all of l stands in k
abbrev Within : List (List (List ℕ)) → List (List (List ℕ)) → Type 0
Within l k = (j : ℕ) → j < length l → Member k (chain_at l j)

-- the first of both is the same
first-same : {x y : List (List ℕ)} {l k : List (List (List ℕ))} → Ordered (x ∷ l) → Ordered (y ∷ k) → Member (y ∷ k) x → Member (x ∷ l) y → x ≡ y
first-same o q (zero, a, e) w = sym e
first-same o q (suc j, a, e) (zero, b, d) = d
first-same {x} {y} o q (suc j, a, e) (suc i, b, d) =
    absurd (earlier_back (subst (λ z. Earlier y z) e (q.at 0 (suc j) (omega arith) a)) (subst (λ z. Earlier x z) d (o.at 0 (suc i) (omega arith) b)))

-- what follows the first is not the first
rest-within : {x y : List (List ℕ)} (l k : List (List (List ℕ))) → x ≡ y → Ordered (x ∷ l) → Within (x ∷ l) (y ∷ k) → Within l k
rest-within {x} {y} l k same o w j b = go (w (suc j) (omega arith))
  where
    go : Member (y ∷ k) (chain_at l j) → Member k (chain_at l j)
    go (zero, a, e) = absurd (earlier_not x (subst (λ z. Earlier x z) (sym e ∙ sym same) (o.at 0 (suc j) (omega arith) (omega arith))))
    go (suc i, a, e) = (i, N.le_of_suc-le-suc a, e)

-- two lists in order with the same chains
ordered_unique : (l k : List (List (List ℕ))) → Ordered l → Ordered k → Within l k → Within k l → l ≡ k
ordered_unique [] [] o q w v = refl
ordered_unique [] (y ∷ k) o q w v = absurd (N.not-suc-le-zero (v 0 (omega arith)).1)
ordered_unique (x ∷ l) [] o q w v = absurd (N.not-suc-le-zero (w 0 (omega arith)).1)
ordered_unique (x ∷ l) (y ∷ k) o q w v =
    let same = first-same o q (w 0 (omega arith)) (v 0 (omega arith)) in
    ap₂ ◌∷◌ same (ordered_unique l k (tail_ordered o) (tail_ordered q) (rest-within l k same o w) (rest-within k l (sym same) q v))

-- there is one list
pub lists_unique : (P : List (List ℕ) → Type 0) {l k : List (List (List ℕ))} → Lists P l → Lists P k → l ≡ k
lists_unique P {l} {k} p q = ordered_unique l k (record { at = p.ordered }) (record { at = q.ordered }) (λ j b. q.all _ (p.each j b)) (λ j b. p.all _ (q.each j b))

-- those that stand before place j are those that are earlier
pub lists_earlier : (P : List (List ℕ) → Type 0) {l : List (List (List ℕ))} {j : ℕ} → Lists P l → j < length l → Lists (λ y. P y × Earlier y (chain_at l j)) (take j l)
lists_earlier P {l} {j} p b = record {
  each = λ i c. rw (here i (omega (arith, long))) (p.each i (omega (arith, long)), p.ordered i j (omega (arith, long)) b);
  all = λ y (q, e). go y e (p.all y q);
  ordered = λ i k a c. rw (here i (omega (arith, long)), here k (omega (arith, long))) (p.ordered i k a (omega (arith, long)));
}
  where
    long : length (take j l) ≡ j
    long = length-take-le j l (omega arith)

    here : (i : ℕ) → i < j → chain_at (take j l) i ≡ chain_at l i
    here i c = get_or-take j l i [] c

    go : (y : List (List ℕ)) → Earlier y (chain_at l j) → Member l y → Member (take j l) y
    go y e (i, c, d) = place (dec_lt i j) (dec_lt j i)
      where
        place : Dec (i < j) → Dec (j < i) → Member (take j l) y
        place (yes a) w = (i, omega (arith, long), here i a ∙ d)
        place (no a) (yes w) = absurd (earlier_back e (subst (λ z. Earlier (chain_at l j) z) d (p.ordered j i w c)))
        place (no a) (no w) = let same : i ≡ j = omega arith in absurd (earlier_not y (subst (λ z. Earlier y z) (ap (chain_at l) (sym same) ∙ d) e))

-- the same chains, said otherwise
pub lists_as : (P Q : List (List ℕ) → Type 0) {l : List (List (List ℕ))} → ((x : List (List ℕ)) → P x → Q x) → ((x : List (List ℕ)) → Q x → P x) → Lists P l → Lists Q l
lists_as P Q to from p = record { each = λ j b. to _ (p.each j b); all = λ x q. p.all x (from x q); ordered = p.ordered }

pub lists-none : (P : List (List ℕ) → Type 0) → ((x : List (List ℕ)) → P x → ⊥) → Lists P []
lists-none P none = record { each = λ j b. absurd (N.not-suc-le-zero b); all = λ x p. absurd (none x p); ordered = λ i j a b. absurd (N.not-suc-le-zero b) }

pub lists-one : (P : List (List ℕ) → Type 0) (x : List (List ℕ)) → P x → ((y : List (List ℕ)) → P y → x ≡ y) → Lists P (x ∷ [])
lists-one P x p one = record { each = each; all = λ y q. (0, omega arith, one y q); ordered = λ i j a b. absurd (omega arith) }
  where
    each : (j : ℕ) → j < 1 → P (chain_at (x ∷ []) j)
    each zero b = p
    each (suc j) b = absurd (N.not-suc-le-zero (N.le_of_suc-le-suc b))

-- a place of the second list
second-place : {l k j : ℕ} → ¬ (j < l) → j < l + k → (i : ℕ) × (i < k) × (l + i ≡ j)
second-place {l} {k} {j} no_less b = (j - l, omega arith, omega arith)

-- one list after another, all of which come later
pub lists-append : (P Q : List (List ℕ) → Type 0) {l k : List (List (List ℕ))} → Lists P l → Lists Q k → ((x y : List (List ℕ)) → P x → Q y → Earlier x y)
    → Lists (λ x. P x ⊎ Q x) (l ++ k)
lists-append P Q {l} {k} p q later = record { each = λ j b. each j b (dec_lt j (length l)); all = all; ordered = λ i j a b. order i j a b (dec_lt i (length l)) (dec_lt j (length l)) }
  where
    long : length (l ++ k) ≡ length l + length k
    long = length-append l k

    in_first : (j : ℕ) → j < length l → chain_at (l ++ k) j ≡ chain_at l j
    in_first j b = get_or-append l k [] j b

    in_second : (i : ℕ) → chain_at (l ++ k) (length l + i) ≡ chain_at k i
    in_second i = get_or-append-add l k i []

    each : (j : ℕ) → j < length (l ++ k) → Dec (j < length l) → P (chain_at (l ++ k) j) ⊎ Q (chain_at (l ++ k) j)
    each j b (yes a) = inl (rw (in_first j a) (p.each j a))
    each j b (no a) = let (i, c, e) = second-place a (rw long at b) in inr (subst (λ (t : ℕ). Q (chain_at (l ++ k) t)) e (rw (in_second i) (q.each i c)))

    all : (x : List (List ℕ)) → P x ⊎ Q x → (j : ℕ) × (j < length (l ++ k)) × (chain_at (l ++ k) j ≡ x)
    all x (inl a) = let (j, b, e) = p.all x a in (j, omega (arith, long), in_first j b ∙ e)
    all x (inr a) = let (j, b, e) = q.all x a in (length l + j, omega (arith, long), in_second j ∙ e)

    order : (i j : ℕ) → i < j → j < length (l ++ k) → Dec (i < length l) → Dec (j < length l) → Earlier (chain_at (l ++ k) i) (chain_at (l ++ k) j)
    order i j a b c (yes d) = rw (in_first i (omega arith), in_first j d) (p.ordered i j a d)
    order i j a b (yes c) (no d) =
        let (t, u, e) = second-place d (rw long at b) in
        subst (λ (s : ℕ). Earlier (chain_at (l ++ k) i) (chain_at (l ++ k) s)) e (rw (in_first i c, in_second t) (later _ _ (p.each i c) (q.each t u)))
    order i j a b (no c) (no d) =
        let (t, u, e) = second-place d (rw long at b) in
        let (v, w, f) = second-place {k = length k} c (omega (arith, long)) in
        subst (λ (s : ℕ). Earlier (chain_at (l ++ k) i) (chain_at (l ++ k) s)) e
        (subst (λ (s : ℕ). Earlier (chain_at (l ++ k) s) (chain_at (l ++ k) (length l + t))) f (rw (in_second v, in_second t) (q.ordered v t (omega arith) u)))

before_at : (h : List ℕ) (l : List (List (List ℕ))) (j : ℕ) → j < length l → chain_at (map (λ x. h ∷ x) l) j ≡ h ∷ chain_at l j
before_at h [] j b = absurd (N.not-suc-le-zero b)
before_at h (x ∷ l) zero b = refl
before_at h (x ∷ l) (suc j) b = before_at h l j (N.le_of_suc-le-suc b)

-- a part put before each chain
pub lists-before : (P : List (List ℕ) → Type 0) (h : List ℕ) {l : List (List (List ℕ))} → Lists P l → Lists (λ x. (y : List (List ℕ)) × P y × (h ∷ y ≡ x)) (map (λ x. h ∷ x) l)
lists-before P h {l} p = record {
  each = λ j b. (chain_at l j, p.each j (omega (arith, long)), sym (before_at h l j (omega (arith, long))));
  all = λ x (y, q, e). let (j, b, d) = p.all y q in (j, omega (arith, long), before_at h l j b ∙ ap (λ z. h ∷ z) d ∙ e);
  ordered = λ i j a b. rw (before_at h l i (omega (arith, long)), before_at h l j (omega (arith, long))) (earlier_more h (p.ordered i j a (omega (arith, long))));
}
  where
    long : length (map (λ x. h ∷ x) l) ≡ length l
    long = length-map l (λ x. h ∷ x)
