-- How many complete chains there are: at most n*n, since at a right degree s there are at most (n/s)^2, and the sum of 1/s^2 from
-- s = 2 on is below 1. Whether f splits at s is not decided here, so all that is shown first is that a list is not impossible; what
-- follows of numbers then holds.
--
--   every-few, below-few     all of them; those with a rightmost degree below s
--   nth_unique, nth-ordered  there is one j-th chain; an earlier place, an earlier chain
use mathlib.Core.Path.{◌≡◌, sym, ap, subst, ◌∙◌}
use mathlib.Core.List.{List, [], ◌∷◌, ◌++◌, map}
use Prim.Native.Nat.{ℕ, zero, suc, ◌+◌, ◌*◌, ◌-◌, ◌/◌, ◌≤◌, ◌<◌}
use native.Mathlib.Nat as N
use native.Mathlib.Omega.{arith}
use native.Mathlib.Decide.{dec_le}
use native.Mathlib.Numerals.{add-one}
use lib.ListN.{get_or, length, take, length-append, length-map}
use lib.Seq.{ext_get_or, length-take-le}
use Rattle.algebra.specs.Pair.{SplitsRight, Unsplit}
use Rattle.algebra.specs.Chain.{degrees}
use Rattle.algebra.specs.Every.{CompleteChain, Earlier, chain_at, Lists, EveryChain, NthChain}
use Rattle.algebra.proofs.Lists.{earlier_trans, lists_unique, lists_earlier, lists_as, lists-none}
use Rattle.algebra.proofs.Complete.{Chainable, split_normal, complete_unique}
use Rattle.algebra.proofs.Every.{RightAt, RightBelow, every_unique, below_none, at_none, at_split, at_before, below_more, every_one, every-below, nth-at}

-- c chains below s = d + 2, and e at s
room : (q c d : ℕ) → c * suc d ≤ q * d → c ≤ q
room q c d b = N.le_of_mul-le-mul_right {m = c} {n = q} {k = suc d} (omega (arith, b)) (omega arith)

room-more : (q c e d : ℕ) → c * suc d ≤ q * d → e * (suc (suc d) * suc (suc d)) ≤ q → (c + e) * suc (suc d) ≤ q * suc d
room-more q c e d a b = N.le_of_mul-le-mul_right {m = (c + e) * suc (suc d)} {n = q * suc d} {k = suc d} (omega (arith, N.mul-le-mul_right (suc (suc d)) a, b)) (omega arith)

-- c chains of a left part of degree r
room-left : (r s n c : ℕ) → r * s ≡ n → c ≤ r * r → c * (s * s) ≤ n * n
room-left r s n c e b = rw (← e) (omega (arith, N.mul-le-mul_right (s * s) b))

-- whether or not A
either : {A : Type 0} → ((A → ⊥) → ⊥) → (A → ⊥) → ⊥
either a b = a b

module _ {m n : ℕ} {f : List ℕ} (t : Chainable m n f) where
  at-few : {s : ℕ} → s < n → ((r : ℕ) (g : List ℕ) → r < n → Chainable m r g → ((l : List (List (List ℕ))) → EveryChain m g l → length l ≤ r * r → ⊥) → ⊥)
      → ((k : List (List (List ℕ))) → Lists (RightAt m f s) k → length k * (s * s) ≤ n * n → ⊥) → ⊥
  at-few {s} l left no-list = either {A = SplitsRight m n f s} (λ none. no-list [] (lists-none (RightAt m f s) (at_none t l none)) (omega (arith, N.zero-mul (s * s)))) found
    where
      found : SplitsRight m n f s → ⊥
      found w =
          let e = w.degrees in
          let a = w.two_left in
          let b = w.two_right in
          let (g, h, p, q', less) = split_normal t w in
          either {A = Unsplit m h} (λ splits. no-list [] (lists-none (RightAt m f s) (at_split t a b e p splits)) (omega (arith, N.zero-mul (s * s))))
          (λ u. left w.r g less q' (λ k q c. no-list (map (λ x. h ∷ x) k) (at_before t a b e p u q) (room-left w.r s n _ e (omega (arith, c, length-map k (λ x. h ∷ x))))))

  -- right degree by right degree
  below-built : ((r : ℕ) (g : List ℕ) → r < n → Chainable m r g → ((l : List (List (List ℕ))) → EveryChain m g l → length l ≤ r * r → ⊥) → ⊥)
      → (d : ℕ) → d < n / 2 → ((l : List (List (List ℕ))) → Lists (RightBelow m f (suc (suc d))) l → length l * suc d ≤ n * n * d → ⊥) → ⊥
  below-built left zero l no-list = no-list [] (below_none t) (omega arith)
  below-built left (suc d) l no-list =
      below-built left d (omega arith) (λ x p b.
      at-few {s = suc (suc d)} (omega arith) left (λ k q c. no-list (x ++ k) (rw (add-one (suc (suc d))) at (below_more t p q)) (rw (length-append x k) (room-more (n * n) (length x) (length k) d b c))))

built : (k n : ℕ) → n < k → {m : ℕ} {f : List ℕ} → Chainable m n f → ((l : List (List (List ℕ))) → EveryChain m f l → length l ≤ n * n → ⊥) → ⊥
built zero n b t no-list = N.not-suc-le-zero b
built (suc k) n b {m} {f} t no-list = below-built t (λ r g c v z. built k r (omega arith) v z) (n / 2 - 1) (omega (arith, t.two)) go
  where
    half : n / 2 < suc (suc (n / 2 - 1))
    half = omega arith

    square : 1 ≤ n * n
    square = omega (arith, t.two, N.mul-le-mul_left n t.two)

    go : (l : List (List (List ℕ))) → Lists (RightBelow m f (suc (suc (n / 2 - 1)))) l → length l * suc (n / 2 - 1) ≤ n * n * (n / 2 - 1) → ⊥
    go [] p c = no-list ((f ∷ []) ∷ []) (every_one t half p) square
    go (x ∷ l) p c = no-list (x ∷ l) (every-below t half (omega arith) p) (room (n * n) (length (x ∷ l)) (n / 2 - 1) c)

-- a list of every chain is not impossible
listed : {m n : ℕ} {f : List ℕ} → Chainable m n f → ((l : List (List (List ℕ))) → EveryChain m f l → length l ≤ n * n → ⊥) → ⊥
listed {n = n} t = built (suc n) n (omega arith) t

-- what is not impossible of numbers holds
stable_le : {a b : ℕ} → ((a ≤ b → ⊥) → ⊥) → a ≤ b
stable_le {a} {b} w = go (dec_le a b)
  where
    go : Dec (a ≤ b) → a ≤ b
    go (yes l) = l
    go (no l) = absurd (w l)

stable_eq : {a b : ℕ} → ((a ≡ b → ⊥) → ⊥) → a ≡ b
stable_eq {a} {b} w = N.le_antisymm (stable_le (λ l. w (λ e. l (omega arith)))) (stable_le (λ l. w (λ e. l (omega arith))))

module _ {m n : ℕ} {f : List ℕ} (t : Chainable m n f) where
  -- there are at most n*n chains
  pub every-few : {l : List (List (List ℕ))} → EveryChain m f l → length l ≤ n * n
  every-few {l} p = stable_le (λ b. listed t (λ k q c. b (rw (every_unique t p q) c)))

  -- and at most so many below s, so that they can be counted on the way
  pub below-few : {s : ℕ} {l : List (List (List ℕ))} → 2 ≤ s → s ≤ n / 2 + 1 → Lists (RightBelow m f s) l → length l ≤ n * n
  below-few {s} {l} two half p = stable_le (λ b. below-built t (λ r g c v. listed v) (s - 2) (omega arith) (λ k q c. b (rw (lists_unique (RightBelow m f s) p (rw same at q)) (room (n * n) (length k) (s - 2) c))))
    where
      same : suc (suc (s - 2)) ≡ s
      same = omega arith

  -- there is one j-th
  pub nth_unique : {j : ℕ} {x y : List (List ℕ)} → NthChain m f j x → NthChain m f j y → x ≡ y
  nth_unique {j} {x} {y} p q = complete_unique t x y p.complete q.complete (ext_get_or 0 (degrees x) (degrees y) (same (λ (z : List (List ℕ)). length (degrees z))) (λ i b. same (λ (z : List (List ℕ)). get_or (degrees z) i 0)))
    where
      same : (v : List (List ℕ) → ℕ) → v x ≡ v y
      same v = stable_eq (λ b. listed t (λ l e c. b (ap v (sym (nth-at t e p).1 ∙ (nth-at t e q).1))))

  -- and the i-th is earlier than the j-th
  pub nth-ordered : {i j : ℕ} {x y : List (List ℕ)} → i < j → NthChain m f i x → NthChain m f j y → Earlier x y
  nth-ordered {i} {j} {x} {y} l p q = subst (λ (z : List (List ℕ)). Earlier z y) (nth_unique here p) (q.lists.each i below).1
    where
      below : i < length q.before
      below = omega (arith, q.number)

      here : NthChain m f i (chain_at q.before i)
      here = record {
        complete = (q.lists.each i below).0;
        before = take i q.before;
        lists = lists_as _ (λ z. CompleteChain m f z × Earlier z (chain_at q.before i)) (λ z ((c, d), e). (c, e)) (λ z (c, e). ((c, earlier_trans e (q.lists.each i below).1), e))
            (lists_earlier (λ z. CompleteChain m f z × Earlier z y) q.lists below);
        number = sym (length-take-le i q.before (omega arith));
      }
