-- Demand 3, chain by chain: the complete chains of a changed f are those of f with the change carried along them.
--
--   CarriedTo             the change carried along a chain; degrees, number of parts and price stay
--   every-carried         there are as many
--   nth-carried           the j-th is the j-th of f, carried
use mathlib.Core.Path.{◌≡◌, refl, sym, ap, ◌∙◌}
use mathlib.Core.List.{List, [], ◌∷◌}
use Prim.Native.Nat.{ℕ, zero, suc, ◌<◌}
use native.Mathlib.Nat as N
use native.Mathlib.Omega.{arith}
use lib.ListN.{length}
use Rattle.algebra.specs.Number.{Invertible}
use Rattle.algebra.specs.Polynomial.{Reduced}
use Rattle.algebra.specs.Change.{Changed}
use Rattle.algebra.specs.Chain.{degrees, price, Carried}
use Rattle.algebra.specs.Every.{CompleteChain, Earlier, chain_at, Lists, EveryChain, NthChain}
use Rattle.algebra.proofs.Changes.{changed-monic, changed-undone, undo, undoes_sym, undoes-invertible}
use Rattle.algebra.proofs.Chains as C
use Rattle.algebra.proofs.Lists.{earlier_degrees, lists_as}
use Rattle.algebra.proofs.Complete.{Chainable, complete_unique, complete-changed}

-- the change (a, b) carried along a chain
pub record CarriedTo (m a b : ℕ) (x x' : List (List ℕ)) : Type 0 where
  pub carried : Carried m a b x x'
  pub same_degrees : degrees x' ≡ degrees x
  pub same_length : length x' ≡ length x
  pub same_price : price x' ≡ price x

module _ {m n a b : ℕ} {f f' : List ℕ} (t : Chainable m n f) (i : Invertible m a) (red' : Reduced m f') (c : Changed m n a b f f') where
  positive : 0 < m
  positive = omega (arith, t.modulus)

  -- the changed f
  changed_chainable : Chainable m n f'
  changed_chainable = record {
    modulus = t.modulus;
    whole = record { reduced = red'; monic = changed-monic positive (omega (arith, t.two)) i t.whole.monic c; within = t.whole.within };
    two = t.two;
    inverse = t.inverse;
  }

  carried-one : (x : List (List ℕ)) → CompleteChain m f x → (x' : List (List ℕ)) × CompleteChain m f' x' × CarriedTo m a b x x'
  carried-one x k =
      let (x', k', car, deg) = complete-changed t x i red' c k in
      (x', k', record { carried = car; same_degrees = sym deg; same_length = sym (C.degrees-length x') ∙ ap length (sym deg) ∙ C.degrees-length x; same_price = C.price-degrees x' x (sym deg) })

  -- a chain of the changed f, undone, is one of f with the same degrees
  carried_back : (x' : List (List ℕ)) → CompleteChain m f' x' → (x : List (List ℕ)) × CompleteChain m f x × (degrees x ≡ degrees x')
  carried_back x' k =
      let (u, v, d) = undo positive b i in
      let (x, k', car, deg) = complete-changed changed_chainable x' (undoes-invertible positive (undoes_sym positive d)) t.whole.reduced (changed-undone positive d c) k in
      (x, k', sym deg)

  -- each chain of a list carried
  carried-all : (l : List (List (List ℕ))) → ((j : ℕ) → j < length l → CompleteChain m f (chain_at l j))
      → (l' : List (List (List ℕ))) × (length l' ≡ length l) × ((j : ℕ) → j < length l → CompleteChain m f' (chain_at l' j) × (degrees (chain_at l' j) ≡ degrees (chain_at l j)))
  carried-all [] each = ([], refl, λ j b. absurd (N.not-suc-le-zero b))
  carried-all (x ∷ l) each =
      let (x', k', car) = carried-one x (each 0 (omega arith)) in
      let (l', e, w) = carried-all l (λ j b. each (suc j) (omega arith)) in
      (x' ∷ l', ap suc e, places x' l' (k', car.same_degrees) w)
    where
      places : (x' : List (List ℕ)) (l' : List (List (List ℕ))) → CompleteChain m f' x' × (degrees x' ≡ degrees x)
          → ((j : ℕ) → j < length l → CompleteChain m f' (chain_at l' j) × (degrees (chain_at l' j) ≡ degrees (chain_at l j)))
          → (j : ℕ) → j < length (x ∷ l) → CompleteChain m f' (chain_at (x' ∷ l') j) × (degrees (chain_at (x' ∷ l') j) ≡ degrees (chain_at (x ∷ l) j))
      places x' l' p w zero b = p
      places x' l' p w (suc j) b = w j (N.le_of_suc-le-suc b)

  -- a list of those chains of which Q holds, carried: Q and Q' say the same of chains with the same degrees
  carried-lists : (Q Q' : List (List ℕ) → Type 0) → ((x x' : List (List ℕ)) → degrees x' ≡ degrees x → (Q x → Q' x') × (Q' x' → Q x))
      → {l : List (List (List ℕ))} → Lists (λ x. CompleteChain m f x × Q x) l → (l' : List (List (List ℕ))) × (length l' ≡ length l) × Lists (λ x. CompleteChain m f' x × Q' x) l'
  carried-lists Q Q' alike {l} p = let (l', e, w) = carried-all l (λ j b. (p.each j b).0) in (l', e, listed l' e w)
    where
      listed : (l' : List (List (List ℕ))) → length l' ≡ length l → ((j : ℕ) → j < length l → CompleteChain m f' (chain_at l' j) × (degrees (chain_at l' j) ≡ degrees (chain_at l j)))
          → Lists (λ x. CompleteChain m f' x × Q' x) l'
      listed l' e w = record {
        each = λ j h. let (k, d) = w j (omega (arith, e)) in (k, (alike _ _ d).0 (p.each j (omega (arith, e))).1);
        all = all;
        ordered = λ u v g h. earlier_degrees (w u (omega (arith, e))).1 (w v (omega (arith, e))).1 (p.ordered u v g (omega (arith, e)));
      }
        where
          all : (x' : List (List ℕ)) → CompleteChain m f' x' × Q' x' → (j : ℕ) × (j < length l') × (chain_at l' j ≡ x')
          all x' (k, q) =
              let (x, k', d) = carried_back x' k in
              let (j, h, is) = p.all x (k', (alike x x' (sym d)).1 q) in
              let (o, z) = w j h in
              (j, omega (arith, e), complete_unique changed_chainable (chain_at l' j) x' o k (z ∙ ap degrees is ∙ d))

  -- there are as many
  pub every-carried : {l : List (List (List ℕ))} → EveryChain m f l → (l' : List (List (List ℕ))) × (length l' ≡ length l) × EveryChain m f' l'
  every-carried p =
      let (l', e, r) = carried-lists (λ x. x ≡ x) (λ x. x ≡ x) (λ x x' d. (λ z. refl, λ z. refl)) (lists_as (CompleteChain m f) _ (λ x z. (z, refl)) (λ x z. z.0) p) in
      (l', e, lists_as _ (CompleteChain m f') (λ x z. z.0) (λ x z. (z, refl)) r)

  -- the j-th of f, carried, is the j-th
  pub nth-carried : {j : ℕ} {x : List (List ℕ)} → NthChain m f j x → (x' : List (List ℕ)) × NthChain m f' j x' × CarriedTo m a b x x'
  nth-carried {j} {x} p =
      let (y, k, car) = carried-one x p.complete in
      let d = car.same_degrees in
      let (l, e, r) = carried-lists (λ z. Earlier z x) (λ z. Earlier z y) (λ z z' o. (λ v. earlier_degrees o d v, λ v. earlier_degrees (sym o) (sym d) v)) p.lists in
      (y, record { complete = k; before = l; lists = r; number = p.number ∙ sym e }, car)
