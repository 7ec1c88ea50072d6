-- The demands for the number of complete chains and the j-th chain.
--
--   number-within       the number is 1 to n*n
--   number_exact        past 1 to 4: an answer exactly if n and m share no factor, and No. 5 exactly if they do
--   nth-factor          past 11 and 1 to 4: No. 5 exactly if they share one
--   nth_exact           past 5: an answer exactly if j is below the number, and No. 18 exactly if it is not
--   nth-complete        demand 2: what the parts of the j-th chain are, and that they stand in the area
--   each_appears        each complete chain is the j-th for one j below the number
--   nth_in_order        the i-th is earlier than the j-th if i is below j
--   nth-first           the first is 01's chain: the same answer, but for the tries, and the same area
--   number-changed      demand 3: the changed f has the same answer
--   nth-changed         demand 3: and its j-th chain is that of f with the change carried from the right
use mathlib.Core.Path.{◌≡◌, refl, sym, ap, subst, ◌∙◌}
use mathlib.Core.Logic.{◌↔◌}
use mathlib.Core.List.{List}
use Prim.Native.Nat.{ℕ, ◌*◌, ◌≤◌, ◌<◌}
use native.Mathlib.Omega.{arith}
use lib.ListN.{length}
use Rattle.algebra.specs.Number.{Coprime}
use Rattle.algebra.specs.Polynomial.{degree, terms, Reduced}
use Rattle.algebra.specs.Change.{Changed}
use Rattle.algebra.specs.Every.{CompleteChain, Earlier, EveryChain, NthChain}
use Rattle.algebra.proofs.Factors.{coprime-invertible}
use Rattle.algebra.proofs.Complete.{Chainable, complete-product, complete-some}
use Rattle.algebra.proofs.Every as E
use Rattle.algebra.proofs.Few as F
use Rattle.algebra.proofs.EveryChanged as C
use Rattle.refusal.specs.Refusal.{number_of, refusal}
use Rattle.refusal.specs.declared.Refusal.{Refusal}
use Rattle.refusal.specs.declared.Concerns.TheVariants.{Neither}
use Rattle.refusal.specs.declared.Reason.TheVariants.{Factor, Beyond}
use Rattle.refusal.specs.Refusal.{Answered, Refused}
use Rattle.refusal.proofs.Outcomes.{never}
use Rattle.polynomial.specs.Checks.{check_one, Accepted}
use Rattle.polynomial.proofs.Acceptance.{accepted-one, one-accepted, accepted-changed}
use Rattle.area.specs.Area.{area_words, handed_out}
use Rattle.area.proofs.Reading.{parts-handed}
use Rattle.chain.specs.Chaining.{Chained}
use Rattle.chain.specs.Chaining.{ChainOf}
use Rattle.chain.specs.Chaining as chain
use Rattle.chains.specs.Choosing.{Numbered}
use Rattle.chains.specs.Choosing.{Chosen}
use Rattle.chains.specs.Choosing.{unchosen, NumberOf, NthOf}
use Rattle.chains.specs.Choosing as of
use Rattle.chains.proofs.Walking.{nth-within}
use Rattle.chains.proofs.Promises.{checked_chainable, number_determined, nth_determined}
use Rattle.demands.specs.Chains.{NthParts, Appears, without_tries, NthCarried}

module _ {m : ℕ} {f : List ℕ} (long : length f ≡ terms) where
  -- the number is 1 to n*n
  pub number-within : {x : Numbered} → NumberOf m f x → x.outcome ≡ Answered → (1 ≤ x.number) × (x.number ≤ degree f * degree f)
  number-within (of.refused d p) z = absurd (never (ap (λ (x : Numbered). x.outcome) p) z)
  number-within (of.shared d s p) z = absurd (never (ap (λ (x : Numbered). x.outcome) p) z)
  number-within (of.numbered d c k p) z =
      let t = checked_chainable long d c in
      let e = ap (λ (x : Numbered). x.number) p in
      (omega (arith, e, E.every_some t k), omega (arith, e, F.every-few t k))

-- No. 18 is not No. 5
not_both : refusal Neither Beyond ≡ refusal Neither Factor → ⊥
not_both e = omega (arith, ap number_of e)

-- past the refusals of f, a common factor of n and m decides
pub number_exact : {m : ℕ} {f : List ℕ} {x : Numbered} → check_one m f ≡ Answered → NumberOf m f x
    → ((x.outcome ≡ Answered) ↔ Coprime (degree f) m) × ((x.outcome ≡ refusal Neither Factor) ↔ (Coprime (degree f) m → ⊥))
number_exact checked (of.refused e p) = absurd (never e checked)
number_exact checked (of.shared e n p) = let o = ap (λ (x : Numbered). x.outcome) p in ((λ z. absurd (never o z), λ c. absurd (n c)), (λ z. n, λ z. o))
number_exact checked (of.numbered e c k p) = let o = ap (λ (x : Numbered). x.outcome) p in ((λ z. c, λ z. o), (λ z. absurd (never z o), λ z. absurd (z c)))

-- past 11 too
pub nth-factor : {m j : ℕ} {f xs ys : List ℕ} {x : Chosen} → area_words ≤ length xs → check_one m f ≡ Answered → NthOf m f j xs ys x → (x.outcome ≡ refusal Neither Factor) ↔ (Coprime (degree f) m → ⊥)
nth-factor room checked (of.short l a p) = absurd (omega arith)
nth-factor room checked (of.refused l e a p) = absurd (never e checked)
nth-factor room checked (of.shared l e n a p) = (λ z. n, λ z. ap (λ (x : Chosen). x.outcome) p)
nth-factor room checked (of.beyond l e c k b a p) = (λ z. absurd (not_both (sym (ap (λ (x : Chosen). x.outcome) p) ∙ z)), λ z. absurd (z c))
nth-factor room checked (of.chosen l e c k a p) = (λ z. absurd (never z (ap (λ (x : Chosen). x.outcome) p)), λ z. absurd (z c))

-- and where there is a number, j and the number
module _ {m : ℕ} {f : List ℕ} {x : Numbered} (long : length f ≡ terms) (k : NumberOf m f x) (counted : x.outcome ≡ Answered) where
  pub nth_exact : {j : ℕ} {xs ys : List ℕ} {y : Chosen} → area_words ≤ length xs → NthOf m f j xs ys y
      → ((y.outcome ≡ Answered) ↔ (j < x.number)) × ((y.outcome ≡ refusal Neither Beyond) ↔ (x.number ≤ j))
  nth_exact {j} {xs} {ys} {y} room q = go k q
    where
      go : NumberOf m f x → NthOf m f j xs ys y → ((y.outcome ≡ Answered) ↔ (j < x.number)) × ((y.outcome ≡ refusal Neither Beyond) ↔ (x.number ≤ j))
      go (of.refused d p) w = absurd (never (ap (λ (x : Numbered). x.outcome) p) counted)
      go (of.shared d s p) w = absurd (never (ap (λ (x : Numbered). x.outcome) p) counted)
      go (of.numbered d c l p) (of.short h a o) = absurd (omega arith)
      go (of.numbered d c l p) (of.refused h e a o) = absurd (never e d)
      go (of.numbered d c l p) (of.shared h e n a o) = absurd (n c)
      go (of.numbered d c l p) (of.beyond h e c' l' b a o) =
          let is = ap (λ (y : Chosen). y.outcome) o in
          let number : x.number ≤ j = omega (arith, b, ap (λ (x : Numbered). x.number) p, ap length (E.every_unique (checked_chainable long d c) l l')) in
          ((λ z. absurd (never is z), λ z. absurd (omega arith)), (λ z. number, λ z. is))
      go (of.numbered d c l p) (of.chosen h e c' w a o) =
          let is = ap (λ (y : Chosen). y.outcome) o in
          let below : j < x.number = omega (arith, ap (λ (x : Numbered). x.number) p, (E.nth-at (checked_chainable long d c) l w).0) in
          ((λ z. below, λ z. is), (λ z. absurd (never z is), λ z. absurd (omega arith)))

-- demand 2 for the j-th chain
pub nth-complete : {m j : ℕ} {f xs ys : List ℕ} {x : Chosen} → length f ≡ terms → NthOf m f j xs ys x → x.outcome ≡ Answered
    → (parts : List (List ℕ)) × NthParts m f j xs ys x parts
nth-complete long (of.short l a p) z = absurd (never (ap (λ (x : Chosen). x.outcome) p) z)
nth-complete long (of.refused l e a p) z = absurd (never (ap (λ (x : Chosen). x.outcome) p) z)
nth-complete long (of.shared l e n a p) z = absurd (never (ap (λ (x : Chosen). x.outcome) p) z)
nth-complete long (of.beyond l e c k b a p) z = absurd (never (ap (λ (x : Chosen). x.outcome) p) z)
nth-complete {xs = xs} long (of.chosen {parts = parts} l e c k a p) z =
    let t = checked_chainable long e c in
    let most = (nth-within t k.complete).0 in
    let count = ap (λ (x : Chosen). x.parts) p in
    let (handed, past) = parts-handed xs parts t.modulus k.complete.is_part most l a count in (
      parts,
      record {
        room = l;
        accepted = accepted-one long e;
        coprime = c;
        nth = k;
        multiply = complete-product t.modulus t.whole.monic k.complete;
        some = complete-some t parts k.complete;
        most = most;
        count = count;
        cost = ap (λ (x : Chosen). x.price) p;
        area = a;
        handed = handed;
        past = past;
      },
    )

module _ {m : ℕ} {f : List ℕ} (long : length f ≡ terms) where
  -- each complete chain appears once, and none is left out
  pub each_appears : {x : Numbered} → NumberOf m f x → x.outcome ≡ Answered → (parts : List (List ℕ)) → CompleteChain m f parts → Appears m f x parts
  each_appears (of.refused d p) z parts c = absurd (never (ap (λ (x : Numbered). x.outcome) p) z)
  each_appears (of.shared d s p) z parts c = absurd (never (ap (λ (x : Numbered). x.outcome) p) z)
  each_appears {x} (of.numbered {l = l} d co every p) z parts c = record { j = j; below = below; is = is; once = once }
    where
      t : Chainable m (degree f) f
      t = checked_chainable long d co

      j : ℕ
      j = (every.all parts c).0

      below : j < x.number
      below = omega (arith, (every.all parts c).1, ap (λ (x : Numbered). x.number) p)

      nth : NthChain m f j parts
      nth = subst (λ (y : List (List ℕ)). NthChain m f j y) (every.all parts c).2 (E.at-nth t every (every.all parts c).1)

      is : {xs ys : List ℕ} {y : Chosen} → area_words ≤ length xs → NthOf m f j xs ys y → (y.outcome ≡ Answered) × (handed_out ys y.parts ≡ parts)
      is room q =
          let o = (nth_exact long (of.numbered d co every p) z room q).0.1 below in
          let (u, w) = nth-complete long q o in
          (o, w.handed ∙ F.nth_unique t w.nth nth)

      once : {i : ℕ} {xs ys : List ℕ} {y : Chosen} → NthOf m f i xs ys y → y.outcome ≡ Answered → handed_out ys y.parts ≡ parts → i ≡ j
      once {i} q o e =
          let (u, w) = nth-complete long q o in
          E.nth-place t (subst (λ (y : List (List ℕ)). NthChain m f i y) (sym w.handed ∙ e) w.nth) nth

  -- the order is strict
  pub nth_in_order : {i j : ℕ} {xs ys xs' ys' : List ℕ} {x x' : Chosen} → i < j → NthOf m f i xs ys x → NthOf m f j xs' ys' x' → x.outcome ≡ Answered → x'.outcome ≡ Answered
      → Earlier (handed_out ys x.parts) (handed_out ys' x'.parts)
  nth_in_order l k k' o o' =
      let (u, w) = nth-complete long k o in
      let (u', w') = nth-complete long k' o' in
      rw (w.handed, w'.handed) (F.nth-ordered (checked_chainable long (one-accepted w.accepted) w.coprime) l w.nth w'.nth)

module _ {m : ℕ} {f xs ys : List ℕ} {x : Chained} (long : length f ≡ terms) where
  as_first : ChainOf m f xs ys x → NthOf m f 0 xs ys (without_tries x)
  as_first (chain.short l a p) = of.short l a (ap without_tries p)
  as_first (chain.refused l d a p) = of.refused l d a (ap without_tries p)
  as_first (chain.shared l d s a p) = of.shared l d s a (ap without_tries p)
  as_first (chain.chained l d c k a p) = of.chosen l d c (E.chain-nth (checked_chainable long d c) k) a (ap without_tries p)

  -- the first is 01's chain: the same refusals, and else the same parts, price and area
  pub nth-first : {zs : List ℕ} {y : Chosen} → ChainOf m f xs ys x → NthOf m f 0 xs zs y → (y ≡ without_tries x) × (zs ≡ ys)
  nth-first k q = nth_determined long q (as_first k)

refused_alike : {m a b : ℕ} {ys ys' : List ℕ} {x x' : Chosen} {r : Refusal} → x ≡ unchosen (Refused r) → x' ≡ unchosen (Refused r) → NthCarried m a b ys ys' x x'
refused_alike p q = record { same = q ∙ sym p; carried = λ o. absurd (never (ap (λ (x : Chosen). x.outcome) p) o); same_degrees = λ o. absurd (never (ap (λ (x : Chosen). x.outcome) p) o) }

-- demand 3: f' is f changed by (a, b)
module _ {m a b : ℕ} {f f' : List ℕ} (long : length f ≡ terms) (unit : Coprime a m) (changed : Changed m (degree f) a b f f') (reduced : Reduced m f')
    (checked : check_one m f ≡ Answered) where
  -- the changed f passes the checks, and has the degree of f
  both : Accepted m f' × (degree f' ≡ degree f)
  both = accepted-changed (accepted-one long checked) reduced unit changed

  checked' : check_one m f' ≡ Answered
  checked' = one-accepted both.0

  module _ (c : Coprime (degree f) m) where
    c' : Coprime (degree f') m
    c' = rw both.1 c

    here : Chainable m (degree f) f
    here = checked_chainable long checked c

    carries : {j : ℕ} {u : List (List ℕ)} → NthChain m f j u → (v : List (List ℕ)) × NthChain m f' j v × C.CarriedTo m a b u v
    carries = C.nth-carried here (coprime-invertible m (omega (arith, here.modulus)) unit) reduced changed

    lists : {l : List (List (List ℕ))} → EveryChain m f l → (l' : List (List (List ℕ))) × (length l' ≡ length l) × EveryChain m f' l'
    lists = C.every-carried here (coprime-invertible m (omega (arith, here.modulus)) unit) reduced changed

  number_as : {x : Numbered} → NumberOf m f x → NumberOf m f' x
  number_as (of.refused d p) = absurd (never d checked)
  number_as (of.shared d s p) = of.shared checked' (rw both.1 s) p
  number_as (of.numbered d c k p) = let (l', e, q) = lists c k in of.numbered checked' (c' c) q (p ∙ ap (λ (n : ℕ). record { outcome = Answered; number = n }) (sym e))

  -- the changed f has the same answer: the same number, or No. 5
  pub number-changed : {x x' : Numbered} → NumberOf m f x → NumberOf m f' x' → x' ≡ x
  number-changed k k' = number_determined reduced.long k' (number_as k)

  module _ {j : ℕ} {xs ys xs' ys' : List ℕ} {x x' : Chosen} (room : area_words ≤ length xs) (room' : area_words ≤ length xs') where
    -- the changed f has the same answer, and its j-th chain is the carried one
    pub nth-changed : NthOf m f j xs ys x → NthOf m f' j xs' ys' x' → NthCarried m a b ys ys' x x'
    nth-changed (of.short l z p) w = absurd (omega arith)
    nth-changed (of.refused l d z p) w = absurd (never d checked)
    nth-changed (of.shared l d s z p) w = refused_alike p (nth_determined reduced.long w (of.shared room' checked' (rw both.1 s) refl refl)).0
    nth-changed (of.beyond l d c k e z p) w =
        let (l', n, q) = lists c k in
        refused_alike p (nth_determined reduced.long w (of.beyond room' checked' (c' c) q (omega (arith, n, e)) refl refl)).0
    nth-changed (of.chosen {parts = u} l d c k z p) w =
        let (v, q, car) = carries c k in
        let same = (nth_determined reduced.long w (of.chosen {parts = v} room' checked' (c' c) q refl refl)).0 ∙ numbers car.same_length car.same_price ∙ sym p in
        handed_over k q car same (nth-complete long (of.chosen {parts = u} l d c k z p)) (nth-complete reduced.long w)
      where
        numbers : {k k' c c' : ℕ} → k ≡ k' → c ≡ c' → ◌≡◌ {A = Chosen} (record { outcome = Answered; parts = k; price = c }) (record { outcome = Answered; parts = k'; price = c' })
        numbers d e = rw (d, e)

        -- the parts that the areas hand out are these
        handed_over : {v : List (List ℕ)} → NthChain m f j u → NthChain m f' j v → C.CarriedTo m a b u v → x' ≡ x
            → (x.outcome ≡ Answered → (parts : List (List ℕ)) × NthParts m f j xs ys x parts) → (x'.outcome ≡ Answered → (parts : List (List ℕ)) × NthParts m f' j xs' ys' x' parts)
            → NthCarried m a b ys ys' x x'
        handed_over {v} k q car same here there = record { same = same; carried = λ o. rw (is o, is' o) car.carried; same_degrees = λ o. rw (is o, is' o) car.same_degrees }
          where
            is : x.outcome ≡ Answered → handed_out ys x.parts ≡ u
            is o = let (g, h) = here o in h.handed ∙ F.nth_unique (checked_chainable long checked h.coprime) h.nth k

            is' : x.outcome ≡ Answered → handed_out ys' x'.parts ≡ v
            is' o = let (g, h) = there (ap (λ (x : Chosen). x.outcome) same ∙ o) in h.handed ∙ F.nth_unique (checked_chainable reduced.long checked' h.coprime) h.nth q
