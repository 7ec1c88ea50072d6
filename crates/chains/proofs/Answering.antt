-- What the code has found past the checks, as the contracts say it.
--
--   count-told                of the number
--   nth_beyond, nth-told      of the j-th chain: there is none, or it stands in a cleared area
use mathlib.Core.Path.{◌≡◌, refl, sym, ap, ◌∙◌}
use mathlib.Core.List.{List, ◌++◌}
use Prim.Native.Nat.{ℕ, ◌*◌, ◌≤◌}
use native.Mathlib.Omega.{arith}
use lib.ListN.{length, drop}
use Rattle.algebra.specs.Number.{Coprime}
use Rattle.algebra.specs.Polynomial.{degree, terms}
use Rattle.refusal.specs.Refusal.{Answered, refusal}
use Rattle.refusal.specs.declared.Concerns.TheVariants.{Neither}
use Rattle.refusal.specs.declared.Reason.TheVariants.{Beyond}
use Rattle.polynomial.specs.Checks.{check_one}
use Rattle.area.specs.Area.{area_words, cleared, laid}
use Rattle.area.proofs.Laying.{written_is}
use Rattle.chains.specs.Walking.{HasChains, NthIn, NoNth}
use Rattle.chains.specs.Choosing.{unchosen, NumberOf, NthOf}
use Rattle.chains.specs.Choosing as of
use Rattle.chains.proofs.Walking.{complete-full}

module _ {m n : ℕ} {f : List ℕ} (passed : check_one m f ≡ Answered) (n-is : n ≡ degree f) (coprime : Coprime n m) where
  pub count-told : {c : ℕ} → HasChains m f c → NumberOf m f (record { outcome = Answered; number = c })
  count-told q = of.numbered passed (rw (← n-is) coprime) q.every (ap (λ (c : ℕ). record { outcome = Answered; number = c }) q.is)

  module _ {j : ℕ} {xs ys zs : List ℕ} (room : area_words ≤ length xs) (a : zs ≡ cleared xs) where
    pub nth_beyond : {c : ℕ} → NoNth m f j zs ys c → NthOf m f j xs ys (unchosen (refusal Neither Beyond))
    nth_beyond k = of.beyond room passed (rw (← n-is) coprime) k.has.every (omega (arith, k.has.is, k.most)) (k.area ∙ a) refl

    pub nth-told : {k c : ℕ} → 2 ≤ m → NthIn m f j zs ys k c → NthOf m f j xs ys (record { outcome = Answered; parts = k; price = c })
    nth-told {k} two q =
        of.chosen {parts = q.parts} room passed (rw (← n-is) coprime) q.nth
        (q.area ∙ ap (λ (l : List ℕ). laid q.parts ++ drop (k * terms) l) a ∙ written_is xs (sym q.count_is) (complete-full two q.nth.complete))
        (rw (q.count_is, q.cost_is))
