-- What the code has found after each test, as the contract says it: one law for each return.
--
--   told-found                   5, or the chain that stands in a cleared area
--   chain_given                  what passes the checks is what the search is given
use mathlib.Core.Path.{◌≡◌, sym, ap, ◌∙◌}
use mathlib.Core.List.{List, ◌++◌}
use Prim.Native.Nat.{ℕ, ◌*◌, ◌≤◌}
use lib.ListN.{length, drop}
use Rattle.algebra.specs.Polynomial.{degree, terms}
use Rattle.refusal.specs.Refusal.{Answered}
use Rattle.polynomial.specs.Checks.{check_one}
use Rattle.polynomial.proofs.Acceptance.{accepted-one, accepted_as}
use Rattle.area.specs.Area.{area_words, cleared, laid}
use Rattle.area.proofs.Laying.{written_is}
use Rattle.chain.specs.Chaining.{Chained}
use Rattle.chain.specs.Chaining.{unchained, ChainGiven, ChainFound, ChainOf}
use Rattle.chain.specs.Chaining as of
use Rattle.chain.proofs.Placing.{chain-full}

module _ {m : ℕ} {f xs ys : List ℕ} (room : area_words ≤ length xs) (passed : check_one m f ≡ Answered) where
  -- No. 5, or the chain that stands in the cleared area
  pub told-found : {n : ℕ} {zs : List ℕ} {x : Chained} → n ≡ degree f → zs ≡ cleared xs → ChainFound m n f zs ys x → ChainOf m f xs ys x
  told-found n-is a (of.factor s e q) = of.shared room passed (rw (← n-is) s) (e ∙ a) q
  told-found n-is a (of.parts {k = k} {t = t} {c = c} s p q) =
      of.chained {parts = p.parts} {t = t} room passed (rw (← n-is) s) (rw (← n-is) p.chain)
      (p.area ∙ ap (λ (l : List ℕ). laid p.parts ++ drop (k * terms) l) a ∙ written_is xs (sym p.count_is) (chain-full p.chain))
      (q ∙ rw (p.count_is, p.cost_is))

pub chain_given : {m d n : ℕ} {f xs : List ℕ} → length f ≡ terms → check_one m f ≡ Answered → d ≡ m → n ≡ degree f → area_words ≤ length xs → ChainGiven d n f xs
chain_given long e q n-is room = let (w, held, two) = accepted_as n-is (accepted-one long e) in record { modulus = rw q w; whole = rw q held; two = two; room = room }
