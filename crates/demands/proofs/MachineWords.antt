-- What request No. 3 says of the modulus 2^32, over the contracts of the operations. The modulus word 0 means it (`modulus_zero`);
-- demands 2 and 3 are over any modulus, and this one passes No. 1 (`words-taken`). That No. 2 cannot occur there is proofs/NoTwo.
--
--   coprime-words             what shares no factor with 2^32 is odd, and what is odd shares none
--   split_even, split_odd     past the other refusals No. 5 is for an even r alone; only odd r can be split
--   chain_even, chain_odd, chain_only_odd     past the other refusals No. 5 is for an even n alone and every odd n gets a chain; no other does
--   count_even, nth_even      past the other refusals No. 5 of the number of chains, and of the j-th, is for an even n alone
--   proper_odd                a change is proper exactly if its a is odd
--   polynomial_even, pair_even, undo_even, combine_even     so past the other refusals No. 8 is for an even a alone
--   zero_record               a record of zero bytes is No. 3
use mathlib.Core.Path.{◌≡◌, refl, sym}
use mathlib.Core.Logic.Iff
use mathlib.Core.Logic.{◌⊎◌, ◌↔◌, inl, inr, ⊎_elim}
use mathlib.Core.List.{List}
use Prim.Native.Nat.{ℕ, ◌%◌, ◌≤◌, ◌<◌}
use native.Mathlib.Nat.{eq-or-lt_of_le}
use native.Mathlib.Omega.{arith}
use lib.ListN.{length, replicate}
use Rattle.algebra.specs.Number.{Coprime, table}
use Rattle.algebra.specs.Polynomial.{degree, highest, limit, terms}
use Rattle.algebra.proofs.Factors.{odd_coprime, coprime_odd}
use Rattle.refusal.specs.Refusal.{refusal}
use Rattle.refusal.specs.declared.Concerns.TheVariants.{Neither, First}
use Rattle.refusal.specs.declared.Reason.TheVariants.{Factor, Degree}
use Rattle.refusal.specs.Refusal.{Answered}
use Rattle.polynomial.specs.Moduli.{machine_words, modulus, smallest, largest, check_modulus}
use Rattle.polynomial.specs.Checks.{offending, check_coefficients, check_degree, check_polynomial, check_one, check_pair}
use Rattle.polynomial.specs.Answers.{Answer}
use Rattle.polynomial.specs.Answers.{Parts}
use Rattle.polynomial.proofs.Moduli.{words-taken}
use Rattle.pair.specs.Pairing.{check_split, Splits}
use Rattle.demands.proofs.Exact.{split_shared, split_coprime}
use Rattle.change.proofs.NotProper.{polynomial-improper, pair-improper, undo_improper, combine_improper}
use Rattle.change.specs.declared.Change.{Change}
use Rattle.change.specs.Changing.{Made}
use Rattle.change.specs.Changing.{Proper, improper, ChangesPolynomial, ChangesPair, Combines, Undoing}
use Rattle.area.specs.Area.{area_words}
use Rattle.chain.specs.Chaining.{Chained}
use Rattle.chain.specs.Chaining.{ChainOf}
use Rattle.chain.proofs.Promises.{chain_exact}
use Rattle.chains.specs.Choosing.{Numbered}
use Rattle.chains.specs.Choosing.{Chosen}
use Rattle.chains.specs.Choosing.{NumberOf, NthOf}
use Rattle.demands.proofs.Chain.{chain-complete}
use Rattle.demands.proofs.Chains.{number_exact, nth-factor}
use Rattle.record.specs.Record.{word, record_bytes, coefficients, check_record, no_record, checked}

-- 2 is the only prime in 2^32
pub coprime-words : (a : ℕ) → Coprime a machine_words ↔ (a % 2 ≡ 1)
unfolding machine_words
coprime-words a = (λ c. coprime_odd 31 c, λ o. odd_coprime 32 o)

-- what holds of odd numbers alone fails for even ones alone, and two such things do not hold both where one of the numbers is even
even : {P : Type 0} (a : ℕ) → (P ↔ (a % 2 ≡ 1)) → (P → ⊥) ↔ (a % 2 ≡ 0)
even a (to, back) = (λ n. ⊎_elim (λ (z : 0 ≡ a % 2). sym z) (λ (l : 0 < a % 2). absurd (n (back (omega arith)))) (eq-or-lt_of_le (omega arith)), λ z p. let o = to p in omega arith)

either : {P Q : Type 0} (a b : ℕ) → (P ↔ (a % 2 ≡ 1)) → (Q ↔ (b % 2 ≡ 1)) → (P → Q → ⊥) ↔ ((a % 2 ≡ 0) ⊎ (b % 2 ≡ 0))
either a b p q = (
  (λ n. ⊎_elim (λ (z : 0 ≡ a % 2). inl (sym z)) (λ (l : 0 < a % 2). inr ((even b q).0 (n (p.1 (omega arith))))) (eq-or-lt_of_le (omega arith))),
  ⊎_elim (λ z x y. (even a p).1 z x) (λ z x y. (even b q).1 z y),
)

-- past the other refusals No. 5 is for an even r alone
pub split_even : {f : List ℕ} {r : ℕ} {x : Parts} → check_split machine_words f r ≡ Answered → Splits machine_words f r x → (x.outcome ≡ refusal Neither Factor) ↔ (r % 2 ≡ 0)
split_even {r = r} k s = Iff.trans (split_shared k s) (even r (coprime-words r))

-- only odd r can be split
pub split_odd : {f : List ℕ} {r : ℕ} {x : Parts} → Splits machine_words f r x → x.outcome ≡ Answered → r % 2 ≡ 1
split_odd {r = r} s z = (coprime-words r).0 (split_coprime s z)

module _ {f xs ys : List ℕ} {x : Chained} (is : ChainOf machine_words f xs ys x) where
  -- past the other refusals No. 5 is for an even n alone
  pub chain_even : area_words ≤ length xs → check_one machine_words f ≡ Answered → (x.outcome ≡ refusal Neither Factor) ↔ (degree f % 2 ≡ 0)
  chain_even room passes = Iff.trans (chain_exact room passes is).1 (even (degree f) (coprime-words (degree f)))

  -- and every odd n gets a chain
  pub chain_odd : area_words ≤ length xs → check_one machine_words f ≡ Answered → (x.outcome ≡ Answered) ↔ (degree f % 2 ≡ 1)
  chain_odd room passes = Iff.trans (chain_exact room passes is).0 (coprime-words (degree f))

  -- no other gets one
  pub chain_only_odd : length f ≡ terms → x.outcome ≡ Answered → degree f % 2 ≡ 1
  chain_only_odd long z = let (parts, k) = chain-complete long is z in (coprime-words (degree f)).0 k.coprime

-- the number of chains and the j-th chain: No. 5 is for an even n alone
pub count_even : {f : List ℕ} {x : Numbered} → check_one machine_words f ≡ Answered → NumberOf machine_words f x → (x.outcome ≡ refusal Neither Factor) ↔ (degree f % 2 ≡ 0)
count_even {f} passes k = Iff.trans (number_exact passes k).1 (even (degree f) (coprime-words (degree f)))

pub nth_even : {f xs ys : List ℕ} {j : ℕ} {x : Chosen} → area_words ≤ length xs → check_one machine_words f ≡ Answered → NthOf machine_words f j xs ys x → (x.outcome ≡ refusal Neither Factor) ↔ (degree f % 2 ≡ 0)
nth_even {f} room passes k = Iff.trans (nth-factor room passes k) (even (degree f) (coprime-words (degree f)))

-- a change of machine words
module _ {c : Change} (unit : c.unit < machine_words) (origin : c.origin < machine_words) where
  -- is proper exactly if a is odd
  pub proper_odd : Proper machine_words c ↔ (c.unit % 2 ≡ 1)
  proper_odd = (λ p. (coprime-words c.unit).0 p.invertible, λ o. record { unit_below = unit; origin_below = origin; invertible = (coprime-words c.unit).1 o })

  pub polynomial_even : {f : List ℕ} {x : Answer} → check_one machine_words f ≡ Answered → ChangesPolynomial machine_words f c x → (x.outcome ≡ improper) ↔ (c.unit % 2 ≡ 0)
  polynomial_even k x = Iff.trans (polynomial-improper k x) (even c.unit proper_odd)

  pub pair_even : {g h : List ℕ} {x : Parts} → check_pair machine_words g h ≡ Answered → ChangesPair machine_words g h c x → (x.outcome ≡ improper) ↔ (c.unit % 2 ≡ 0)
  pair_even k x = Iff.trans (pair-improper k x) (even c.unit proper_odd)

  pub undo_even : {x : Made} → Undoing machine_words c x → (x.outcome ≡ improper) ↔ (c.unit % 2 ≡ 0)
  undo_even x = Iff.trans (undo_improper words-taken x) (even c.unit proper_odd)

-- two of them: either unit is even
pub combine_even : {c d : Change} {x : Made} → c.unit < machine_words → c.origin < machine_words → d.unit < machine_words → d.origin < machine_words → Combines machine_words c d x
    → (x.outcome ≡ improper) ↔ ((c.unit % 2 ≡ 0) ⊎ (d.unit % 2 ≡ 0))
combine_even {c} {d} u o v p x = Iff.trans (combine_improper words-taken x) (either c.unit d.unit (proper_odd u o) (proper_odd v p))

-- a record of zero bytes: No. 3
pub zero_record : checked (replicate record_bytes 0) ≡ no_record (refusal First Degree)
unfolding checked check_record record_bytes terms limit word coefficients table modulus machine_words check_one check_modulus check_polynomial check_coefficients offending check_degree degree highest smallest largest no_record
zero_record = refl
