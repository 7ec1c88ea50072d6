-- The starred cases of 01 and x^6 of request No. 5 hold, all of them.
--
--   same_check, monic_check     a claim on closed lists by computation
--   A_at_2, B_at_3, I_none      no pair, no left part: the forced one differs from f
--   sextic                      the two chains of a polynomial of degree 6 that has a pair at 2 and one at 3
--   starred_hold                the whole table
use mathlib.Core.Path.{◌≡◌, refl, sym, ap, ◌∙◌}
use mathlib.Core.List.{List, [], ◌∷◌, map}
use Prim.Native.Nat.{ℕ, zero, suc, ◌*◌, ◌-◌, ◌%◌, ◌≤◌, ◌<◌}
use native.Mathlib.Nat as N
use native.Mathlib.Omega.{arith}
use native.Mathlib.Decide.{dec_lt}
use mathlib.Core.Bool.{true}
use borrow.Author.Tests.{leb-true}
use lib.Dec.{leb}
use lib.ListN.{length, length-map, get_or-eq_default}
use Rattle.algebra.specs.Number.{table, Coprime}
use Rattle.algebra.specs.Polynomial.{coef, plus, scaled, times, after, degree, highest, terms, limit, Same, Monic}
use Rattle.algebra.specs.Pair.{NoPair, NormalPair, Unsplit}
use Rattle.algebra.specs.Chain.{price, cost}
use Rattle.algebra.specs.Every.{EveryChain, NthChain}
use Rattle.algebra.proofs.Numbers.{table_below}
use Rattle.algebra.proofs.ForcedPair.{forced_refutes, left_refutes}
use Rattle.algebra.proofs.Factors.{invertible-coprime}
use Rattle.algebra.proofs.Chains.{unsplit-at}
use Rattle.algebra.proofs.Complete.{Chainable, left_chainable, right_chainable}
use Rattle.algebra.proofs.Every as E
use Rattle.refusal.specs.declared.Reason.TheVariants.{Beyond}
use Rattle.refusal.specs.Refusal.{Answered}
use Rattle.polynomial.specs.Moduli.{machine_words, smallest, largest, check_modulus}
use Rattle.polynomial.specs.Checks.{offending, check_coefficients, check_degree, check_leading, check_polynomial, check_one}
use Rattle.polynomial.proofs.Acceptance.{one-accepted}
use Rattle.chains.specs.Choosing as choosing
use Rattle.demands.specs.Cases.{padded, has_chains, nth_chain, nth_refused, Holds, All, none, ◌and◌, number_is, nth_is, nth_is_refused, A, B, starred, x², x³, x⁶}
use Rattle.demands.proofs.Padded.{Taken, taken, pair-padded, chainable_padded, split_found, split_none, split_shared, left-found, left-none, changes_to, composes_to}

-- lists of at most k places that agree there
same_check : (m k : ℕ) (p q : List ℕ) → leb (length p) k ≡ true → leb (length q) k ≡ true → table k (λ i. coef p i % m) ≡ table k (λ i. coef q i % m) → Same m p q
same_check m k p q a b e = record { at = λ i. go i (dec_lt i k) }
  where
    go : (i : ℕ) → Dec (i < k) → coef p i % m ≡ coef q i % m
    go i (yes l) = sym (table_below k (λ i. coef p i % m) i l) ∙ ap (λ (t : List ℕ). coef t i) e ∙ table_below k (λ i. coef q i % m) i l
    go i (no l) = ap (λ (x : ℕ). x % m) (get_or-eq_default p 0 (omega (arith, leb-true (length p) k a)) ∙ sym (get_or-eq_default q 0 (omega (arith, leb-true (length q) k b))))

monic_check : (m n : ℕ) (p : List ℕ) → length p ≤ suc n → coef p n % m ≡ 1 % m → Monic m n p
monic_check m n p l e = record { top = e; above = λ i h. ap (λ (x : ℕ). x % m) (get_or-eq_default p 0 (omega arith)) }

A_at_2 : NoPair 101 A 2 3
unfolding after plus times scaled terms limit
A_at_2 = forced_refutes 101 (omega arith) {g = 10 ∷ 14 ∷ 1 ∷ []} {h = 0 ∷ 65 ∷ 52 ∷ 1 ∷ []} (omega arith) (omega arith) (omega arith) (omega arith) refl (record { inverse = 51; unit = refl })
    (monic_check 101 6 _ (omega arith) refl) (monic_check 101 2 _ (omega arith) refl) (monic_check 101 3 _ (omega arith) refl) (record { constant = refl }) top low 1 (λ e. omega arith)
  where
    top : (k : ℕ) → 0 < k → k < 3 → coef A (6 - k) % 101 ≡ coef (after (10 ∷ 14 ∷ 1 ∷ []) (0 ∷ 65 ∷ 52 ∷ 1 ∷ [])) (6 - k) % 101
    top zero a b = absurd (omega arith)
    top (suc zero) a b = refl
    top (suc (suc zero)) a b = refl
    top (suc (suc (suc k))) a b = absurd (omega arith)

    low : (j : ℕ) → j < 2 → coef A (j * 3) % 101 ≡ coef (after (10 ∷ 14 ∷ 1 ∷ []) (0 ∷ 65 ∷ 52 ∷ 1 ∷ [])) (j * 3) % 101
    low zero l = refl
    low (suc zero) l = refl
    low (suc (suc j)) l = absurd (omega arith)

B_at_3 : NoPair 101 B 3 2
unfolding after plus times scaled terms limit
B_at_3 = forced_refutes 101 (omega arith) {g = 96 ∷ 9 ∷ 6 ∷ 1 ∷ []} {h = 0 ∷ 0 ∷ 1 ∷ []} (omega arith) (omega arith) (omega arith) (omega arith) refl (record { inverse = 34; unit = refl })
    (monic_check 101 6 _ (omega arith) refl) (monic_check 101 3 _ (omega arith) refl) (monic_check 101 2 _ (omega arith) refl) (record { constant = refl }) top low 1 (λ e. omega arith)
  where
    top : (k : ℕ) → 0 < k → k < 2 → coef B (6 - k) % 101 ≡ coef (after (96 ∷ 9 ∷ 6 ∷ 1 ∷ []) (0 ∷ 0 ∷ 1 ∷ [])) (6 - k) % 101
    top zero a b = absurd (omega arith)
    top (suc zero) a b = refl
    top (suc (suc k)) a b = absurd (omega arith)

    low : (j : ℕ) → j < 3 → coef B (j * 2) % 101 ≡ coef (after (96 ∷ 9 ∷ 6 ∷ 1 ∷ []) (0 ∷ 0 ∷ 1 ∷ [])) (j * 2) % 101
    low zero l = refl
    low (suc zero) l = refl
    low (suc (suc zero)) l = refl
    low (suc (suc (suc j))) l = absurd (omega arith)

I_none : (g : List ℕ) → Monic 2 2 g → Same 2 (1 ∷ 0 ∷ 0 ∷ 1 ∷ 1 ∷ []) (after g (0 ∷ 1 ∷ 1 ∷ [])) → ⊥
unfolding after plus times scaled
I_none = left_refutes 2 (omega arith) {g = 1 ∷ 1 ∷ 1 ∷ []} (omega arith) refl (monic_check 2 4 _ (omega arith) refl) (monic_check 2 2 _ (omega arith) refl) (monic_check 2 2 _ (omega arith) refl) low 1 (λ e. omega arith)
  where
    low : (j : ℕ) → j < 2 → coef (1 ∷ 0 ∷ 0 ∷ 1 ∷ 1 ∷ []) (j * 2) % 2 ≡ coef (after (1 ∷ 1 ∷ 1 ∷ []) (0 ∷ 1 ∷ 1 ∷ [])) (j * 2) % 2
    low zero l = refl
    low (suc zero) l = refl
    low (suc (suc j)) l = absurd (omega arith)

-- the most places that a list of the table or what it composes to has
abbrev places : ℕ
places = 24

-- what has a degree below 4 does not split, and is its only chain
low-unsplit : {m n : ℕ} {f : List ℕ} → n < 4 → Chainable m n f → Unsplit m f
low-unsplit {n = n} l t = unsplit-at t.modulus t.whole.reduced t.whole.monic (λ s w. omega (arith, l, w.degrees, N.mul-le-mul w.two_left w.two_right))

low-every : {m n : ℕ} {f : List ℕ} → n < 4 → Chainable m n f → EveryChain m f ((f ∷ []) ∷ [])
low-every l t = E.every_one t (omega arith) (E.below_none t)

-- f of degree 6 with a pair at 2 and one at 3
sextic : {m : ℕ} {f a b c d : List ℕ} → Chainable m 6 f → NormalPair m f 3 2 a b → NormalPair m f 2 3 c d → EveryChain m f ((b ∷ a ∷ []) ∷ (d ∷ c ∷ []) ∷ [])
sextic t p q =
    let l = left_chainable t (omega arith) (omega arith) refl p in
    let r = right_chainable t (omega arith) (omega arith) refl p in
    let l' = left_chainable t (omega arith) (omega arith) refl q in
    let r' = right_chainable t (omega arith) (omega arith) refl q in
    let two = E.at_before t (omega arith) (omega arith) refl p (low-unsplit (omega arith) r) (low-every (omega arith) l) in
    let three = E.at_before t (omega arith) (omega arith) refl q (low-unsplit (omega arith) r') (low-every (omega arith) l') in
    E.every-below t {s = 4} (omega arith) (omega arith) (E.below_more t (E.below_more t (E.below_none t) two) three)

module _ (t : Taken 101 6 x⁶) (cube : Taken 101 3 x³) (square : Taken 101 2 x²) where
  whole : Chainable 101 6 (padded x⁶)
  whole = chainable_padded t (record { inverse = 17; unit = refl })

  two-chains : EveryChain 101 (padded x⁶) ((padded x² ∷ padded x³ ∷ []) ∷ (padded x³ ∷ padded x² ∷ []) ∷ [])
  unfolding after plus times scaled table
  two-chains = sextic whole (pair-padded t cube square (record { constant = refl }) (same_check 101 places _ _ refl refl refl)) (pair-padded t square cube (record { constant = refl }) (same_check 101 places _ _ refl refl refl))

  checked : check_one 101 (padded x⁶) ≡ Answered
  checked = one-accepted t.accepted

  coprime : Coprime (degree (padded x⁶)) 101
  coprime = rw t.has (invertible-coprime 101 (omega arith) whole.inverse)

  -- the price of a cube and a square, in either order
  prices : (price (padded x² ∷ padded x³ ∷ []) ≡ 3) × (price (padded x³ ∷ padded x² ∷ []) ≡ 3)
  unfolding price cost
  prices = (omega (arith, square.has, cube.has), omega (arith, square.has, cube.has))

  nth_holds : (j c : ℕ) (parts : List (List ℕ)) → NthChain 101 (padded x⁶) j (map padded parts) → price (map padded parts) ≡ c → Holds (nth_chain 101 x⁶ j parts c)
  nth_holds j c parts k e = nth_is {j = j} {c = c} {parts = parts} (λ xs room. choosing.chosen {parts = map padded parts} room checked coprime k refl (rw (length-map parts padded, e)))

  -- there are two, and no third
  sixth_number : Holds (has_chains 101 x⁶ 2)
  sixth_number = number_is (choosing.numbered checked coprime two-chains refl)

  sixth_beyond : Holds (nth_refused 101 x⁶ 2 18)
  sixth_beyond = nth_is_refused {j = 2} Beyond (λ xs room. choosing.beyond room checked coprime two-chains (omega arith) refl refl)

  -- x^3 after x^2, then x^2 after x^3
  sixth_first : Holds (nth_chain 101 x⁶ 0 (x² ∷ x³ ∷ []) 3)
  sixth_first = nth_holds 0 3 (x² ∷ x³ ∷ []) (E.at-nth whole two-chains (omega arith)) prices.0

  sixth_second : Holds (nth_chain 101 x⁶ 1 (x³ ∷ x² ∷ []) 3)
  sixth_second = nth_holds 1 3 (x³ ∷ x² ∷ []) (E.at-nth whole two-chains (omega arith)) prices.1

-- each row says which polynomials the desk takes, with their degrees; an inverse where one is needed; and by computation that they compose
pub starred_hold : All starred
unfolding after plus times scaled table padded limit terms degree highest machine_words smallest largest offending check_modulus check_coefficients check_degree check_leading check_polynomial check_one
starred_hold =
    let sixth : Taken 101 6 x⁶ = taken 101 6 _ refl refl refl in
    let cube : Taken 101 3 x³ = taken 101 3 _ refl refl refl in
    let square : Taken 101 2 x² = taken 101 2 _ refl refl refl in
    split_found (taken 101 6 _ refl refl refl) (taken 101 3 _ refl refl refl) (taken 101 2 _ refl refl refl) refl (record { inverse = 34; unit = refl }) (record { constant = refl }) (same_check 101 places _ _ refl refl refl) and
    split_none (taken 101 6 _ refl refl refl) (omega arith) (omega arith) refl (record { inverse = 51; unit = refl }) A_at_2 and
    split_none (taken 101 6 _ refl refl refl) (omega arith) (omega arith) refl (record { inverse = 34; unit = refl }) B_at_3 and
    split_found (taken 101 6 _ refl refl refl) (taken 101 2 _ refl refl refl) (taken 101 3 _ refl refl refl) refl (record { inverse = 51; unit = refl }) (record { constant = refl }) (same_check 101 places _ _ refl refl refl) and
    left-found (taken 101 6 _ refl refl refl) (taken 101 2 _ refl refl refl) (taken 101 3 _ refl refl refl) refl (same_check 101 places _ _ refl refl refl) and
    split_found (taken 4 9 _ refl refl refl) (taken 4 3 _ refl refl refl) (taken 4 3 _ refl refl refl) refl (record { inverse = 3; unit = refl }) (record { constant = refl }) (same_check 4 places _ _ refl refl refl) and
    changes_to (taken 101 4 _ refl refl refl) (taken 101 4 _ refl refl refl) refl refl (record { inverse = 1; unit = refl }) (record { same = same_check 101 places _ _ refl refl refl }) and
    split_found (taken 101 4 _ refl refl refl) (taken 101 2 _ refl refl refl) (taken 101 2 _ refl refl refl) refl (record { inverse = 51; unit = refl }) (record { constant = refl }) (same_check 101 places _ _ refl refl refl) and
    changes_to (taken 5 4 _ refl refl refl) (taken 5 4 _ refl refl refl) refl refl (record { inverse = 3; unit = refl }) (record { same = same_check 5 places _ _ refl refl refl }) and
    split_found (taken 5 4 _ refl refl refl) (taken 5 2 _ refl refl refl) (taken 5 2 _ refl refl refl) refl (record { inverse = 3; unit = refl }) (record { constant = refl }) (same_check 5 places _ _ refl refl refl) and
    split_shared {s = 2} (taken 2 4 _ refl refl refl) (omega arith) (omega arith) refl (λ c. let z = c.only_one 2 (N.dvd_refl 2) (N.dvd_refl 2) in omega arith) and
    left-found (taken 2 4 _ refl refl refl) (taken 2 2 _ refl refl refl) (taken 2 2 _ refl refl refl) refl (same_check 2 places _ _ refl refl refl) and
    left-none (taken 2 4 _ refl refl refl) (taken 2 2 _ refl refl refl) (omega arith) refl I_none and
    composes_to (taken 2 2 _ refl refl refl) (taken 2 2 _ refl refl refl) (taken 2 4 _ refl refl refl) refl (same_check 2 places _ _ refl refl refl) and
    composes_to (taken 2 2 _ refl refl refl) (taken 2 2 _ refl refl refl) (taken 2 4 _ refl refl refl) refl (same_check 2 places _ _ refl refl refl) and
    sixth_number sixth cube square and
    sixth_first sixth cube square and
    sixth_second sixth cube square and
    sixth_beyond sixth cube square and
    none
