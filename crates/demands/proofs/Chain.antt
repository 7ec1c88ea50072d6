-- Demands 2 and 3 for the chain.
--
--   chain-complete      what the parts of an answer are, that they stand in the area, and that they are handed out of it
--   chain-changed       where both are answered, the parts of the changed f are those of f with the change carried from the right, and
--                       degrees, tries and price agree
--   outcome-changed     the changed f is answered exactly if f is, and refused by 5 exactly if f is
--   chain-carried       both together, for any f that the chain accepts
use mathlib.Core.Path.{◌≡◌, sym, ap, subst, ◌∙◌}
use mathlib.Core.Logic.{◌↔◌}
use mathlib.Core.List.{List}
use Prim.Native.Nat.{ℕ, ◌≤◌}
use native.Mathlib.Omega.{arith}
use lib.ListN.{length}
use Rattle.algebra.specs.Number.{Coprime}
use Rattle.algebra.specs.Polynomial.{degree, terms, limit, Reduced}
use Rattle.algebra.specs.Change.{Changed}
use Rattle.algebra.specs.Chain.{Chain, whole, step}
use Rattle.algebra.proofs.Factors.{coprime-invertible}
use Rattle.algebra.proofs.Chains as C
use Rattle.refusal.specs.Refusal.{refusal}
use Rattle.refusal.specs.declared.Concerns.TheVariants.{Neither}
use Rattle.refusal.specs.declared.Reason.TheVariants.{Factor}
use Rattle.refusal.specs.Refusal.{Answered}
use Rattle.refusal.proofs.Outcomes.{never}
use Rattle.polynomial.specs.Checks.{check_one, Accepted}
use Rattle.polynomial.proofs.Acceptance.{accepted-one, one-accepted, accepted-above, accepted-changed, degree-fits}
use Rattle.area.specs.Area.{area_words}
use Rattle.area.proofs.Reading.{parts-handed}
use Rattle.chain.specs.Chaining.{Chained}
use Rattle.chain.specs.Chaining.{ChainOf}
use Rattle.chain.specs.Chaining as of
use Rattle.chain.proofs.Placing.{parts_within}
use Rattle.chain.proofs.Promises.{chain_exact}
use Rattle.demands.specs.Chains.{Complete, Carries}

-- a chain has a part
chain-some : {m n t : ℕ} {f : List ℕ} {parts : List (List ℕ)} → Chain m n f parts t → 1 ≤ length parts
chain-some (whole a b none) = omega arith
chain-some (step a b e first p k) = omega arith

-- demand 2 for the chain
pub chain-complete : {m : ℕ} {f xs ys : List ℕ} {x : Chained} → length f ≡ terms → ChainOf m f xs ys x → x.outcome ≡ Answered
    → (parts : List (List ℕ)) × Complete m f xs ys x parts
chain-complete long (of.short l a p) z = absurd (never (ap (λ (x : Chained). x.outcome) p) z)
chain-complete long (of.refused l e a p) z = absurd (never (ap (λ (x : Chained). x.outcome) p) z)
chain-complete long (of.shared l e n a p) z = absurd (never (ap (λ (x : Chained). x.outcome) p) z)
chain-complete {m} {f} {xs} {ys} {x} long (of.chained {parts = parts} {t = t} l e c k a p) z =
    let acc = accepted-one long e in
    let two = accepted-above acc in
    let is_part = C.chain-part two acc.two k in
    let most = parts_within acc.two (degree-fits acc) k in
    let count = ap (λ (x : Chained). x.parts) p in
    let (handed, past) = parts-handed xs parts two is_part most l a count in (
      parts,
      record {
        room = l;
        accepted = acc;
        coprime = c;
        chain = rw p k;
        composes = C.chain-composed (omega arith) k;
        is_part = is_part;
        unsplit = C.chain-unsplit two k;
        normal = C.chain-normal k;
        multiply = C.chain-product two k;
        some = chain-some k;
        most = most;
        count = count;
        cost = ap (λ (x : Chained). x.price) p;
        area = a;
        handed = handed;
        past = past;
      },
    )

module _ {m a b : ℕ} {f f' xs ys xs' ys' : List ℕ} {x x' : Chained} (long : length f ≡ terms) (unit : Coprime a m) (changed : Changed m (degree f) a b f f')
    (k : ChainOf m f xs ys x) (k' : ChainOf m f' xs' ys' x') where
  -- demand 3 where both are answered: the two chains, and the change carried from one to the other
  pub chain-changed : length f' ≡ terms → x.outcome ≡ Answered → x'.outcome ≡ Answered
      → (parts parts' : List (List ℕ)) × Complete m f xs ys x parts × Complete m f' xs' ys' x' parts' × Carries m a b x x' parts parts'
  unfolding terms
  chain-changed long' z z' =
      let (parts, c) = chain-complete long k z in
      let (parts', c') = chain-complete long' k' z' in
      let two = accepted-above c.accepted in
      let low : degree f ≤ limit = degree-fits c.accepted in
      let e = (accepted-changed c.accepted c'.accepted.reduced unit changed).1 in
      let (car, t, d, p) = C.chains-changed (omega arith) two c.accepted.two (omega arith) (coprime-invertible m (omega arith) c.coprime) (coprime-invertible m (omega arith) unit) changed
      c.chain c'.accepted.reduced (subst (λ (n : ℕ). Chain m n f' parts' x'.tries) e c'.chain) in (
        parts,
        parts',
        c,
        c',
        record {
          carried = car;
          same_degrees = d;
          same_count = c'.count ∙ sym (C.degrees-length parts') ∙ ap length d ∙ C.degrees-length parts ∙ sym c.count;
          same_tries = t;
          same_price = c'.cost ∙ p ∙ sym c.cost;
        },
      )

  module _ (reduced : Reduced m f') (room' : area_words ≤ length xs') where
    -- demand 3: the outcomes agree, Answered or No. 5, since the degrees do
    pub outcome-changed : area_words ≤ length xs → check_one m f ≡ Answered → x'.outcome ≡ x.outcome
    outcome-changed room e = go k
      where
        accepted : Accepted m f
        accepted = accepted-one long e

        exact : ((x'.outcome ≡ Answered) ↔ Coprime (degree f) m) × ((x'.outcome ≡ refusal Neither Factor) ↔ (Coprime (degree f) m → ⊥))
        exact = rw (accepted-changed accepted reduced unit changed).1 at (chain_exact room' (one-accepted (accepted-changed accepted reduced unit changed).0) k')

        go : ChainOf m f xs ys x → x'.outcome ≡ x.outcome
        go (of.short l a p) = absurd (omega arith)
        go (of.refused l d a p) = absurd (never d e)
        go (of.shared l d n a p) = exact.1.1 n ∙ sym (ap (λ (x : Chained). x.outcome) p)
        go (of.chained l d c w a p) = exact.0.1 c ∙ sym (ap (λ (x : Chained). x.outcome) p)

    -- demand 3: an f that the chain accepts, changed, is answered with the carried parts
    pub chain-carried : x.outcome ≡ Answered → (parts parts' : List (List ℕ)) × Complete m f xs ys x parts × Complete m f' xs' ys' x' parts' × Carries m a b x x' parts parts'
    chain-carried z = let (parts, c) = chain-complete long k z in chain-changed reduced.long z (outcome-changed c.room (one-accepted c.accepted) ∙ z)
