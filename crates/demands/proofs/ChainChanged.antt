-- Demand 3 for the chain, over the contracts of chain and change, with both areas read back part by part.
--
--   ChainCarried      what the chain of f says of that of f'
--   chain-changed     the parts handed out for the changed f are those handed out for f with the change carried from the right
use mathlib.Core.Path.{◌≡◌, refl, sym, ap, ◌∙◌}
use mathlib.Core.List.{List}
use Prim.Native.Nat.{ℕ, zero, suc, ◌≤◌, ◌<◌}
use native.Mathlib.Omega.{arith}
use native.Mathlib.Decide.{dec_lt}
use lib.ListN.{length}
use Rattle.algebra.specs.Polynomial.{degree}
use Rattle.algebra.specs.Chain.{degrees}
use Rattle.refusal.specs.declared.Refusal.{Refusal}
use Rattle.refusal.specs.Refusal.{Outcome}
use Rattle.refusal.specs.Refusal.{Answered, Refused}
use Rattle.refusal.proofs.Outcomes.{never}
use Rattle.polynomial.specs.Checks.{Accepted}
use Rattle.polynomial.proofs.Acceptance.{one-accepted, accepted-changed, accepted-one}
use Rattle.change.specs.declared.Change.{Change}
use Rattle.area.specs.Area.{area_words, part_of, handed_out}
use Rattle.chain.specs.Chaining.{Chained}
use Rattle.chain.specs.Chaining.{ChainOf}
use Rattle.chain.specs.Chaining as of
use Rattle.chain.proofs.Promises.{chain_determined}
use Rattle.demands.specs.Chains.{Complete, Carries, ChainCarried}
use Rattle.demands.proofs.Chain as chain-law
use Rattle.demands.proofs.SplitChanged.{Altered}

-- lists of parts that have the same degrees have them place by place
degrees-at : (xs ys : List ℕ) (k : ℕ) → degrees (handed_out xs k) ≡ degrees (handed_out ys k) → (i : ℕ) → i < k → degree (part_of xs i) ≡ degree (part_of ys i)
unfolding degrees handed_out
degrees-at xs ys zero e i l = absurd (omega arith)
degrees-at xs ys (suc k) e i l = go (degrees-at xs ys k (cc)) (dec_lt i k)
  where
    go : ((i : ℕ) → i < k → degree (part_of xs i) ≡ degree (part_of ys i)) → Dec (i < k) → degree (part_of xs i) ≡ degree (part_of ys i)
    go before (yes h) = before i h
    go before (no h) = let same : i ≡ k = omega arith in rw same (cc)

module _ {m : ℕ} {c : Change} {f f' xs ys xs' ys' : List ℕ} {x x' : Chained} (z : Altered m c f f') (room : area_words ≤ length xs) (room' : area_words ≤ length xs')
    (k : ChainOf m f xs ys x) (k' : ChainOf m f' xs' ys' x') where
  both : Accepted m f' × (degree f' ≡ degree f)
  both = accepted-changed (accepted-one z.long z.accepted) z.reduced z.proper.invertible z.changed

  same_outcome : x'.outcome ≡ x.outcome
  same_outcome = chain-law.outcome-changed z.long z.proper.invertible z.changed k k' z.reduced room' room z.accepted

  -- where there are chains
  carried_over : {parts parts' : List (List ℕ)} → Complete m f xs ys x parts → Complete m f' xs' ys' x' parts' → Carries m c.unit c.origin x x' parts parts'
      → x.outcome ≡ Answered → ChainCarried m c ys ys' x x'
  carried_over {parts} {parts'} d d' e o = record {
    answered = (λ a. o, λ a. same_outcome ∙ a);
    refused = λ n. absurd (n o);
    carried = λ a. rw (d.handed, d'.handed) e.carried;
    same_degrees = λ a i. at i (dec_lt i x.parts);
    same_count = e.same_count;
    same_tries = e.same_tries;
    same_price = e.same_price;
  }
    where
      at : (i : ℕ) → Dec (i < x.parts) → degree (part_of ys' i) ≡ degree (part_of ys i)
      at i (yes h) = degrees-at ys' ys x.parts
          (ap (λ (n : ℕ). degrees (handed_out ys' n)) (sym e.same_count) ∙ ap degrees d'.handed ∙ e.same_degrees ∙ sym (ap degrees d.handed)) i h
      at i (no h) = ap degree (d'.past i (omega (arith, e.same_count)) ∙ sym (d.past i (omega arith)))

  -- where n and m share a factor
  refused_alike : {o : Outcome} {e : Refusal} → o ≡ Refused e → x ≡ of.unchained o → x' ≡ of.unchained o → ChainCarried m c ys ys' x x'
  refused_alike q p p' =
      let e = p' ∙ sym p in
      let no : x.outcome ≡ Answered → ⊥ = λ a. never (ap (λ (v : Chained). v.outcome) p ∙ q) a in record {
        answered = (λ a. ap (λ (v : Chained). v.outcome) (sym e) ∙ a, λ a. absurd (no a));
        refused = λ n. e;
        carried = λ a. absurd (no a);
        same_degrees = λ a. absurd (no a);
        same_count = ap (λ (v : Chained). v.parts) e;
        same_tries = ap (λ (v : Chained). v.tries) e;
        same_price = ap (λ (v : Chained). v.price) e;
      }

  pub chain-changed : ChainCarried m c ys ys' x x'
  chain-changed = go k
    where
      go : ChainOf m f xs ys x → ChainCarried m c ys ys' x x'
      go (of.short l a p) = absurd (omega arith)
      go (of.refused l e a p) = absurd (never e z.accepted)
      go (of.shared l e n a p) =
          refused_alike refl p (chain_determined z.reduced.long k' (of.shared room' (one-accepted both.0) (rw both.1 n) refl refl)).0
      go (of.chained l e n w a p) =
          let o = ap (λ (v : Chained). v.outcome) p in
          let (parts, parts', d, d', q) = chain-law.chain-carried z.long z.proper.invertible z.changed k k' z.reduced room' o in
          carried_over d d' q o
