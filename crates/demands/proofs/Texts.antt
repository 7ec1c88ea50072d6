-- The promises of the reader of texts.
--
--   read_language     13 or 14 exactly if the text is not in the language
--   read-ninth        14 exactly if its first fault is a ninth open bracket
--   within_low        what is built within the limit is low
--   read-accepted     an answer without a refusal passes the checks of the desk, and is the meaning modulo m
use mathlib.Core.Path.{◌≡◌, refl, sym, ap, ◌∙◌}
use mathlib.Core.Bool.{Bool, true, false, not}
use mathlib.Core.Logic.{inl, inr, ⊎_elim, ◌↔◌}
use mathlib.Core.List.{List}
use Prim.Native.Nat.{ℕ, ◌-◌}
use Rattle.std.specs.Prelude.{Ok, Err}
use Rattle.refusal.specs.Refusal.{refusal, refuse, ◌then◌, number_of}
use Rattle.refusal.specs.declared.Refusal.{Refusal}
use Rattle.refusal.specs.Refusal.{Outcome}
use Rattle.refusal.specs.declared.Concerns.TheVariants.{Neither, First}
use Rattle.refusal.specs.declared.Reason.TheVariants.{Degree, Leading, Limit, Spelling, Depth}
use Rattle.refusal.specs.Refusal.{Answered, Refused}
use Rattle.refusal.proofs.Outcomes.{never}
use Rattle.polynomial.specs.Answers.{Answer}
use Rattle.polynomial.specs.Answers.{nothing}
use Rattle.polynomial.specs.Checks.{check_degree, check_leading, check_one, Accepted}
use Rattle.polynomial.specs.Moduli.{check_modulus}
use Rattle.polynomial.proofs.Acceptance.{accepted-one, accepted-modulus}
use Rattle.algebra.specs.Polynomial.{coef, limit, degree, reduced, Reduced}
use Rattle.algebra.proofs.Reduction.{reduced-reduced}
use Rattle.built.proofs.Joining.{reduced-low, low-power, low-scaled}
use Rattle.built.proofs.Singles.{single-low}
use Rattle.built.specs.Built as built-specs
use native.Mathlib.Omega.{arith}
use lib.Dec.{ltb, eqb}
use Rattle.built.specs.Built.{Low}
use Rattle.text.specs.Grammar.{Sum, Product, Factor, Base, term, negative, add, subtract, single, multiply, plain, raised, number, unknown, bracket, digits_value}
use Rattle.text.specs.Language.{Ninth}
use Rattle.text.specs.Meaning.{meaning, meaning_product, meaning_factor, meaning_base, Within, WithinProduct, WithinFactor, WithinBase}
use Rattle.text.specs.Answers.{Sized, ReadsText, modulus, unsized, ninth, misspelt, high, read, checked_text, answer_text}
use Rattle.text.proofs.Promises.{ninth-no-sentence, ninth_exactly, two_passes}
use Rattle.demands.specs.Texts.{Misspelt, Language, Means}

misspelt_by : {r : Answer} (o : Outcome) → r ≡ nothing o → Misspelt o → Misspelt r.outcome
unfolding nothing
misspelt_by o e h = rw e h

-- 10 is neither
limit-spelled : {r : Answer} → r ≡ nothing (refusal Neither Limit) → Misspelt r.outcome → ⊥
unfolding nothing
limit-spelled e h = ⊎_elim (λ (x : 10 ≡ 13). omega arith) (λ (x : 10 ≡ 14). omega arith) (rw e at h)

-- nor are 3 and 4
checked-spelled : {r : Answer} (f : List ℕ) → r ≡ checked_text f → Misspelt r.outcome → ⊥
unfolding checked_text check_degree check_leading nothing
checked-spelled f e h = go (ltb (degree f) 2) (not (eqb (coef f (degree f)) 1)) (rw e at h)
  where
    go : (s t : Bool) → Misspelt (answer_text (refuse s First Degree then refuse t First Leading) f).outcome → ⊥
    go true t x = ⊎_elim (λ (x : 3 ≡ 13). omega arith) (λ (x : 3 ≡ 14). omega arith) x
    go false true x = ⊎_elim (λ (x : 4 ≡ 13). omega arith) (λ (x : 4 ≡ 14). omega arith) x
    go false false x = x

pub read_language : {m : ℕ} {w : List ℕ} {r : Answer} → check_modulus m ≡ Answered → ReadsText m w r → Language w r
read_language ok (modulus p e) = absurd (never p ok)
read_language ok (unsized p n e) = record { taken = λ s z h. n s; spelled = λ h. absurd (h (misspelt_by _ e (inl refl))) }
read_language ok (ninth p s n e) = record { taken = λ s z h. ninth-no-sentence n z; spelled = λ h. absurd (h (misspelt_by _ e (inr refl))) }
read_language ok (misspelt p s n l e) = record { taken = λ s z h. l z; spelled = λ h. absurd (h (misspelt_by _ e (inl refl))) }
read_language ok (high p s z n e) = record { taken = λ a b h. limit-spelled e h; spelled = λ h. (s, z) }
read_language {m} ok (read p s z i e) = record { taken = λ a b h. checked-spelled (reduced m (meaning z.tree m)) e h; spelled = λ h. (s, z) }

spelling_depth : {r : Answer} → r ≡ nothing (refusal Neither Spelling) → r.outcome ≡ refusal Neither Depth → ⊥
unfolding nothing
spelling_depth e h = let z : ◌≡◌ {A = ℕ} 13 14 = ap number_of (sym (ap (λ (a : Answer). a.outcome) e) ∙ h) in omega arith

-- 14 tells of a ninth bracket
depth_ninth : {m : ℕ} {w : List ℕ} {r : Answer} → check_modulus m ≡ Answered → ReadsText m w r → r.outcome ≡ refusal Neither Depth → Ninth w
depth_ninth ok (modulus p e) h = absurd (never p ok)
depth_ninth ok (unsized p n e) h = absurd (spelling_depth e h)
depth_ninth ok (ninth p s n e) h = n
depth_ninth ok (misspelt p s n l e) h = absurd (spelling_depth e h)
depth_ninth ok (high p s z n e) h = absurd (limit-spelled e (rw h (inr refl)))
depth_ninth {m} ok (read p s z i e) h = absurd (checked-spelled (reduced m (meaning z.tree m)) e (rw h (inr refl)))

-- and exactly of that
pub read-ninth : {m : ℕ} {w : List ℕ} {r : Answer} → check_modulus m ≡ Answered → Sized w → ReadsText m w r → Ninth w ↔ (r.outcome ≡ refusal Neither Depth)
unfolding nothing
read-ninth ok s t = (λ n. ap (λ (a : Answer). a.outcome) (ninth_exactly ok s n t), depth_ninth ok t)

-- ---- an answer that is no refusal

-- 3 and 4 pass
checked-answered : (f : List ℕ) → (checked_text f).outcome ≡ Answered → (check_degree First f then check_leading First f) ≡ Answered
unfolding checked_text nothing
checked-answered f h = go (check_degree First f then check_leading First f) h
  where
    go : (o : Outcome) → (answer_text o f).outcome ≡ Answered → o ≡ Answered
    go (Ok x) h = refl
    go (Err e) h = h

checked-is : (f : List ℕ) → (checked_text f).outcome ≡ Answered → (checked_text f).polynomial ≡ f
unfolding checked_text
checked-is f h = rw (checked-answered f h) refl

reduced-accepted : (m : ℕ) (f : List ℕ) → check_modulus m ≡ Answered → (check_degree First (reduced m f) then check_leading First (reduced m f)) ≡ Answered → Accepted m (reduced m f)
unfolding check_one
reduced-accepted m f ok h =
    let red : Reduced m (reduced m f) = reduced-reduced m (omega (arith, accepted-modulus ok)) f in
    accepted-one red.long (rw ok (two_passes red ∙ h))

-- what is within the limit is low
mutual
  unfolding Within meaning built-specs.single limit

  within_low : (s : Sum) (m : ℕ) → Within s m → Low m (meaning s m)
  within_low (term p) m h = within-low-product p m h
  within_low (negative p) m h = low-scaled (m - 1) (within-low-product p m h)
  within_low (add s p) m h = h.2
  within_low (subtract s p) m h = h.2

  within-low-product : (p : Product) (m : ℕ) → WithinProduct p m → Low m (meaning_product p m)
  within-low-product (single t) m h = within-low-factor t m h
  within-low-product (multiply p t) m h = h.2

  within-low-factor : (t : Factor) (m : ℕ) → WithinFactor t m → Low m (meaning_factor t m)
  within-low-factor (plain b) m h = within-low-base b m h
  within-low-factor (raised b c) m h = low-power (digits_value c) h.1

  within-low-base : (b : Base) (m : ℕ) → WithinBase b m → Low m (meaning_base b m)
  within-low-base (number c) m h = single-low (digits_value c) 0 (omega arith)
  within-low-base unknown m h = single-low 1 1 (omega arith)
  within-low-base (bracket s) m h = within_low s m h

not_answered : (e : Refusal) {r : Answer} → r ≡ nothing (Refused e) → r.outcome ≡ Answered → ⊥
unfolding nothing
not_answered z e h = never (ap (λ (a : Answer). a.outcome) e) h

pub read-accepted : {m : ℕ} {w : List ℕ} {r : Answer} → ReadsText m w r → r.outcome ≡ Answered → Means m w r.polynomial
read-accepted (modulus p e) h = absurd (not_answered _ e h)
read-accepted (unsized p n e) h = absurd (not_answered _ e h)
read-accepted (ninth p s n e) h = absurd (not_answered _ e h)
read-accepted (misspelt p s n l e) h = absurd (not_answered _ e h)
read-accepted (high p s y n e) h = absurd (not_answered _ e h)
read-accepted {m} (read p s y i e) h =
    let o = sym (ap (λ (a : Answer). a.outcome) e) ∙ h in
    let f = ap (λ (a : Answer). a.polynomial) e ∙ checked-is (reduced m (meaning y.tree m)) o in
    record {
      sentence = y;
      within = i;
      accepted = rw f (reduced-accepted m (meaning y.tree m) p (checked-answered (reduced m (meaning y.tree m)) o));
      same = rw f (reduced-low (omega (arith, accepted-modulus p)) (within_low y.tree m i));
    }
