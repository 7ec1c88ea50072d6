-- The states tell the language: which texts are sentences, and which have a ninth open bracket as their first fault.
--
--   starts_run            what begins a sentence leads to no fault
--   judged_good           a good verdict: the tree keeps the limits and spells the text
--   judged_deep           the fault of a ninth bracket: Ninth
--   judged_spelling       any other: no sentence, and not Ninth
--   sentence-verdict      the verdict of a sentence is its tree
--   fault_or_start        a text begins a sentence, or has a first fault
use mathlib.Core.Path.{◌≡◌, refl, sym, ap, ◌∙◌}
use mathlib.Core.Bool.{Bool, true, false, cond}
use mathlib.Core.Logic.{◌⊎◌, inl, inr, ⊎_elim}
use mathlib.Core.List.{List, [], ◌∷◌, ◌++◌}
use Prim.Native.Nat.{ℕ, suc, ◌≤◌, ◌<◌}
use native.Mathlib.Omega.{arith}
use native.Mathlib.Decide.{dec_lt}
use borrow.Author.Tests.{eqb-true, lt-ltb, le-ltb}
use lib.Dec.{ltb, leb, eqb}
use lib.ListN.{length}
use Rattle.text.specs.Grammar.{Sum, Factor, plain, raised, number, unknown, bracket, spell, Fits, digits_value, number_digits, most_power, most_deep}
use Rattle.text.specs.Language.{Sentence, Start, FaultAt, Ninth}
use Rattle.text.specs.States.{Frame, Fault, spelling, deep, State, begin as begin_at, expect, caret, factor, stuck, fresh, joined, is_digit, opening, longer, powered, closed, after, step, run, Verdict, good, bad, verdict}
use Rattle.text.proofs.Spelling.{run-append, run-stuck, sum-run, sum-verdict}
use Rattle.text.proofs.Reached.{Fine, fine-run, fine-first, fine-start, fine-good, by_cond}

-- the state at the start of a text
abbrev begin : State
begin = begin_at []

-- ---- what begins a sentence

sentence-verdict : (most : ℕ) (w : List ℕ) (z : Sentence most w) → verdict (run most begin w) ≡ good z.tree
sentence-verdict most w z = rw (← z.spelled) (ap verdict (sum-run z.tree most [] z.fits) ∙ sum-verdict z.tree)

good_or_bad : {v : Verdict} {s : Sum} {e : Fault} → v ≡ good s → v ≡ bad e → ⊥
good_or_bad p q = let z : ◌≡◌ {A = ℕ} 0 1 = cc in omega arith

starts_run : (most : ℕ) (w : List ℕ) → Start most w → (e : Fault) → run most begin w ≡ stuck e → ⊥
starts_run most w z e h =
    good_or_bad (sentence-verdict most (w ++ z.rest) z.sentence)
    (ap verdict (run-append most begin w z.rest ∙ ap (λ q. run most q z.rest) h ∙ run-stuck most e z.rest))

-- ---- the first fault

-- a fault, or none
stuck_or : (q : State) → ((e : Fault) × (q ≡ stuck e)) ⊎ ((e : Fault) → q ≡ stuck e → ⊥)
stuck_or (begin_at st) = inr (λ e h. let z : ◌≡◌ {A = ℕ} 0 1 = cc in omega arith)
stuck_or (expect st f) = inr (λ e h. let z : ◌≡◌ {A = ℕ} 0 1 = cc in omega arith)
stuck_or (caret st f a) = inr (λ e h. let z : ◌≡◌ {A = ℕ} 0 1 = cc in omega arith)
stuck_or (factor st f t) = inr (λ e h. let z : ◌≡◌ {A = ℕ} 0 1 = cc in omega arith)
stuck_or (stuck e) = inl (e, refl)

same-fault : {e d : Fault} → stuck e ≡ stuck d → e ≡ d
same-fault h = cc

-- the byte at which a run comes to a fault
record First (most : ℕ) (q : State) (s : List ℕ) (e : Fault) : Type 0 where
  before : List ℕ
  byte : ℕ
  after : List ℕ
  whole : before ++ (byte ∷ after) ≡ s
  free : (d : Fault) → run most q before ≡ stuck d → ⊥
  fault : step most (run most q before) byte ≡ stuck e

first : (most : ℕ) (s : List ℕ) (q : State) (e : Fault) → ((d : Fault) → q ≡ stuck d → ⊥) → run most q s ≡ stuck e → First most q s e
unfolding run
first most [] q e n h = absurd (n e h)
first most (b ∷ s) q e n h =
    ⊎_elim
    (λ z. record {
      before = [];
      byte = b;
      after = s;
      whole = refl;
      free = n;
      fault = z.1 ∙ ap stuck (same-fault (sym (run-stuck most z.0 s) ∙ ap (λ y. run most y s) (sym z.1) ∙ h));
    })
    (λ z. let f = first most s (step most q b) e z h in
    record { before = b ∷ f.before; byte = f.byte; after = f.after; whole = ap (λ (l : List ℕ). b ∷ l) f.whole; free = f.free; fault = f.fault })
    (stuck_or (step most q b))

-- ---- one bracket more

-- two choices by one test
both_ways : (R : State → State → Type 0) (t : Bool) {x y u v : State} → (t ≡ true → R x u) → (t ≡ false → R y v) → R (cond t x y) (cond t u v)
both_ways R true h g = h refl
both_ways R false h g = g refl

abbrev Deeper : State → State → Type 0
Deeper x y = (x ≡ stuck deep) ⊎ (y ≡ x)

opened : (most : ℕ) (n : ℕ) (q : State) → Deeper (cond (ltb n most) q (stuck deep)) (cond (ltb n (suc most)) q (stuck deep))
opened most n q = go (dec_lt n most)
  where
    go : Dec (n < most) → Deeper (cond (ltb n most) q (stuck deep)) (cond (ltb n (suc most)) q (stuck deep))
    go (yes h) = inr (rw (lt-ltb n most h, lt-ltb n (suc most) (omega arith)) refl)
    go (no h) = inl (rw (le-ltb n most (omega arith)) refl)

opening-deeper : (most : ℕ) (st : List Frame) (f : Frame) (b : ℕ) → Deeper (opening most st f b) (opening (suc most) st f b)
opening-deeper most st f b =
    both_ways Deeper (is_digit b) (λ e. inr refl)
    (λ e. both_ways Deeper (eqb b 120) (λ x. inr refl)
    (λ x. both_ways Deeper (eqb b 40) (λ o. opened most (length st) (begin_at (f ∷ st))) (λ o. inr refl)))

deeper : (most : ℕ) (q : State) (b : ℕ) → Deeper (step most q b) (step (suc most) q b)
unfolding step
deeper most (begin_at st) b = both_ways Deeper (eqb b 45) (λ e. inr refl) (λ e. opening-deeper most st fresh b)
deeper most (expect st f) b = opening-deeper most st f b
deeper most (caret st f a) b = inr refl
deeper most (factor st f t) b = inr refl
deeper most (stuck e) b = inr refl

run-deeper : (most : ℕ) (s : List ℕ) (q : State) → ((d : Fault) → run most q s ≡ stuck d → ⊥) → run (suc most) q s ≡ run most q s
unfolding run
run-deeper most [] q n = refl
run-deeper most (b ∷ s) q n =
    ⊎_elim
    (λ e. absurd (n deep (ap (λ y. run most y s) e ∙ run-stuck most deep s)))
    (λ e. ap (λ y. run (suc most) y s) e ∙ run-deeper most s (step most q b) n)
    (deeper most q b)

-- ---- where a fault is a bracket

abbrev is-deep : State → Bool
is-deep (begin_at st) = false
is-deep (expect st f) = false
is-deep (caret st f a) = false
is-deep (factor st f t) = false
is-deep (stuck spelling) = false
is-deep (stuck deep) = true

abbrev Shallow : State → Type 0
Shallow q = is-deep q ≡ false

longer_shallow : (st : List Frame) (f : Frame) (t : Factor) (b : ℕ) → Shallow (longer st f t b)
longer_shallow st f (plain (number c)) b = by_cond Shallow (ltb (length c) number_digits) (λ e. refl) (λ e. refl)
longer_shallow st f (plain unknown) b = refl
longer_shallow st f (plain (bracket s)) b = refl
longer_shallow st f (raised a c) b = by_cond Shallow (ltb (length c) number_digits) (λ e. by_cond Shallow (leb (digits_value (c ++ (b ∷ []))) most_power) (λ d. refl) (λ d. refl)) (λ e. refl)

powered_shallow : (st : List Frame) (f : Frame) (t : Factor) → Shallow (powered st f t)
powered_shallow st f (plain a) = refl
powered_shallow st f (raised a c) = refl

closed_shallow : (st : List Frame) (s : Sum) → Shallow (closed st s)
closed_shallow [] s = refl
closed_shallow (f ∷ st) s = refl

after_shallow : (st : List Frame) (f : Frame) (t : Factor) (b : ℕ) → Shallow (after st f t b)
after_shallow st f t b =
    by_cond Shallow (eqb b 43) (λ e. refl)
    (λ e. by_cond Shallow (eqb b 45) (λ e. refl)
    (λ e. by_cond Shallow (eqb b 42) (λ e. refl)
    (λ e. by_cond Shallow (eqb b 41) (λ e. closed_shallow st (joined f t)) (λ e. refl))))

never : {q : State} → Shallow q → q ≡ stuck deep → ⊥
never s h = let z : ◌≡◌ {A = Bool} false true = sym s ∙ ap is-deep h in let y : ◌≡◌ {A = ℕ} 0 1 = cc in omega arith

-- a bracket, where a factor has to begin
record Opens (q : State) (b : ℕ) : Type 0 where
  stack : List Frame
  last : Frame
  one_more : (most : ℕ) → step most q 40 ≡ cond (ltb (length stack) most) (begin_at (last ∷ stack)) (stuck deep)
  fine_stack : (most : ℕ) (w : List ℕ) → Fine most w q → Fine most w (expect stack last)
  bracket-byte : b ≡ 40

opening-deep : (most : ℕ) (st : List Frame) (f : Frame) (b : ℕ) → opening most st f b ≡ stuck deep → b ≡ 40
opening-deep most st f b =
    by_cond P (is_digit b) (λ e h. absurd (never refl h))
    (λ e. by_cond P (eqb b 120) (λ x h. absurd (never refl h))
    (λ x. by_cond P (eqb b 40) (λ o h. eqb-true b 40 o) (λ o h. absurd (never refl h))))
  where
    P : State → Type 0
    P q = q ≡ stuck deep → b ≡ 40

opens : (most : ℕ) (q : State) (b : ℕ) → ((d : Fault) → q ≡ stuck d → ⊥) → step most q b ≡ stuck deep → Opens q b
unfolding step
opens most (begin_at st) b n = by_cond P (eqb b 45) (λ e h. absurd (never refl h))
    (λ e h. record { stack = st; last = fresh; one_more = λ k. refl; fine_stack = λ k w p. p; bracket-byte = opening-deep most st fresh b h })
  where
    P : State → Type 0
    P q = q ≡ stuck deep → Opens (begin_at st) b
opens most (expect st f) b n = λ h. record { stack = st; last = f; one_more = λ k. refl; fine_stack = λ k w p. p; bracket-byte = opening-deep most st f b h }
opens most (caret st f a) b n = λ h. absurd (let z : ◌≡◌ {A = Bool} false true = sym shallow ∙ ap is-deep h in let y : ◌≡◌ {A = ℕ} 0 1 = cc in omega arith)
  where
    shallow : Shallow (cond (is_digit b) (factor st f (raised a (b ∷ []))) (stuck spelling))
    shallow = by_cond Shallow (is_digit b) (λ e. refl) (λ e. refl)
opens most (factor st f t) b n = λ h. absurd (let z : ◌≡◌ {A = Bool} false true = sym shallow ∙ ap is-deep h in let y : ◌≡◌ {A = ℕ} 0 1 = cc in omega arith)
  where
    shallow : Shallow (cond (is_digit b) (longer st f t b) (cond (eqb b 94) (powered st f t) (after st f t b)))
    shallow = by_cond Shallow (is_digit b) (λ e. longer_shallow st f t b) (λ e. by_cond Shallow (eqb b 94) (λ x. powered_shallow st f t) (λ x. after_shallow st f t b))
opens most (stuck e) b n = λ h. absurd (n e refl)

-- ---- the verdicts

-- no more than `most` brackets are open
stack_most : (most : ℕ) (w : List ℕ) (st : List Frame) (f : Frame) → Fine most w (expect st f) → length st ≤ most
stack_most most w [] f p = omega arith
stack_most most w (g ∷ st) f p = omega (arith, p.stack.1)

run_last : (most : ℕ) (q : State) (s : List ℕ) (b : ℕ) → run most q (s ++ (b ∷ [])) ≡ step most (run most q s) b
unfolding run
run_last most q s b = run-append most q s (b ∷ [])

module _ (w : List ℕ) where
  pub judged_good : (s : Sum) → verdict (run most_deep begin w) ≡ good s → (Fits s most_deep 0) × (spell s ≡ w)
  judged_good s h = fine-good most_deep w (run most_deep begin w) s (fine-run most_deep [] begin w (fine-first most_deep)) h

  ninth-run : Ninth w → run most_deep begin w ≡ stuck deep
  unfolding run
  ninth-run n =
      rw (← n.first.whole) (run-append most_deep begin n.before (40 ∷ n.first.after) ∙ ap (λ q. run most_deep q n.first.after) (⊎_elim stops goes (stuck_or (step most_deep q 40))) ∙ run-stuck most_deep deep n.first.after)
    where
      q : State
      q = run most_deep begin n.before

      goes : ((e : Fault) → step most_deep q 40 ≡ stuck e → ⊥) → step most_deep q 40 ≡ stuck deep
      goes free = absurd (n.first.fault (fine-start most_deep (n.before ++ (40 ∷ [])) (run most_deep begin (n.before ++ (40 ∷ []))) (fine-run most_deep [] begin (n.before ++ (40 ∷ [])) (fine-first most_deep)) (λ e h. free e (sym (run_last most_deep begin n.before 40) ∙ h))))

      stops : (e : Fault) × (step most_deep q 40 ≡ stuck e) → step most_deep q 40 ≡ stuck deep
      stops (e, h) = ⊎_elim (λ d. d)
          (λ d. absurd (starts_run (suc most_deep) (n.before ++ (40 ∷ [])) n.deeper e
          (run_last (suc most_deep) begin n.before 40 ∙ ap (λ z. step (suc most_deep) z 40) (run-deeper most_deep n.before begin (starts_run most_deep n.before n.first.start)) ∙ d ∙ h)))
          (deeper most_deep q 40)

  pub judged_spelling : verdict (run most_deep begin w) ≡ bad spelling → (Sentence most_deep w → ⊥) × (Ninth w → ⊥)
  judged_spelling h = (λ z. good_or_bad (sentence-verdict most_deep w z) h, λ n. other (ap verdict (ninth-run n)))
    where
      other : verdict (run most_deep begin w) ≡ bad deep → ⊥
      other g = let y : ◌≡◌ {A = ℕ} 0 1 = cc in omega arith

-- only a fault has this verdict
deep-verdict : (q : State) → verdict q ≡ bad deep → q ≡ stuck deep
deep-verdict (begin_at st) h = absurd (let y : ◌≡◌ {A = ℕ} 0 1 = cc in omega arith)
deep-verdict (expect st f) h = absurd (let y : ◌≡◌ {A = ℕ} 0 1 = cc in omega arith)
deep-verdict (caret st f a) h = absurd (let y : ◌≡◌ {A = ℕ} 0 1 = cc in omega arith)
deep-verdict (factor [] f t) h = absurd (let y : ◌≡◌ {A = ℕ} 0 1 = cc in omega arith)
deep-verdict (factor (g ∷ st) f t) h = absurd (let y : ◌≡◌ {A = ℕ} 0 1 = cc in omega arith)
deep-verdict (stuck e) h = cc

-- what the run shows is what the language says
fault-at : {w : List ℕ} {e : Fault} (f : First most_deep begin w e) → FaultAt w f.before f.byte
fault-at {e = e} f =
    record {
      after = f.after;
      whole = f.whole;
      start = fine-start most_deep f.before (run most_deep begin f.before) (fine-run most_deep [] begin f.before (fine-first most_deep)) f.free;
      fault = λ z. starts_run most_deep (f.before ++ (f.byte ∷ [])) z e (run_last most_deep begin f.before f.byte ∙ f.fault);
    }

-- the start of a run is no fault
fresh_start : (d : Fault) → begin ≡ stuck d → ⊥
fresh_start d z = let y : ◌≡◌ {A = ℕ} 0 1 = cc in omega arith

-- every text begins a text of the language, or has a first fault
pub fault_or_start : (w : List ℕ) → Start most_deep w ⊎ ((before : List ℕ) × (byte : ℕ) × FaultAt w before byte)
fault_or_start w =
    ⊎_elim
    (λ z. let f = first most_deep w begin z.0 fresh_start z.1 in inr (f.before, f.byte, fault-at f))
    (λ z. inl (fine-start most_deep w (run most_deep begin w) (fine-run most_deep [] begin w (fine-first most_deep)) z))
    (stuck_or (run most_deep begin w))

pub judged_deep : (w : List ℕ) → verdict (run most_deep begin w) ≡ bad deep → Ninth w
unfolding step
judged_deep w h = from (first most_deep w begin deep fresh_start (deep-verdict (run most_deep begin w) h))
  where
    from : First most_deep begin w deep → Ninth w
    from f =
        let o = opens most_deep (run most_deep begin f.before) f.byte f.free f.fault in
        let fine = fine-run most_deep [] begin f.before (fine-first most_deep) in
        let few : length o.stack ≤ most_deep = stack_most most_deep f.before o.stack o.last (o.fine_stack most_deep f.before fine) in
        let open9 : run (suc most_deep) begin (f.before ++ (40 ∷ [])) ≡ begin_at (o.last ∷ o.stack) =
        run_last (suc most_deep) begin f.before 40 ∙ ap (λ z. step (suc most_deep) z 40) (run-deeper most_deep f.before begin f.free) ∙ o.one_more (suc most_deep) ∙ rw (lt-ltb (length o.stack) (suc most_deep) (omega arith)) refl in
        record {
          before = f.before;
          first = rw o.bracket-byte at (fault-at f);
          deeper = fine-start (suc most_deep) (f.before ++ (40 ∷ [])) (run (suc most_deep) begin (f.before ++ (40 ∷ []))) (fine-run (suc most_deep) [] begin (f.before ++ (40 ∷ [])) (fine-first (suc most_deep))) (λ e z. let x = sym open9 ∙ z in let y : ◌≡◌ {A = ℕ} 0 1 = cc in omega arith);
        }
