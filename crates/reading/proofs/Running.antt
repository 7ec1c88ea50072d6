-- What a whole run has put, whatever the pieces that the reads brought.
--
--   whole_of taken                       the bytes of the whole records among so many
--   Piecewise Makes                      what is made of whole records, and then of what follows them, is made of all
--   SoFar Makes taken xs input t         t is made of the whole records of the input so far, and the buffer xs has the rest
--   stepped                              a turn, by what is made of the buffer and what is moved to its front
--   turned                               the turn of a read, by the bytes that it kept
--   Ran Makes taken xs                   there were such turns so far
--   ran_none, ran-more                   before the first turn, and after one more
--   so_far                               so it is after some turns
--   whole                                what a run that has come to its end has put is made of the input
use mathlib.Core.Path.{◌≡◌, refl, sym, ap, subst, ◌∙◌}
use mathlib.Core.Logic.{⊎_elim}
use mathlib.Core.List.{List, [], ◌++◌, append_assoc, append-nil}
use Prim.Native.Nat.{ℕ, ◌+◌, ◌-◌, ◌/◌, ◌%◌, ◌<◌, ◌≤◌}
use native.Mathlib.Nat as N
use native.Mathlib.Omega.{arith}
use borrow.Author.Tests.{eq-eqb, ne_eqb}
use lib.ListN.{length, take, drop, length-append, length-take, length-drop, take-append-drop}
use lib.Seq.{take-append-add, drop-append-add, length-take-le, take_all, take-take, take-add, take_at, drop_at}
use Rattle.algebra.specs.Polynomial.{terms, limit}
use Rattle.record.specs.Record.{record_bytes}
use Rattle.reading.specs.Reading.{most_listed, most_read, number_after, Came, upto, to_front}
use Rattle.reading.specs.declared.Failed.{Failed}
use Rattle.std.specs.Prelude.{Result, Ok, IsErr}
use Rattle.reading.specs.Running.{handed, Turn, Run, Step, TurnOf, Whole, RunOf}
use Rattle.reading.specs.Running as of

abbrev pub whole_of : ℕ → ℕ
whole_of taken = taken - taken % record_bytes

pub record Piecewise (Makes : List ℕ → ℕ → List ℕ → Type 0) : Type 0 where
  pub none : Makes [] 1 []
  pub pieces : (b t c u : List ℕ) (k : ℕ) → length b % record_bytes ≡ 0 → Makes b k t → Makes c (k + length b / record_bytes) u → Makes (b ++ c) k (t ++ u)

pub record SoFar (Makes : List ℕ → ℕ → List ℕ → Type 0) (taken : ℕ) (xs input t : List ℕ) : Type 0 where
  pub long : length input ≡ taken
  pub made : Makes (take (whole_of taken) input) 1 t
  pub rest : take (taken % record_bytes) xs ≡ drop (whole_of taken) input

-- what a turn is handed at most, where a read brought something: the whole records
upto-some : (kept more : ℕ) → 0 < more → upto kept more ≡ kept + more - (kept + more) % record_bytes
unfolding upto
upto-some kept more h = simp (ne_eqb more 0 (omega arith))

-- no more is listed than there is
upto-within : (kept more : ℕ) → upto kept more ≤ kept + more
unfolding upto
upto-within kept more = ⊎_elim (λ (e : 0 ≡ more). simp (eq-eqb more 0 (sym e)) (omega arith)) (λ (h : 0 < more). simp (ne_eqb more 0 (omega arith)) (omega arith)) (N.eq-or-lt_of_le (omega arith))

-- of the first n elements those from m on
drop-take : (m n : ℕ) (l : List ℕ) → m ≤ n → n ≤ length l → drop m (take n l) ≡ take (n - m) (drop m l)
drop-take m n l h k =
    let e : n ≡ m + (n - m) = omega arith in
    ap (λ (i : ℕ). drop m (take i l)) e ∙ ap (drop m) (take-add m (n - m) l) ∙ drop_at (take m l) (take (n - m) (drop m l)) m (length-take-le m l (omega arith))

-- the length of the rest is what the bytes taken leave over
left : (taken more : ℕ) → 0 < more → taken % record_bytes + more - upto (taken % record_bytes) more ≡ (taken + more) % record_bytes
unfolding record_bytes terms limit
left taken more some = omega (arith, upto-some (taken % record_bytes) more some)

-- what has come is no failure
no_failure : {r : Result ℕ Failed} {n : ℕ} → r ≡ Ok n → IsErr r → ⊥
no_failure f e = let z : ◌≡◌ {A = ℕ} 0 1 = cc in omega arith

module _ (Makes : List ℕ → ℕ → List ℕ → Type 0) where
  pub stepped : (taken more : ℕ) {xs ys : List ℕ} (t : List ℕ) → taken % record_bytes + more ≤ length xs
      → Makes (take (upto (taken % record_bytes) more) xs) (number_after taken) t
      → ys ≡ to_front xs (upto (taken % record_bytes) more) (taken % record_bytes + more - upto (taken % record_bytes) more) → Step Makes taken more xs ys
  unfolding handed to_front
  stepped taken more {xs} {ys} t room made moved =
      let kept : ℕ = taken % record_bytes in
      let to : ℕ = upto kept more in
      let within : to ≤ kept + more = upto-within kept more in
      let long : length (take more (drop kept xs)) ≡ more = length-take-le more (drop kept xs) (simp length-drop (omega arith)) in
      let all : take kept xs ++ take more (drop kept xs) ≡ take (kept + more) xs = sym (take-add kept more xs) in
      record {
        text = t;
        turn = record {
          made = rw (long, all, take-take to (kept + more) xs within) made;
          rest = λ some. rw (long, all, moved, ← left taken more (rw long at some), drop-take to (kept + more) xs within room) (take_at (take (kept + more - to) (drop to xs)) (drop (kept + more - to) xs) (kept + more - to) (length-take-le (kept + more - to) (drop to xs) (simp length-drop (omega arith))));
        };
      }

  -- a read keeps the bytes of the record that is begun
  pub read-before : {taken : ℕ} {xs ys zs brought t : List ℕ} → take (taken % record_bytes) ys ≡ take (taken % record_bytes) xs → Turn Makes taken ys zs brought t
      → Turn Makes taken xs zs brought t
  unfolding handed
  read-before same turn = record { made = rw same at turn.made; rest = λ some. rw same at (turn.rest some) }

  -- a turn, by its read
  pub turned : {taken n : ℕ} {xs ys zs : List ℕ} → Came taken xs ys (Ok n) → taken % record_bytes + n ≤ length ys → Step Makes taken n ys zs → TurnOf Makes taken xs zs (Ok n)
  turned {taken} {n} {xs} {ys} {zs} came room step =
      let long : length (take n (drop (taken % record_bytes) ys)) ≡ n = length-take-le n (drop (taken % record_bytes) ys) (simp length-drop (omega arith)) in
      ⊎_elim
      (λ (none : 0 ≡ n). of.ended (ap (λ (k : ℕ). Ok k) (sym none)) (read-before came.kept (rw (sym none) at step.turn)))
      (λ (some : 0 < n). of.on {brought = take n (drop (taken % record_bytes) ys)} (ap (λ (k : ℕ). Ok k) (sym long)) (rw long some) (rw long came.brings.0) (read-before came.kept step.turn))
      (N.eq-or-lt_of_le (omega arith))

  -- there were such turns so far
  pub record Ran (taken : ℕ) (xs : List ℕ) : Type 0 where
    pub input : List ℕ
    pub text : List ℕ
    pub run : Run Makes taken xs input text

  pub ran_none : (xs : List ℕ) → Ran 0 xs
  ran_none xs = record { input = []; text = []; run = of.begun }

  pub ran_on : {taken n : ℕ} {xs ys : List ℕ} {r : Result ℕ Failed} → TurnOf Makes taken xs ys r → r ≡ Ok n → 0 < n → Ran taken xs → (taken + n ≤ most_read) × Ran (taken + n) ys
  ran_on {taken} {n} {ys = ys} (of.on {brought = brought} e some room turn) f more k =
      let same : length brought ≡ n = cc in
      (rw same at room, subst (λ (i : ℕ). Ran (taken + i) ys) same (record { input = _; text = _; run = of.turned k.run some turn }))
  ran_on {n = n} (of.ended e turn) f more k = let none : ◌≡◌ {A = ℕ} 0 n = cc in absurd (omega arith)
  ran_on (of.failed e) f more k = absurd (no_failure f e)

  pub run-ended : {taken n : ℕ} {xs ys : List ℕ} {r : Result ℕ Failed} → TurnOf Makes taken xs ys r → r ≡ Ok n → n ≡ 0 → Ran taken xs → RunOf Makes (Ok tt)
  run-ended {n = n} (of.on {brought = brought} e some room turn) f none k = let same : length brought ≡ n = cc in absurd (omega arith)
  run-ended (of.ended e turn) f none k = of.whole refl (of.ended k.run turn)
  run-ended (of.failed e) f none k = absurd (no_failure f e)

  pub run-failed : {taken : ℕ} {xs : List ℕ} {r : Result Unit Failed} → IsErr r → Ran taken xs → RunOf Makes r
  run-failed e k = of.failed e k.run

  pub run-full : {taken : ℕ} {xs : List ℕ} → taken ≡ most_read → Ran taken xs → RunOf Makes (Ok tt)
  run-full e k = of.whole refl (of.full (rw e at k.run))

module _ {Makes : List ℕ → ℕ → List ℕ → Type 0} (p : Piecewise Makes) where
  module _ {taken : ℕ} {xs ys input t brought u : List ℕ} (k : SoFar Makes taken xs input t) (step : Turn Makes taken xs ys brought u) where
    abbrev w : ℕ
    w = whole_of taken

    abbrev to : ℕ
    to = upto (taken % record_bytes) (length brought)

    before : length (take w input) ≡ w
    before = length-take-le w input (omega (arith, k.long))

    -- what a turn is handed begins behind the whole records of the input before it
    joins : input ++ brought ≡ take w input ++ handed taken xs brought
    unfolding handed
    joins =
        ap (λ (l : List ℕ). l ++ brought) (sym (take-append-drop w input) ∙ ap (λ (l : List ℕ). take w input ++ l) (sym k.rest))
        ∙ append_assoc (take w input) (take (taken % record_bytes) xs) brought

    next : Makes (take w input ++ take to (handed taken xs brought)) 1 (t ++ u)
    unfolding number_after record_bytes terms limit
    next =
        let e : number_after taken ≡ 1 + length (take w input) / record_bytes = omega (arith, before) in
        p.pieces (take w input) t (take to (handed taken xs brought)) u 1 (omega (arith, before)) k.made (subst (λ (n : ℕ). Makes (take to (handed taken xs brought)) n u) e step.made)

    turns : 0 < length brought → SoFar Makes (taken + length brought) ys (input ++ brought) (t ++ u)
    unfolding record_bytes terms limit
    turns some =
        let long : length (input ++ brought) ≡ taken + length brought = length-append input brought ∙ ap (λ (n : ℕ). n + length brought) k.long in
        let e : whole_of (taken + length brought) ≡ length (take w input) + to = omega (arith, before, upto-some (taken % record_bytes) (length brought) some) in
        let whole : take (whole_of (taken + length brought)) (input ++ brought) ≡ take w input ++ take to (handed taken xs brought) = rw (e, joins, take-append-add) in
        let rest : drop (whole_of (taken + length brought)) (input ++ brought) ≡ drop to (handed taken xs brought) = rw (e, joins, drop-append-add) in
        record { long = long; made = rw whole next; rest = step.rest some ∙ sym rest }

  pub so_far : {taken : ℕ} {xs input t : List ℕ} → Run Makes taken xs input t → SoFar Makes taken xs input t
  unfolding record_bytes terms limit
  so_far (of.begun) = record { long = refl; made = p.none; rest = refl }
  so_far (of.turned run some step) = turns (so_far run) step some

  pub whole : {input t : List ℕ} → Whole Makes input t → Makes input 1 t
  unfolding handed upto most_read most_listed record_bytes terms limit
  whole {input} (of.ended {taken = taken} {xs = xs} {t = t} {u = u} run step) =
      let k = so_far run in
      let kept : take (taken % record_bytes) (take (taken % record_bytes) xs ++ []) ≡ drop (whole_of taken) input = ap (take (taken % record_bytes)) (append-nil (take (taken % record_bytes) xs)) ∙ take_all (taken % record_bytes) (take (taken % record_bytes) xs) (simp length-take (omega arith)) ∙ k.rest in
      subst (λ (l : List ℕ). Makes l 1 (t ++ u)) (ap (λ (l : List ℕ). take (whole_of taken) input ++ l) kept ∙ take-append-drop (whole_of taken) input) (next k step)
  whole {input} (of.full {t = t} run) =
      let k = so_far run in
      subst (λ (l : List ℕ). Makes l 1 t) (take_all (whole_of most_read) input (omega (arith, k.long))) k.made
