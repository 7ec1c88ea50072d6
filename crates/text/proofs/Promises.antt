-- What the answer for a text says.
--
--   fault-no-sentence, ninth-no-sentence     a text with a fault is no text of the language
--   fault-one                      the first fault is at one place only
--   modulus_exactly, unsized_exactly, read_exactly, high_exactly, ninth_exactly, misspelt_exactly     the answer, told from the grammar alone
--   read_determined, write_determined         two answers are equal
--   two_passes                     what is reduced passes 2, so that 2 to 4 are 3 and 4
--   text-refused, text-short, text-fits     the writer's checks: 1 to 4 come before 11
use mathlib.Core.Path.{◌≡◌, refl, sym, ap, ◌∙◌}
use mathlib.Core.List.{List, [], ◌∷◌, ◌++◌, append_assoc}
use Prim.Native.Nat.{ℕ, ◌≤◌, ◌<◌}
use Rattle.refusal.specs.Refusal.{refusal, ◌then◌}
use Rattle.refusal.specs.declared.Refusal.{Refusal}
use Rattle.refusal.specs.Refusal.{Outcome}
use Rattle.refusal.specs.declared.Concerns.TheVariants.{Neither, First}
use Rattle.refusal.specs.declared.Reason.TheVariants.{Limit, Area, Spelling, Depth}
use Rattle.refusal.specs.Refusal.{Answered, Refused}
use Rattle.refusal.proofs.Outcomes.{never}
use Rattle.polynomial.specs.Answers.{Answer}
use Rattle.polynomial.specs.Answers.{nothing}
use Rattle.polynomial.specs.Checks.{check_degree, check_leading, check_coefficients, check_polynomial, check_one, offending}
use Rattle.polynomial.specs.Moduli.{check_modulus}
use Rattle.polynomial.proofs.Lowest.{none-offending}
use Rattle.algebra.specs.Polynomial.{reduced, Reduced}
use borrow.Author.Tests.{lt-ltb, le-ltb}
use native.Mathlib.Nat.{le_refl}
use lib.ListN.{length}
use Rattle.text.specs.Grammar.{Sum, most_deep}
use Rattle.text.specs.Language.{Sentence, Start, FaultAt, Ninth}
use Rattle.text.specs.Meaning.{meaning, Within}
use Rattle.text.specs.Answers.{Sized, ReadsText, modulus, unsized, ninth, misspelt, high, read, WritesText, refused, wrote, checked_text, check_text}
use Rattle.text.specs.Writing.{text_of}
use Rattle.text.specs.Answers.{Written}
use Rattle.text.proofs.Spelling.{one-meaning}

-- a fault is none of a text of the language
fault-no-sentence : {w before : List ℕ} {byte : ℕ} → FaultAt w before byte → Sentence most_deep w → ⊥
fault-no-sentence {before = before} {byte} n z =
    n.fault (record {
      rest = n.after;
      sentence = record { tree = z.tree; fits = z.fits; spelled = z.spelled ∙ sym n.whole ∙ sym (append_assoc before (byte ∷ []) n.after) };
    })

pub ninth-no-sentence : {w : List ℕ} → Ninth w → Sentence most_deep w → ⊥
ninth-no-sentence n = fault-no-sentence n.first

-- where two lists that are the same go apart
data Apart (b c : List ℕ) (x y : ℕ) : Type 0 where
  nowhere : b ≡ c → x ≡ y → Apart b c x y
  left-first : (u : List ℕ) → c ≡ b ++ (x ∷ u) → Apart b c x y
  right-first : (u : List ℕ) → b ≡ c ++ (y ∷ u) → Apart b c x y

further : {b c : List ℕ} {x y z w : ℕ} → z ≡ w → Apart b c x y → Apart (z ∷ b) (w ∷ c) x y
further {z = z} e (nowhere p q) = nowhere (rw (e, p) refl) q
further {z = z} e (left-first u p) = left-first u (rw (e, p) refl)
further {z = z} e (right-first u p) = right-first u (rw (e, p) refl)

heads : {x y : ℕ} {a d : List ℕ} → x ∷ a ≡ y ∷ d → x ≡ y
heads h = cc

tails : {x y : ℕ} {a d : List ℕ} → x ∷ a ≡ y ∷ d → a ≡ d
tails h = cc

apart : (b c : List ℕ) (x y : ℕ) (a d : List ℕ) → b ++ (x ∷ a) ≡ c ++ (y ∷ d) → Apart b c x y
apart [] [] x y a d h = nowhere refl (heads h)
apart [] (z ∷ c) x y a d h = left-first c (ap (λ (n : ℕ). n ∷ c) (sym (heads h)))
apart (z ∷ b) [] x y a d h = right-first b (ap (λ (n : ℕ). n ∷ b) (heads h))
apart (z ∷ b) (w ∷ c) x y a d h = further (heads h) (apart b c x y a d (tails h))

-- what begins a start is a start
shorter : (b u : List ℕ) (x : ℕ) {c : List ℕ} → c ≡ b ++ (x ∷ u) → Start most_deep c → Start most_deep (b ++ (x ∷ []))
shorter b u x e s =
    let z = s.sentence in
    record {
      rest = u ++ s.rest;
      sentence = record { tree = z.tree; fits = z.fits; spelled = z.spelled ∙ rw e (append_assoc b (x ∷ u) s.rest ∙ sym (append_assoc b (x ∷ []) (u ++ s.rest))) };
    }

-- the first fault is at one place
pub fault-one : {w b c : List ℕ} {x y : ℕ} → FaultAt w b x → FaultAt w c y → (b ≡ c) × (x ≡ y)
fault-one {w} {b} {c} {x} {y} p q = go (apart b c x y p.after q.after (p.whole ∙ sym q.whole))
  where
    go : Apart b c x y → (b ≡ c) × (x ≡ y)
    go (nowhere e f) = (e, f)
    go (left-first u e) = absurd (p.fault (shorter b u x e q.start))
    go (right-first u e) = absurd (q.fault (shorter c u y e p.start))

-- one tree
same-tree : {w : List ℕ} (y z : Sentence most_deep w) → y.tree ≡ z.tree
same-tree y z = one-meaning most_deep y.tree z.tree y.fits z.fits (y.spelled ∙ sym z.spelled)

pub modulus_exactly : {m : ℕ} {w : List ℕ} {r : Answer} {e : Refusal} → check_modulus m ≡ Refused e → ReadsText m w r → r ≡ nothing (Refused e)
modulus_exactly q (modulus p e) = e ∙ ap nothing (sym p ∙ q)
modulus_exactly q (unsized p n e) = absurd (never q p)
modulus_exactly q (ninth p s n e) = absurd (never q p)
modulus_exactly q (misspelt p s n l e) = absurd (never q p)
modulus_exactly q (high p s y n e) = absurd (never q p)
modulus_exactly q (read p s y h e) = absurd (never q p)

pub unsized_exactly : {m : ℕ} {w : List ℕ} {r : Answer} → check_modulus m ≡ Answered → (Sized w → ⊥) → ReadsText m w r → r ≡ nothing (refusal Neither Spelling)
unsized_exactly ok z (modulus p e) = absurd (never p ok)
unsized_exactly ok z (unsized p n e) = e
unsized_exactly ok z (ninth p s n e) = absurd (z s)
unsized_exactly ok z (misspelt p s n l e) = absurd (z s)
unsized_exactly ok z (high p s y n e) = absurd (z s)
unsized_exactly ok z (read p s y h e) = absurd (z s)

module _ {m : ℕ} {w : List ℕ} {r : Answer} (ok : check_modulus m ≡ Answered) (size : Sized w) where
  pub read_exactly : (z : Sentence most_deep w) → Within z.tree m → ReadsText m w r → r ≡ checked_text (reduced m (meaning z.tree m))
  read_exactly z i (modulus p e) = absurd (never p ok)
  read_exactly z i (unsized p n e) = absurd (n size)
  read_exactly z i (ninth p s n e) = absurd (ninth-no-sentence n z)
  read_exactly z i (misspelt p s n l e) = absurd (l z)
  read_exactly z i (high p s y n e) = absurd (n (rw (same-tree z y) at i))
  read_exactly z i (read p s y h e) = e ∙ ap (λ (t : Sum). checked_text (reduced m (meaning t m))) (same-tree y z)

  pub high_exactly : (z : Sentence most_deep w) → (Within z.tree m → ⊥) → ReadsText m w r → r ≡ nothing (refusal Neither Limit)
  high_exactly z i (modulus p e) = absurd (never p ok)
  high_exactly z i (unsized p n e) = absurd (n size)
  high_exactly z i (ninth p s n e) = absurd (ninth-no-sentence n z)
  high_exactly z i (misspelt p s n l e) = absurd (l z)
  high_exactly z i (high p s y n e) = e
  high_exactly z i (read p s y h e) = absurd (i (rw (same-tree y z) at h))

  pub ninth_exactly : Ninth w → ReadsText m w r → r ≡ nothing (refusal Neither Depth)
  ninth_exactly z (modulus p e) = absurd (never p ok)
  ninth_exactly z (unsized p n e) = absurd (n size)
  ninth_exactly z (ninth p s n e) = e
  ninth_exactly z (misspelt p s n l e) = absurd (n z)
  ninth_exactly z (high p s y n e) = absurd (ninth-no-sentence z y)
  ninth_exactly z (read p s y h e) = absurd (ninth-no-sentence z y)

  pub misspelt_exactly : (Ninth w → ⊥) → (Sentence most_deep w → ⊥) → ReadsText m w r → r ≡ nothing (refusal Neither Spelling)
  misspelt_exactly a b (modulus p e) = absurd (never p ok)
  misspelt_exactly a b (unsized p n e) = absurd (n size)
  misspelt_exactly a b (ninth p s n e) = absurd (a n)
  misspelt_exactly a b (misspelt p s n l e) = e
  misspelt_exactly a b (high p s y n e) = absurd (b y)
  misspelt_exactly a b (read p s y h e) = absurd (b y)

-- ---- two answers are equal

pub read_determined : {m : ℕ} {w : List ℕ} {x y : Answer} → ReadsText m w x → ReadsText m w y → x ≡ y
read_determined (modulus p e) y = e ∙ sym (modulus_exactly p y)
read_determined (unsized p n e) y = e ∙ sym (unsized_exactly p n y)
read_determined (ninth p s n e) y = e ∙ sym (ninth_exactly p s n y)
read_determined (misspelt p s n l e) y = e ∙ sym (misspelt_exactly p s n l y)
read_determined (high p s z n e) y = e ∙ sym (high_exactly p s z n y)
read_determined (read p s z i e) y = e ∙ sym (read_exactly p s z i y)

-- with every byte of the area
pub write_determined : {m : ℕ} {f xs ys zs : List ℕ} {x y : Written} → WritesText m f xs ys x → WritesText m f xs zs y → (x ≡ y) × (ys ≡ zs)
write_determined (refused p a e) (refused q b d) = (e ∙ ap (λ (o : Outcome). record { outcome = o; length = 0 }) (sym p ∙ q) ∙ sym d, a ∙ sym b)
write_determined (refused p a e) (wrote q b d) = absurd (never p q)
write_determined (wrote p a e) (refused q b d) = absurd (never q p)
write_determined (wrote p a e) (wrote q b d) = (e ∙ sym d, a ∙ sym b)

-- reduced are below m, so that 2 passes
pub two_passes : {m : ℕ} {f : List ℕ} → Reduced m f → check_polynomial First m f ≡ (check_degree First f then check_leading First f)
unfolding check_polynomial check_coefficients
two_passes {m} {f} red =
    let full : offending m f ≡ length f = none-offending m f (record { below = λ j l. red.below j (rw red.long at l) }) in
    rw (full, le-ltb (length f) (length f) (le_refl (length f))) refl

-- ---- the writer's checks

module _ (m : ℕ) (f : List ℕ) (n : ℕ) where
  pub text-refused : {e : Refusal} → check_one m f ≡ Refused e → check_text m f n ≡ Refused e
  unfolding check_text
  text-refused p = rw p refl

  pub text-short : check_one m f ≡ Answered → n < length (text_of f) → check_text m f n ≡ refusal Neither Area
  unfolding check_text
  text-short p l = rw (p, lt-ltb n (length (text_of f)) l) refl

  pub text-fits : check_one m f ≡ Answered → length (text_of f) ≤ n → check_text m f n ≡ Answered
  unfolding check_text
  text-fits p l = rw (p, le-ltb n (length (text_of f)) l) refl
