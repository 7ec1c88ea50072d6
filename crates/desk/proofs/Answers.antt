-- The answers of the face: for each function, two results and every lent word that one request leaves are equal.
--
--   face_check               desk_check
--   face_compose             desk_compose
--   face_left-part           desk_left_part
--   face_split               desk_split
--   face_quick               desk_quick
--   face_change_polynomial   desk_change_polynomial
--   face_change_pair         desk_change_pair
--   face_combine             desk_combine
--   face_undo                desk_undo
--   face_chain               desk_chain
--   face_count-chains        desk_count_chains
--   face_nth-chain           desk_nth_chain
--   face_part                desk_part
--   face_write_sheet         desk_write_sheet
--   face_read_sheet          desk_read_sheet
--   face_read-text           desk_read_text
--   face_write_text          desk_write_text
-- They follow from the operations' own laws:
--   answer_face_unique, parts_face_unique, made_face_unique     where an operation's contract determines its answer, so does that of its face
--   place_empty, place-full                                     where a part stands
use mathlib.Core.Path.{◌≡◌, refl, sym, ap, ◌∙◌}
use mathlib.Core.List.{List, [], ◌∷◌}
use Prim.Native.Nat.{ℕ, zero, suc}
use lib.ListN.{length}
use Rattle.algebra.specs.Polynomial.{terms}
use Rattle.polynomial.specs.Answers.{Answer}
use Rattle.polynomial.specs.Answers.{Parts}
use Rattle.pair.specs.Pairing.{compose, LeftPartOf, Splits}
use Rattle.pair.proofs.Determined.{compose_determined, left-part_determined, split_determined}
use Rattle.change.specs.declared.Change.{Change}
use Rattle.change.specs.Changing.{Made}
use Rattle.change.specs.Changing.{ChangesPolynomial, ChangesPair, Combines, Undoing}
use Rattle.change.proofs.Determined.{change_polynomial_determined, change_pair_determined, combine_determined, undo_determined}
use Rattle.area.specs.Area.{start, part_of}
use Rattle.chain.specs.Chaining.{Chained}
use Rattle.chain.proofs.Promises.{chain_determined}
use Rattle.chains.specs.Choosing.{Numbered}
use Rattle.chains.specs.Choosing.{Chosen}
use Rattle.chains.proofs.Promises.{number_determined, nth_determined}
use Rattle.sheet.specs.Answers.{Contents}
use Rattle.sheet.proofs.Promises.{write_determined, read_determined}
use Rattle.text.specs.Answers.{Written}
use Rattle.text.specs.Answers.{ReadsText}
use Rattle.text.proofs.Promises as text-law
use Rattle.pair.specs.Asking.{Verdict}
use Rattle.pair.proofs.Reports.{quick_determined}
use Rattle.desk.specs.Face.{told, said, QuickAs, CheckedAs, AnswersAs, PartsAs, MadeAs, ChainedAs, NumberedAs, ChosenAs, SheetAs, ReadAs, TextAs, start_of, place_of}
use Rattle.desk.specs.declared.Refused.{Refused}

-- where an operation's contract determines its answer, so does that of its face
pub answer_face_unique : {Of : Answer → Type 0} → ((x y : Answer) → Of x → Of y → x ≡ y) → {r r' : Refused} {f f' : List ℕ}
    → AnswersAs Of r f → AnswersAs Of r' f' → (r ≡ r') × (f ≡ f')
answer_face_unique one x y =
    let e = one x.answer y.answer x.is y.is in
    (x.refused ∙ ap (λ (a : Answer). told a.outcome) e ∙ sym y.refused, x.f_is ∙ ap (λ (a : Answer). a.polynomial) e ∙ sym y.f_is)

-- the same for two parts
pub parts_face_unique : {Of : Parts → Type 0} → ((x y : Parts) → Of x → Of y → x ≡ y) → {r r' : Refused} {g g' h h' : List ℕ}
    → PartsAs Of r g h → PartsAs Of r' g' h' → (r ≡ r') × (g ≡ g') × (h ≡ h')
parts_face_unique one x y =
    let e = one x.parts y.parts x.is y.is in
    (x.refused ∙ ap (λ (a : Parts). told a.outcome) e ∙ sym y.refused, x.g_is ∙ ap (λ (a : Parts). a.left) e ∙ sym y.g_is, x.h_is ∙ ap (λ (a : Parts). a.right) e ∙ sym y.h_is)

-- and for a change
pub made_face_unique : {Of : Made → Type 0} → ((x y : Made) → Of x → Of y → x ≡ y) → {r r' : Refused} {out out' : List ℕ}
    → MadeAs Of r out → MadeAs Of r' out' → (r ≡ r') × (out ≡ out')
made_face_unique one x y =
    let e = one x.made y.made x.is y.is in
    (x.refused ∙ ap (λ (a : Made). told a.outcome) e ∙ sym y.refused, x.out_is ∙ ap (λ (a : Made). a.change.unit ∷ a.change.origin ∷ []) e ∙ sym y.out_is)

pub face_check : {b f f' : List ℕ} {r r' : Refused} {m m' n n' : ℕ} → CheckedAs b r m f n → CheckedAs b r' m' f' n'
    → (r ≡ r') × (m ≡ m') × (f ≡ f') × (n ≡ n')
face_check x y =
    (x.refused ∙ sym y.refused, x.modulus_is ∙ sym y.modulus_is, x.f_is ∙ sym y.f_is, x.degree_is ∙ sym y.degree_is)

pub face_compose : (m : ℕ) (g h : List ℕ) {f f' : List ℕ} {r r' : Refused} → AnswersAs (λ x. x ≡ compose m g h) r f → AnswersAs (λ x. x ≡ compose m g h) r' f'
    → (r ≡ r') × (f ≡ f')
face_compose m g h = answer_face_unique (λ x y. compose_determined m g h)

pub face_left-part : {m : ℕ} {f h g g' : List ℕ} {r r' : Refused} → length f ≡ terms → length h ≡ terms
    → AnswersAs (LeftPartOf m f h) r g → AnswersAs (LeftPartOf m f h) r' g' → (r ≡ r') × (g ≡ g')
face_left-part lf lh = answer_face_unique (λ x y. left-part_determined lf lh)

pub face_split : {m r : ℕ} {f g h g' h' : List ℕ} {x x' : Refused} → length f ≡ terms
    → PartsAs (Splits m f r) x g h → PartsAs (Splits m f r) x' g' h' → (x ≡ x') × (g ≡ g') × (h ≡ h')
face_split lf = parts_face_unique (λ x y. split_determined lf)

pub face_change_polynomial : {m : ℕ} {f out out' : List ℕ} {c : Change} {r r' : Refused}
    → AnswersAs (ChangesPolynomial m f c) r out → AnswersAs (ChangesPolynomial m f c) r' out' → (r ≡ r') × (out ≡ out')
face_change_polynomial = answer_face_unique (λ x y. change_polynomial_determined)

pub face_change_pair : {m : ℕ} {g h left right left' right' : List ℕ} {c : Change} {r r' : Refused}
    → PartsAs (ChangesPair m g h c) r left right → PartsAs (ChangesPair m g h c) r' left' right' → (r ≡ r') × (left ≡ left') × (right ≡ right')
face_change_pair = parts_face_unique (λ x y. change_pair_determined)

pub face_combine : {m : ℕ} {c d : Change} {out out' : List ℕ} {r r' : Refused}
    → MadeAs (Combines m c d) r out → MadeAs (Combines m c d) r' out' → (r ≡ r') × (out ≡ out')
face_combine = made_face_unique (λ x y. combine_determined)

pub face_undo : {m : ℕ} {c : Change} {out out' : List ℕ} {r r' : Refused}
    → MadeAs (Undoing m c) r out → MadeAs (Undoing m c) r' out' → (r ≡ r') × (out ≡ out')
face_undo = made_face_unique (λ x y. undo_determined)

pub face_quick : {m r : ℕ} {f answer answer' : List ℕ} {x x' : Refused} → length f ≡ terms → QuickAs m f r x answer → QuickAs m f r x' answer' → (x ≡ x') × (answer ≡ answer')
face_quick lf x y =
    let e = quick_determined lf x.is y.is in
    (x.refused ∙ ap (λ (v : Verdict). told v.outcome) e ∙ sym y.refused, x.answer_is ∙ ap (λ (v : Verdict). said v.splits ∷ v.power ∷ []) e ∙ sym y.answer_is)

-- with every word of the area
pub face_chain : {m : ℕ} {f xs ys zs numbers numbers' : List ℕ} {r r' : Refused} → length f ≡ terms
    → ChainedAs m f xs ys r numbers → ChainedAs m f xs zs r' numbers' → (r ≡ r') × (numbers ≡ numbers') × (ys ≡ zs)
face_chain lf x y =
    let (e, area) = chain_determined lf x.is y.is in (
      x.refused ∙ ap (λ (a : Chained). told a.outcome) e ∙ sym y.refused,
      x.numbers_are ∙ ap (λ (a : Chained). a.parts ∷ a.tries ∷ a.price ∷ []) e ∙ sym y.numbers_are,
      area,
    )

pub face_count-chains : {m : ℕ} {f : List ℕ} {r r' : Refused} {n n' : ℕ} → length f ≡ terms → NumberedAs m f r n → NumberedAs m f r' n' → (r ≡ r') × (n ≡ n')
face_count-chains lf x y =
    let e = number_determined lf x.is y.is in
    (x.refused ∙ ap (λ (a : Numbered). told a.outcome) e ∙ sym y.refused, x.number_is ∙ ap (λ (a : Numbered). a.number) e ∙ sym y.number_is)

-- with every word of the area
pub face_nth-chain : {m j : ℕ} {f xs ys zs numbers numbers' : List ℕ} {r r' : Refused} → length f ≡ terms
    → ChosenAs m f j xs ys r numbers → ChosenAs m f j xs zs r' numbers' → (r ≡ r') × (numbers ≡ numbers') × (ys ≡ zs)
face_nth-chain lf x y =
    let (e, area) = nth_determined lf x.is y.is in (
      x.refused ∙ ap (λ (a : Chosen). told a.outcome) e ∙ sym y.refused,
      x.numbers_are ∙ ap (λ (a : Chosen). a.parts ∷ a.price ∷ []) e ∙ sym y.numbers_are,
      area,
    )

pub face_part : (xs : List ℕ) (i : ℕ) {place place' : List ℕ} → place ≡ place_of xs i → place' ≡ place_of xs i → place ≡ place'
face_part xs i e e' = e ∙ sym e'

-- with every byte of the sheet
pub face_write_sheet : {w : ℕ} {xs b c d : List ℕ} {r r' : Refused} → SheetAs w xs b c r → SheetAs w xs b d r' → (r ≡ r') × (c ≡ d)
face_write_sheet x y = let (e, sheet) = write_determined x.is y.is in (x.refused ∙ ap told e ∙ sym y.refused, sheet)

-- with every word of the area
pub face_read_sheet : {b xs ys zs f f' : List ℕ} {r r' : Refused} {m m' : ℕ} → ReadAs b xs ys r m f → ReadAs b xs zs r' m' f'
    → (r ≡ r') × (m ≡ m') × (f ≡ f') × (ys ≡ zs)
face_read_sheet x y =
    let (e, area) = read_determined x.is y.is in (
      x.refused ∙ ap (λ (a : Contents). told a.outcome) e ∙ sym y.refused,
      x.modulus_is ∙ ap (λ (a : Contents). a.modulus) e ∙ sym y.modulus_is,
      x.f_is ∙ ap (λ (a : Contents). a.polynomial) e ∙ sym y.f_is,
      area,
    )

pub face_read-text : {m : ℕ} {w f f' : List ℕ} {r r' : Refused} → AnswersAs (ReadsText m w) r f → AnswersAs (ReadsText m w) r' f' → (r ≡ r') × (f ≡ f')
face_read-text = answer_face_unique (λ x y. text-law.read_determined)

-- with every byte of the area
pub face_write_text : {m : ℕ} {f xs ys zs : List ℕ} {r r' : Refused} {n n' : ℕ} → TextAs m f xs ys r n → TextAs m f xs zs r' n' → (r ≡ r') × (n ≡ n') × (ys ≡ zs)
face_write_text x y =
    let (e, area) = text-law.write_determined x.is y.is in
    (x.refused ∙ ap (λ (a : Written). told a.outcome) e ∙ sym y.refused, x.length_is ∙ ap (λ (a : Written). a.length) e ∙ sym y.length_is, area)

-- the place of an empty part, and of any other
pub place_empty : (xs : List ℕ) (i : ℕ) → length (part_of xs i) ≡ 0 → 0 ∷ 0 ∷ [] ≡ place_of xs i
unfolding place_of
place_empty xs i e = rw e

pub place-full : (xs : List ℕ) (i : ℕ) → ¬ (length (part_of xs i) ≡ 0) → start i ∷ length (part_of xs i) ∷ [] ≡ place_of xs i
unfolding place_of
place-full xs i h = go (length (part_of xs i)) h
  where
    go : (n : ℕ) → ¬ (n ≡ 0) → start i ∷ n ∷ [] ≡ start_of n i ∷ n ∷ []
    go zero h = absurd (h refl)
    go (suc n) h = refl
