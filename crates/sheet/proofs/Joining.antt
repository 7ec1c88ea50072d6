-- Pieces of one length, one after the other.
--
--   joined_length     how long they are
--   joined_ext        equal pieces, equal lists
--   joined-begun, joined_done     before the first piece is put, and after the last
--   put-joined, put_next      the next piece, put into its place; one turn of a loop
--   joined-past       what lies past them has not changed
--   piece             the i-th piece is g(i)
--   cut, cut_long, piece_long     a piece, as the code counts it, and its length
--   pieces            a list cut into pieces and joined
use mathlib.Core.Path.{◌≡◌, refl, sym, ap, ap₂, ◌∙◌}
use mathlib.Core.Logic.{⊎_elim}
use mathlib.Core.List.{List, ◌++◌, append_assoc}
use Prim.Native.Nat.{ℕ, zero, suc, ◌+◌, ◌*◌, ◌-◌, ◌≤◌, ◌<◌}
use native.Mathlib.Nat as N
use native.Mathlib.Omega.{arith}
use native.Mathlib.Numerals.{add-one}
use lib.ListN.{length, take, drop, length-append, length-drop}
use lib.Seq.{take_at, drop_at, drop-drop, drop-append-add, take-add, length-take-le}
use Rattle.sheet.specs.Sheet.{joined}

pub joined_ext : (n : ℕ) (g h : ℕ → List ℕ) → ((i : ℕ) → i < n → g i ≡ h i) → joined n g ≡ joined n h
unfolding joined
joined_ext zero g h e = refl
joined_ext (suc n) g h e = ap₂ ◌++◌ (joined_ext n g h (λ i l. e i (omega arith))) (e n (omega arith))

-- a list cut into pieces and joined
pub pieces : (w n : ℕ) (xs : List ℕ) → joined n (λ i. take w (drop (i * w) xs)) ≡ take (n * w) xs
unfolding joined
pieces w zero xs = ap (λ (k : ℕ). take k xs) (sym (N.zero-mul w))
pieces w (suc n) xs = ap (λ (l : List ℕ). l ++ take w (drop (n * w) xs)) (pieces w n xs) ∙ sym (take-add (n * w) w xs) ∙ ap (λ (k : ℕ). take k xs) (sym (N.suc-mul n w))

module _ (g : ℕ → List ℕ) (w : ℕ) (long : (i : ℕ) → length (g i) ≡ w) where
  pub joined_length : (n : ℕ) → length (joined n g) ≡ n * w
  unfolding joined
  joined_length zero = sym (N.zero-mul w)
  joined_length (suc n) = length-append (joined n g) (g n) ∙ ap₂ ◌+◌ (joined_length n) (long n) ∙ sym (N.suc-mul n w)

  -- the next piece, put into its place
  pub put-joined : (xs : List ℕ) (k : ℕ)
      → take (k * w) (joined k g ++ drop (k * w) xs) ++ (g k ++ drop w (drop (k * w) (joined k g ++ drop (k * w) xs))) ≡ joined (k + 1) g ++ drop ((k + 1) * w) xs
  unfolding joined
  put-joined xs k = rw (add-one k) (
      ap₂ (λ (a b : List ℕ). a ++ (g k ++ drop w b)) (take_at (joined k g) _ (k * w) (joined_length k)) (drop_at (joined k g) _ (k * w) (joined_length k))
      ∙ ap (λ (b : List ℕ). joined k g ++ (g k ++ b)) (drop-drop w (k * w) xs ∙ ap (λ (n : ℕ). drop n xs) (sym (N.suc-mul k w))) ∙ sym (append_assoc (joined k g) (g k) _))

  -- one turn of a loop that puts them
  pub put_next : (xs ys : List ℕ) (k : ℕ) {zs : List ℕ} → ys ≡ joined k g ++ drop (k * w) xs → zs ≡ take (k * w) ys ++ (g k ++ drop w (drop (k * w) ys))
      → zs ≡ joined (k + 1) g ++ drop ((k + 1) * w) xs
  put_next xs ys k e q = q ∙ ap (λ (x : List ℕ). take (k * w) x ++ (g k ++ drop w (drop (k * w) x))) e ∙ put-joined xs k

  -- past the pieces nothing has changed
  pub joined-past : (n k : ℕ) (xs : List ℕ) → n ≤ k → drop (k * w) (joined n g ++ drop (n * w) xs) ≡ drop (k * w) xs
  joined-past n k xs l =
      let e : length (joined n g) + (k * w - n * w) ≡ k * w = omega (arith, joined_length n, N.mul-le-mul_right {m = n} {n = k} w l) in
      let f : n * w + (k * w - n * w) ≡ k * w = omega (arith, N.mul-le-mul_right {m = n} {n = k} w l) in
      ap (λ (i : ℕ). drop i (joined n g ++ drop (n * w) xs)) (sym e) ∙ drop-append-add (joined n g) (drop (n * w) xs) (k * w - n * w)
      ∙ drop-drop (k * w - n * w) (n * w) xs ∙ ap (λ (i : ℕ). drop i xs) f

  -- the i-th piece
  pub piece : (n i : ℕ) (rest : List ℕ) → i < n → take w (drop (i * w) (joined n g ++ rest)) ≡ g i
  unfolding joined
  piece zero i rest l = absurd (N.not-suc-le-zero l)
  piece (suc n) i rest l =
      ap (λ (x : List ℕ). take w (drop (i * w) x)) (append_assoc (joined n g) (g n) rest)
      ∙ ⊎_elim
      (λ (e : i ≡ n). rw e (ap (take w) (drop_at (joined n g) (g n ++ rest) (n * w) (joined_length n)) ∙ take_at (g n) rest w (long n)))
      (λ (b : i < n). piece n i (g n ++ rest) b)
      (N.eq-or-lt_of_le (omega arith))

-- a piece, as the code counts it
pub cut : (w i : ℕ) (xs : List ℕ) → take (i * w + w - i * w) (drop (i * w) xs) ≡ take w (drop (i * w) xs)
cut w i xs = let e : i * w + w - i * w ≡ w = omega arith in rw e

-- its length
pub piece_long : (w n i : ℕ) (xs : List ℕ) → n * w ≤ length xs → i < n → length (take w (drop (i * w) xs)) ≡ w
piece_long w n i xs room l = length-take-le w (drop (i * w) xs) (omega (arith, length-drop (i * w) xs, N.mul-le-mul_right {m = suc i} {n = n} w l))

pub cut_long : (w n i : ℕ) (xs : List ℕ) → n * w ≤ length xs → i < n → length (take (i * w + w - i * w) (drop (i * w) xs)) ≡ w
cut_long w n i xs room l = ap length (cut w i xs) ∙ piece_long w n i xs room l

-- before the first piece, and after the last
pub joined-begun : (g : ℕ → List ℕ) (w : ℕ) (xs : List ℕ) → xs ≡ joined 0 g ++ drop (0 * w) xs
unfolding joined
joined-begun g w xs = rw (N.zero-mul w) refl

pub joined_done : (g : ℕ → List ℕ) (w : ℕ) (xs : List ℕ) {ys : List ℕ} (n : ℕ) {i : ℕ} → n ≤ i → i ≤ n → ys ≡ joined i g ++ drop (i * w) xs → ys ≡ joined n g ++ drop (n * w) xs
joined_done g w xs n {i} l k e = let z : i ≡ n = omega arith in e ∙ ap (λ (j : ℕ). joined j g ++ drop (j * w) xs) z
