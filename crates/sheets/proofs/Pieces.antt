-- Sheets one after the other.
--
--   front             a piece that lies in the first list
--   put-here, put-before, put-past     a piece that was put into its place, those before it, and what lies past it
use mathlib.Core.Path.{◌≡◌, sym, ap, ◌∙◌}
use mathlib.Core.List.{List, ◌++◌}
use Prim.Native.Nat.{ℕ, suc, ◌+◌, ◌*◌, ◌≤◌, ◌<◌}
use native.Mathlib.Nat as N
use native.Mathlib.Omega.{arith}
use lib.ListN.{length, take, drop, take-append-drop, length-drop}
use lib.Seq.{take_at, drop_at, drop-drop, take-append-le, drop-append-le, length-take-le}

module _ (w : ℕ) where
  -- a piece that lies in the first list
  pub front : (p q : List ℕ) (j : ℕ) → suc j * w ≤ length p → take w (drop (j * w) (p ++ q)) ≡ take w (drop (j * w) p)
  front p q j l =
      let e = N.suc-mul j w in
      ap (take w) (drop-append-le (j * w) p q (omega arith)) ∙ take-append-le w (drop (j * w) p) q (omega (arith, length-drop (j * w) p))

  module _ (xs c : List ℕ) (k : ℕ) (room : k * w ≤ length xs) (long : length c ≡ w) where
    before : length (take (k * w) xs) ≡ k * w
    before = length-take-le (k * w) xs room

    -- xs with c in place k
    abbrev pub put : List ℕ
    put = take (k * w) xs ++ (c ++ drop w (drop (k * w) xs))

    pub put-here : take w (drop (k * w) put) ≡ c
    put-here = ap (take w) (drop_at (take (k * w) xs) _ (k * w) before) ∙ take_at c _ w long

    pub put-before : (j : ℕ) → j < k → take w (drop (j * w) put) ≡ take w (drop (j * w) xs)
    put-before j l =
        let fits : suc j * w ≤ length (take (k * w) xs) = omega (arith, before, N.mul-le-mul_right {m = suc j} {n = k} w l) in
        front (take (k * w) xs) _ j fits ∙ sym (front (take (k * w) xs) (drop (k * w) xs) j fits) ∙ ap (λ (l : List ℕ). take w (drop (j * w) l)) (take-append-drop (k * w) xs)

    pub put-past : drop ((k + 1) * w) put ≡ drop ((k + 1) * w) xs
    put-past =
        let e : (k + 1) * w ≡ k * w + w = N.add-mul k 1 w ∙ ap (λ (n : ℕ). k * w + n) (N.one-mul w) in
        rw e (sym (drop-drop w (k * w) put) ∙ ap (drop w) (drop_at (take (k * w) xs) _ (k * w) before) ∙ drop_at c _ w long ∙ drop-drop w (k * w) xs)
