-- Repeated division by h (document 001, 3.1): a polynomial's digits in powers of h, worked out in place. Only leaves need this.
--
--   Begins m s k q g        the first k coefficients of g are the constants of q's lowest k digits
--   Lowest m h s k p q t    t: p = g(h) exactly if g begins so and the quotient, above these digits, is the rest of g, after h;
--                           else p is no g(h)
--   Digits m h s p q t      t: p = g(h) exactly if the coefficients of g are the constants of q's digits; else p is no g(h)
use Rattle.std.specs.Prelude.{◌≡◌, ◌↔◌, Bool, true, false, List, ℕ, ◌*◌, ◌%◌, ◌<◌, length, drop}
use Rattle.algebra.specs.Polynomial.{coef, after, Same}

-- g has the digits' constants as far as k
abbrev pub Begins : ℕ → ℕ → ℕ → List ℕ → List ℕ → Type 0
Begins m s k q g = (i : ℕ) → i < k → coef g i % m ≡ coef q (i * s) % m

-- the lowest k digits are taken off: what is left to ask is asked of the quotient
pub record Lowest (m : ℕ) (h : List ℕ) (s k : ℕ) (p q : List ℕ) (t : Bool) : Type 0 where
  pub long : length q ≡ length p
  pub below : (i : ℕ) → coef q i < m
  pub yes : t ≡ true → (g : List ℕ) → Same m p (after g h) ↔ (Begins m s k q g × Same m (drop (k * s) q) (after (drop k g) h))
  pub no : t ≡ false → (g : List ℕ) → Same m p (after g h) → ⊥

-- all digits are found: nothing is left to ask
pub record Digits (m : ℕ) (h : List ℕ) (s : ℕ) (p q : List ℕ) (t : Bool) : Type 0 where
  pub long : length q ≡ length p
  pub below : (i : ℕ) → coef q i < m
  pub yes : t ≡ true → (g : List ℕ) → Same m p (after g h) ↔ ((i : ℕ) → coef g i % m ≡ coef q (i * s) % m)
  pub no : t ≡ false → (g : List ℕ) → Same m p (after g h) → ⊥
