-- The change (a, b) of unit and origin: x becomes a·x + b. No inverse is needed to say it.
--
--   Changed m n a b f f'               f' = a^(-n)·f(a·x + b)
--   ChangedRight m s a b h h'          h' = a^(-s)·(h(a·x + b) - h(b))
--   ChangedPair m r s a b g h g' h'    h' so, and g' = a^(-rs)·g(a^s·x + h(b))
--   combined_unit, combined_origin     first (a, b), then (c, d)
--   Undoes m a b u v                   first (a, b), then (u, v), is (1, 0)
use Rattle.std.specs.Prelude.{◌≡◌, List, [], ◌∷◌, ℕ, ◌+◌, ◌*◌, ◌^◌, ◌%◌}
use Rattle.algebra.specs.Polynomial.{plus, scaled, after, value, Same}

-- a^n·f' = f(a·x + b)
pub record Changed (m n a b : ℕ) (f f' : List ℕ) : Type 0 where
  pub same : Same m (scaled (a ^ n) f') (after f (b ∷ a ∷ []))

-- h(b) + a^s·h' = h(a·x + b)
pub record ChangedRight (m s a b : ℕ) (h h' : List ℕ) : Type 0 where
  pub same : Same m (plus (value h b ∷ []) (scaled (a ^ s) h')) (after h (b ∷ a ∷ []))

-- h is changed as a right part and hands (a^s, h(b)) to g
pub record ChangedPair (m r s a b : ℕ) (g h g' h' : List ℕ) : Type 0 where
  pub left : Changed m r (a ^ s) (value h b) g g'
  pub right : ChangedRight m s a b h h'

-- the unit of first (a, b), then (c, d)
abbrev pub combined_unit : ℕ → ℕ → ℕ → ℕ → ℕ
combined_unit a b c d = a * c

-- and its origin
abbrev pub combined_origin : ℕ → ℕ → ℕ → ℕ → ℕ
combined_origin a b c d = a * d + b

-- combined with (a, b), it is (1, 0) modulo m
pub record Undoes (m a b u v : ℕ) : Type 0 where
  pub unit : combined_unit a b u v % m ≡ 1 % m
  pub origin : combined_origin a b u v % m ≡ 0 % m
