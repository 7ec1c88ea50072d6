-- A polynomial as text.
--
--   term_text c i       c*x^i in plain decimals
--   lower k f           + and the term, for each nonzero coefficient of f below x^k, highest first
--   text_of f           the text of f: the term of its degree, and then the lower ones
--   most_term, most_text    the most bytes of a term, and of a text
use Rattle.std.specs.Prelude.{cond, List, [], ◌∷◌, ◌++◌, ℕ, zero, suc, ◌+◌, ◌*◌, eqb}
use Rattle.algebra.specs.Polynomial.{coef, degree, terms}
use Rattle.digits.specs.Digits.{decimal, most_digits}
use Rattle.text.specs.Grammar.{plus_byte, times_byte, power_byte, x_byte}

-- nothing shortened: x^2 is 1*x^2, and 3 is 3*x^0
unfoldable pub term_text : ℕ → ℕ → List ℕ
term_text c i = decimal c ++ (times_byte ∷ x_byte ∷ power_byte ∷ decimal i)

-- nothing for a zero
unfoldable pub lower_term : ℕ → ℕ → List ℕ
lower_term c i = cond (eqb c 0) [] (plus_byte ∷ term_text c i)

-- the terms below x^k, highest first
unfoldable pub lower : ℕ → List ℕ → List ℕ
lower zero f = []
lower (suc k) f = lower_term (coef f k) k ++ lower k f

-- a polynomial that is not zero
unfoldable pub text_of : List ℕ → List ℕ
text_of f = term_text (coef f (degree f)) (degree f) ++ lower (degree f) f

-- two numbers, and three bytes between them
unfoldable pub most_term : ℕ
most_term = most_digits + 3 + most_digits

-- each with its +
unfoldable pub most_text : ℕ
most_text = (1 + most_term) * terms
