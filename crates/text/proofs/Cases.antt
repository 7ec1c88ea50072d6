-- Single texts, computed.
--
--   example, example_means     (x^2+x)^2-3*x, and that it is x^4 + 2x^3 + x^2 - 3x modulo 97
--   no-..                      texts that are not in the language
--   ninth-..                   nine open brackets: where one may open, and where none may
use mathlib.Core.Path.{◌≡◌, refl}
use mathlib.Core.List.{List, [], ◌∷◌, ◌++◌}
use Prim.Native.Nat.{ℕ, suc, ◌-◌}
use lib.ListN.{replicate}
use Rattle.algebra.specs.Number.{table}
use Rattle.algebra.specs.Polynomial.{plus, scaled, times, power, terms, limit, reduced}
use Rattle.digits.specs.Digits.{decimal, digits, most_digits}
use Rattle.text.specs.Grammar.{Sum, term, add, subtract, single, multiply, plain, raised, number, unknown, bracket, digits_value, digits_value_from}
use Rattle.text.specs.Meaning.{meaning}
use Rattle.text.specs.States.{spelling, deep, begin, step, run, good, bad, Verdict, verdict}

abbrev of : List ℕ → Verdict
of w = verdict (run 8 (begin []) w)

-- (x^2+x)^2-3*x
abbrev text : List ℕ
text = 40 ∷ 120 ∷ 94 ∷ 50 ∷ 43 ∷ 120 ∷ 41 ∷ 94 ∷ 50 ∷ 45 ∷ 51 ∷ 42 ∷ 120 ∷ []

abbrev tree : Sum
tree = subtract (term (single (raised (bracket (add (term (single (raised unknown (50 ∷ [])))) (single (plain unknown)))) (50 ∷ [])))) (multiply (single (plain (number (51 ∷ [])))) (plain unknown))

example : of text ≡ good tree
unfolding run step
example = refl

example_means : reduced 97 (meaning tree 97) ≡ 0 ∷ 94 ∷ 1 ∷ 2 ∷ 1 ∷ replicate (terms - 5) 0
unfolding reduced table terms limit meaning plus scaled times power digits_value digits_value_from
example_means = refl

-- x^2^2, +x, x--x, 2x, (), a power above the limit, a power of eleven digits, an open bracket, nothing
no-second-power : of (120 ∷ 94 ∷ 50 ∷ 94 ∷ 50 ∷ []) ≡ bad spelling
unfolding run step digits_value digits_value_from limit
no-second-power = refl

no-leading-plus : of (43 ∷ 120 ∷ []) ≡ bad spelling
unfolding run step
no-leading-plus = refl

no-two_signs : of (120 ∷ 45 ∷ 45 ∷ 120 ∷ []) ≡ bad spelling
unfolding run step
no-two_signs = refl

no-product_without : of (50 ∷ 120 ∷ []) ≡ bad spelling
unfolding run step
no-product_without = refl

no_empty_bracket : of (40 ∷ 41 ∷ []) ≡ bad spelling
unfolding run step
no_empty_bracket = refl

no-high-power : of (120 ∷ 94 ∷ decimal (suc limit)) ≡ bad spelling
unfolding run step digits_value digits_value_from limit decimal digits most_digits
no-high-power = refl

no-long-power : of (120 ∷ 94 ∷ (replicate 9 48 ++ (49 ∷ 50 ∷ []))) ≡ bad spelling
unfolding run step digits_value digits_value_from limit
no-long-power = refl

no_open_bracket : of (40 ∷ 120 ∷ []) ≡ bad spelling
unfolding run step
no_open_bracket = refl

no_text : of [] ≡ bad spelling
unfolding run
no_text = refl

-- nine brackets at the start; eight and a product without *
ninth-deep : of (replicate 9 40) ≡ bad deep
unfolding run step
ninth-deep = refl

ninth_elsewhere : of (replicate 8 40 ++ (120 ∷ 40 ∷ [])) ≡ bad spelling
unfolding run step
ninth_elsewhere = refl

-- a fault that stands first decides
ninth_late : of (43 ∷ replicate 9 40) ≡ bad spelling
unfolding run step
ninth_late = refl
