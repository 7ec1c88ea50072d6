-- The grammar of typed polynomials, as trees: a text of the language is the spelling of a tree that keeps the limits.
--
--   Sum, Product, Factor, Base        the trees: sums and differences of products, products of factors, a factor with or without a power
--   spell s                           the bytes of a sum; spell_product, _factor, _base of its parts
--   digits_value c                    the number that decimal digits stand for
--   number_digits, most_power, most_deep    the limits
--   Decimal c                         1 to 10 bytes, each a digit
--   Fits s most d                     s keeps the limits where d brackets are open around it and `most` may be open at once
use Rattle.std.specs.Prelude.{List, [], ◌∷◌, ◌++◌, ℕ, suc, ◌+◌, ◌*◌, ◌-◌, ◌≤◌, ◌<◌, length}
use Rattle.algebra.specs.Polynomial.{limit}

-- + - * ^ ( ) x and 0 to 9, in ASCII
abbrev pub plus_byte : ℕ
plus_byte = 43

abbrev pub minus_byte : ℕ
minus_byte = 45

abbrev pub times_byte : ℕ
times_byte = 42

abbrev pub power_byte : ℕ
power_byte = 94

abbrev pub open_byte : ℕ
open_byte = 40

abbrev pub close_byte : ℕ
close_byte = 41

abbrev pub x_byte : ℕ
x_byte = 120

abbrev pub zero_byte : ℕ
zero_byte = 48

abbrev pub nine_byte : ℕ
nine_byte = 57

-- the trees
mutual
  -- built from the left, a product at a time; a minus at the start belongs to the first product
  pub data Sum : Type 0 where
    term : Product → Sum
    negative : Product → Sum
    add : Sum → Product → Sum
    subtract : Sum → Product → Sum

  -- built from the left, a factor at a time
  pub data Product : Type 0 where
    single : Factor → Product
    multiply : Product → Factor → Product

  -- the digits of the power
  pub data Factor : Type 0 where
    plain : Base → Factor
    raised : Base → List ℕ → Factor

  -- a number by its digits, x, or a sum in brackets
  pub data Base : Type 0 where
    number : List ℕ → Base
    unknown : Base
    bracket : Sum → Base

-- the bytes of a tree, left to right
unfoldable mutual
  pub spell : Sum → List ℕ
  spell (term p) = spell_product p
  spell (negative p) = minus_byte ∷ spell_product p
  spell (add s p) = spell s ++ (plus_byte ∷ spell_product p)
  spell (subtract s p) = spell s ++ (minus_byte ∷ spell_product p)

  pub spell_product : Product → List ℕ
  spell_product (single t) = spell_factor t
  spell_product (multiply p t) = spell_product p ++ (times_byte ∷ spell_factor t)

  pub spell_factor : Factor → List ℕ
  spell_factor (plain b) = spell_base b
  spell_factor (raised b c) = spell_base b ++ (power_byte ∷ c)

  pub spell_base : Base → List ℕ
  spell_base (number c) = c
  spell_base unknown = x_byte ∷ []
  spell_base (bracket s) = open_byte ∷ (spell s ++ (close_byte ∷ []))

-- the number v, and then the digits c
unfoldable pub digits_value_from : ℕ → List ℕ → ℕ
digits_value_from v [] = v
digits_value_from v (b ∷ c) = digits_value_from (10 * v + (b - zero_byte)) c

-- the number of the digits c; leading zeros change nothing
unfoldable pub digits_value : List ℕ → ℕ
digits_value c = digits_value_from 0 c

-- the most digits of a number, leading zeros too
abbrev pub number_digits : ℕ
number_digits = 10

-- the highest power: the limit of a degree
abbrev pub most_power : ℕ
most_power = limit

-- the most brackets that are open at once
abbrev pub most_deep : ℕ
most_deep = 8

-- each byte is one of 0 .. 9
unfoldable pub AllDigits : List ℕ → Type 0
AllDigits [] = Unit
AllDigits (b ∷ c) = (zero_byte ≤ b) × (b ≤ nine_byte) × AllDigits c

-- a number as it is written
pub record Decimal (c : List ℕ) : Type 0 where
  pub digits : AllDigits c
  pub some : 1 ≤ length c
  pub few : length c ≤ number_digits

-- numbers, powers and brackets keep their limits
unfoldable mutual
  pub Fits : Sum → ℕ → ℕ → Type 0
  Fits (term p) most d = FitsProduct p most d
  Fits (negative p) most d = FitsProduct p most d
  Fits (add s p) most d = Fits s most d × FitsProduct p most d
  Fits (subtract s p) most d = Fits s most d × FitsProduct p most d

  pub FitsProduct : Product → ℕ → ℕ → Type 0
  FitsProduct (single t) most d = FitsFactor t most d
  FitsProduct (multiply p t) most d = FitsProduct p most d × FitsFactor t most d

  pub FitsFactor : Factor → ℕ → ℕ → Type 0
  FitsFactor (plain b) most d = FitsBase b most d
  FitsFactor (raised b c) most d = FitsBase b most d × Decimal c × (digits_value c ≤ most_power)

  pub FitsBase : Base → ℕ → ℕ → Type 0
  FitsBase (number c) most d = Decimal c
  FitsBase unknown most d = Unit
  FitsBase (bracket s) most d = (d < most) × Fits s most (suc d)
