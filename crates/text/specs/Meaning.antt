-- What a tree means: a polynomial, as the list of its coefficients. "Modulo m" is only a way of comparing, as in algebra.
--
--   meaning s m       the polynomial of a sum; meaning_product, _factor, _base of its parts
--   Within s m        every sum, product and power that is built on the way is low; WithinProduct, -Factor, -Base of its parts
use Rattle.std.specs.Prelude.{List, [], ◌∷◌, ℕ, ◌-◌}
use Rattle.algebra.specs.Polynomial.{plus, scaled, times, power}
use Rattle.built.specs.Built.{Low, LowPowers}
use Rattle.text.specs.Grammar.{Sum, Product, Factor, Base, term, negative, add, subtract, single, multiply, plain, raised, number, unknown, bracket, digits_value}

-- minus is m - 1 times
unfoldable mutual
  pub meaning : Sum → ℕ → List ℕ
  meaning (term p) m = meaning_product p m
  meaning (negative p) m = scaled (m - 1) (meaning_product p m)
  meaning (add s p) m = plus (meaning s m) (meaning_product p m)
  meaning (subtract s p) m = plus (meaning s m) (scaled (m - 1) (meaning_product p m))

  pub meaning_product : Product → ℕ → List ℕ
  meaning_product (single t) m = meaning_factor t m
  meaning_product (multiply p t) m = times (meaning_product p m) (meaning_factor t m)

  pub meaning_factor : Factor → ℕ → List ℕ
  meaning_factor (plain b) m = meaning_base b m
  meaning_factor (raised b c) m = power (meaning_base b m) (digits_value c)

  pub meaning_base : Base → ℕ → List ℕ
  meaning_base (number c) m = digits_value c ∷ []
  meaning_base unknown m = 0 ∷ 1 ∷ []
  meaning_base (bracket s) m = meaning s m

-- one term, one factor at a time; a power by its base, from base^1 on
unfoldable mutual
  pub Within : Sum → ℕ → Type 0
  Within (term p) m = WithinProduct p m
  Within (negative p) m = WithinProduct p m
  Within (add s p) m = Within s m × WithinProduct p m × Low m (meaning (add s p) m)
  Within (subtract s p) m = Within s m × WithinProduct p m × Low m (meaning (subtract s p) m)

  pub WithinProduct : Product → ℕ → Type 0
  WithinProduct (single t) m = WithinFactor t m
  WithinProduct (multiply p t) m = WithinProduct p m × WithinFactor t m × Low m (meaning_product (multiply p t) m)

  pub WithinFactor : Factor → ℕ → Type 0
  WithinFactor (plain b) m = WithinBase b m
  WithinFactor (raised b c) m = WithinBase b m × LowPowers m (meaning_base b m) (digits_value c)

  pub WithinBase : Base → ℕ → Type 0
  WithinBase (number c) m = Unit
  WithinBase unknown m = Unit
  WithinBase (bracket s) m = Within s m
