-- Where a reader stands in a text: what the contracts of the readers cite. Nothing here has to be believed: proofs/Exact shows that it tells the language.
--
--   Before, Left, Frame     what stands before the product, the factor that is being read; both
--   State                   the open brackets' frames, innermost first, the frame, and what was read of the factor
--   step most q b           the state after the byte b
--   run most q s            the state after the bytes s
--   at_product st b p, at_sum st s     the state after a product, after a sum
--   verdict q               what the state says of a text that ends here
use Rattle.std.specs.Prelude.{Bool, cond, ◌&&◌, List, [], ◌∷◌, ◌++◌, ℕ, ltb, leb, eqb, length}
use Rattle.text.specs.Grammar.{Sum, Product, Factor, Base, term, negative, add, subtract, single, multiply, plain, raised, number, unknown, bracket, digits_value, number_digits, most_power, plus_byte, minus_byte, times_byte, power_byte, open_byte, close_byte, x_byte, zero_byte, nine_byte}

-- before a product: nothing yet, a minus, a sum and a plus, a sum and a minus
pub data Before : Type 0 where
  nothing : Before
  minus : Before
  plus : Sum → Before
  less : Sum → Before

-- before a factor: nothing, a product and a *
pub data Left : Type 0 where
  none : Left
  some : Product → Left

pub data Frame : Type 0 where
  frame : Before → Left → Frame

pub data Fault : Type 0 where
  spelling : Fault
  deep : Fault

-- a sum has to begin; a factor has to begin; the digits of a power have to begin; a factor that may end here; a fault
pub data State : Type 0 where
  begin : List Frame → State
  expect : List Frame → Frame → State
  caret : List Frame → Frame → Base → State
  factor : List Frame → Frame → Factor → State
  stuck : Fault → State

abbrev pub fresh : Frame
fresh = frame nothing none

abbrev pub to_sum : Before → Product → Sum
to_sum nothing p = term p
to_sum minus p = negative p
to_sum (plus s) p = add s p
to_sum (less s) p = subtract s p

abbrev pub to_product : Left → Factor → Product
to_product none t = single t
to_product (some p) t = multiply p t

abbrev pub joined : Frame → Factor → Sum
joined (frame b l) t = to_sum b (to_product l t)

abbrev pub timed : Frame → Factor → Frame
timed (frame b l) t = frame b (some (to_product l t))

abbrev pub is_digit : ℕ → Bool
is_digit b = leb zero_byte b && leb b nine_byte

-- a digit, x or a bracket
abbrev pub opening : ℕ → List Frame → Frame → ℕ → State
opening most st f b =
    cond (is_digit b) (factor st f (plain (number (b ∷ []))))
    (cond (eqb b x_byte) (factor st f (plain unknown))
    (cond (eqb b open_byte) (cond (ltb (length st) most) (begin (f ∷ st)) (stuck deep)) (stuck spelling)))

abbrev pub longer : List Frame → Frame → Factor → ℕ → State
longer st f (plain (number c)) b = cond (ltb (length c) number_digits) (factor st f (plain (number (c ++ (b ∷ []))))) (stuck spelling)
longer st f (plain unknown) b = stuck spelling
longer st f (plain (bracket s)) b = stuck spelling
longer st f (raised a c) b = cond (ltb (length c) number_digits) (cond (leb (digits_value (c ++ (b ∷ []))) most_power) (factor st f (raised a (c ++ (b ∷ [])))) (stuck spelling)) (stuck spelling)

abbrev pub powered : List Frame → Frame → Factor → State
powered st f (plain b) = caret st f b
powered st f (raised b c) = stuck spelling

abbrev pub closed : List Frame → Sum → State
closed [] s = stuck spelling
closed (f ∷ st) s = factor st f (plain (bracket s))

abbrev pub after : List Frame → Frame → Factor → ℕ → State
after st f t b =
    cond (eqb b plus_byte) (expect st (frame (plus (joined f t)) none))
    (cond (eqb b minus_byte) (expect st (frame (less (joined f t)) none))
    (cond (eqb b times_byte) (expect st (timed f t))
    (cond (eqb b close_byte) (closed st (joined f t)) (stuck spelling))))

unfoldable pub step : ℕ → State → ℕ → State
step most (begin st) b = cond (eqb b minus_byte) (expect st (frame minus none)) (opening most st fresh b)
step most (expect st f) b = opening most st f b
step most (caret st f a) b = cond (is_digit b) (factor st f (raised a (b ∷ []))) (stuck spelling)
step most (factor st f t) b = cond (is_digit b) (longer st f t b) (cond (eqb b power_byte) (powered st f t) (after st f t b))
step most (stuck e) b = stuck e

unfoldable pub run : ℕ → State → List ℕ → State
run most q [] = q
run most q (b ∷ s) = run most (step most q b) s

-- after a product that stands behind b
abbrev pub at_product : List Frame → Before → Product → State
at_product st b (single t) = factor st (frame b none) t
at_product st b (multiply p t) = factor st (frame b (some p)) t

-- after a sum
abbrev pub at_sum : List Frame → Sum → State
at_sum st (term p) = at_product st nothing p
at_sum st (negative p) = at_product st minus p
at_sum st (add s p) = at_product st (plus s) p
at_sum st (subtract s p) = at_product st (less s) p

pub data Verdict : Type 0 where
  good : Sum → Verdict
  bad : Fault → Verdict

-- a factor that may end, and no open bracket
abbrev pub verdict : State → Verdict
verdict (begin st) = bad spelling
verdict (expect st f) = bad spelling
verdict (caret st f a) = bad spelling
verdict (factor [] f t) = good (joined f t)
verdict (factor (g ∷ st) f t) = bad spelling
verdict (stuck e) = bad e
