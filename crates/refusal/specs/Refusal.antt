-- 01's number, polynomial and power for each case of a refusal, and how checks follow each other.
--
--   number reason                01's number
--   polynomial concerns          0 neither, 1 the first, 2 the second, 16 + i the one in place i
--   power reason                 the lowest offending power of x for No. 2, and 0 for all others
--   Outcome                      what a check says: a Result with nothing but a refusal in it
--   Answered, Refused r          that it does not refuse; that it refuses by r
--   naming_none reason           the refusal for this reason that names no polynomial
--   refusal concerns reason      the outcome that is this refusal
--   refuse test concerns reason  this refusal if the test holds
--   a then b                     the checks a and then b: the first that refuses decides
--   is_refused outcome           whether it is a refusal
--   number_of outcome            01's number of it: 0 for an answer
use Rattle.std.specs.Prelude.{Bool, true, false, ℕ, ◌+◌, Result, Ok, Err}
use Rattle.refusal.specs.declared.Concerns.{Concerns}
use Rattle.refusal.specs.declared.Concerns.TheVariants.{Neither, First, Second, Place}
use Rattle.refusal.specs.declared.Reason.{Reason}
use Rattle.refusal.specs.declared.Reason.TheVariants.{Modulus, Coefficient, Degree, Leading, Factor, Fit, NoPair, Change, Short, Limit, Area, Sheet, Spelling, Depth, Beyond}
use Rattle.refusal.specs.declared.Refusal.{Refusal}

-- what a check says, and whatever an operation says beside its answer
abbrev pub Outcome : Type 0
Outcome = Result Unit Refusal

-- it does not refuse
abbrev pub Answered : Outcome
Answered = Ok tt

-- it refuses by r
abbrev pub Refused : Refusal → Outcome
Refused r = Err r

-- 01's table, and what 02 adds to it
abbrev pub number : Reason → ℕ
number Modulus = 1
number (Coefficient i) = 2
number Degree = 3
number Leading = 4
number Factor = 5
number Fit = 6
number NoPair = 7
number Change = 8
number Short = 9
number Limit = 10
number Area = 11
number Sheet = 12
number Spelling = 13
number Depth = 14
number Beyond = 18

-- which polynomial, as a number
abbrev pub polynomial : Concerns → ℕ
polynomial Neither = 0
polynomial First = 1
polynomial Second = 2
polynomial (Place i) = 16 + i

-- only No. 2 has a power
abbrev pub power : Reason → ℕ
power Modulus = 0
power (Coefficient i) = i
power Degree = 0
power Leading = 0
power Factor = 0
power Fit = 0
power NoPair = 0
power Change = 0
power Short = 0
power Limit = 0
power Area = 0
power Sheet = 0
power Spelling = 0
power Depth = 0
power Beyond = 0

-- a refusal that names neither polynomial
abbrev pub naming_none : Reason → Refusal
naming_none r = record { concerns = Neither; reason = r }

-- the outcome that is this refusal
abbrev pub refusal : Concerns → Reason → Outcome
refusal c r = Refused (record { concerns = c; reason = r })

-- this refusal if the test holds
abbrev pub refuse : Bool → Concerns → Reason → Outcome
refuse true c r = refusal c r
refuse false c r = Answered

-- the first check that refuses decides
infixr 20 ◌then◌
abbrev pub ◌then◌ : Outcome → Outcome → Outcome
Ok x then b = b
Err r then b = Err r

-- whether it is a refusal
abbrev pub is_refused : Outcome → Bool
is_refused (Ok x) = false
is_refused (Err r) = true

-- 0 for an answer
abbrev pub number_of : Outcome → ℕ
number_of (Ok x) = 0
number_of (Err r) = number r.reason
