-- The modulus: a word at the operations, and the number it means everywhere below them.
--
--   machine_words        how many machine words there are: the modulus 2^32, at which their sums and differences run round
--   modulus w            the number that the modulus word w means
--   smallest, largest    the other moduli that the desk takes
--   check_modulus m      No. 1
use Rattle.std.specs.Prelude.{not, ◌&&◌, ◌||◌, ℕ, zero, suc, ◌^◌, ltb, eqb}
use Rattle.refusal.specs.Refusal.{refuse}
use Rattle.refusal.specs.declared.Concerns.TheVariants.{Neither}
use Rattle.refusal.specs.declared.Reason.TheVariants.{Modulus}
use Rattle.refusal.specs.Refusal.{Outcome}

-- as many as there are machine words
unfoldable pub machine_words : ℕ
machine_words = 2 ^ 32

-- 0 means 2^32, and every other word itself
unfoldable pub modulus : ℕ → ℕ
modulus zero = machine_words
modulus (suc w) = suc w

-- the smallest modulus
unfoldable pub smallest : ℕ
smallest = 2

-- the largest modulus but 2^32
unfoldable pub largest : ℕ
largest = 2147483647

-- m is not 2^32, and below the smallest modulus or above the largest
unfoldable pub check_modulus : ℕ → Outcome
check_modulus m = refuse (not (eqb m machine_words) && (ltb m smallest || ltb largest m)) Neither Modulus
