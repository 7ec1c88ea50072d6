-- The chain area: a lent area of words, of which the first `area_words` are the places of the parts, left to right.
--
--   most_parts           how many parts a chain has at the most
--   area_words           how many words are used
--   start i              where place i starts
--   place xs i           the words of place i
--   put_at xs i p        xs with p in place i
--   cleared xs           xs with all places zero
--   laid parts           the words of the parts, left to right (they are listed from the right)
--   written xs parts     xs with the parts in its first places, zeros in the unused ones, and the words past them as they were
--   all_zero xs          whether every word is zero
--   if_so test p         p, or none
--   part_of xs i         part i as it is handed out: the words of place i, or none
--   handed_out xs k      the parts 0 to k - 1 of xs as they are handed out, listed from the right
use Rattle.std.specs.Prelude.{Bool, true, false, not, ◌&&◌, List, [], ◌∷◌, ◌++◌, ℕ, zero, suc, ◌*◌, ltb, leb, eqb, length, take, drop, replicate}
use Rattle.algebra.specs.Polynomial.{terms}

-- 2^6 fits under the limit, 2^7 does not
unfoldable pub most_parts : ℕ
most_parts = 6

-- a place for each part
unfoldable pub area_words : ℕ
area_words = most_parts * terms

-- where place i starts: after the places before it
abbrev pub start : ℕ → ℕ
start i = i * terms

-- the words of place i
abbrev pub place : List ℕ → ℕ → List ℕ
place xs i = take terms (drop (start i) xs)

-- p in place i, and nothing else changed
unfoldable pub put_at : List ℕ → ℕ → List ℕ → List ℕ
put_at xs i p = take (start i) xs ++ (p ++ drop terms (drop (start i) xs))

-- the used words are zero, and the others as they were
unfoldable pub cleared : List ℕ → List ℕ
cleared xs = replicate area_words 0 ++ drop area_words xs

-- the leftmost part, which is listed last, comes first
unfoldable pub laid : List (List ℕ) → List ℕ
laid [] = []
laid (p ∷ parts) = laid parts ++ p

-- the area after a chain
unfoldable pub written : List ℕ → List (List ℕ) → List ℕ
written xs parts = laid parts ++ drop (length (laid parts)) (cleared xs)

-- every word is zero
unfoldable pub all_zero : List ℕ → Bool
all_zero [] = true
all_zero (x ∷ xs) = eqb x 0 && all_zero xs

-- the words, if the test holds, and else none
abbrev pub if_so : Bool → List ℕ → List ℕ
if_so true p = p
if_so false p = []

-- none if i is no place, the area is too short, or the words are all zero
unfoldable pub part_of : List ℕ → ℕ → List ℕ
part_of xs i = if_so (ltb i most_parts && leb area_words (length xs) && not (all_zero (place xs i))) (place xs i)

-- part k - 1, the one next to x, comes first
unfoldable pub handed_out : List ℕ → ℕ → List (List ℕ)
handed_out xs zero = []
handed_out xs (suc k) = part_of xs k ∷ handed_out xs k
