-- What the demands say of the chain and of every complete chain. Believed.
--
--   Complete m f xs ys x parts      what the parts of the chain's answer x are, and that the area ys, which was xs, hands them out
--   Carries m a b x x' ps ps'       the change (a, b) turns the parts ps into ps', and the numbers of the answers agree
--   ChainCarried m c ys ys' x x'    what the chain of f says of that of f changed by c, over the areas read back
--   NthParts m f j xs ys x parts    the same as Complete of the j-th chain
--   Appears m f x parts             these parts are the j-th chain for one j below the number, and for no other
--   without_tries x                 what the chain answers, but for the tries
--   NthCarried m a b ys ys' x x'    what the j-th chain of f says of that of f changed by (a, b)
use Rattle.std.specs.Prelude.{◌≡◌, ◌↔◌, List, [], ℕ, suc, ◌≤◌, ◌<◌, length}
use Rattle.algebra.specs.Number.{Coprime}
use Rattle.algebra.specs.Polynomial.{degree, Same}
use Rattle.algebra.specs.Pair.{Normal, Unsplit}
use Rattle.algebra.specs.Chain.{Chain, composed, part, Part, degrees, product, price, Carried}
use Rattle.algebra.specs.Every.{NthChain}
use Rattle.refusal.specs.Refusal.{Answered}
use Rattle.polynomial.specs.Checks.{Accepted}
use Rattle.change.specs.declared.Change.{Change}
use Rattle.area.specs.Area.{most_parts, area_words, written, part_of, handed_out}
use Rattle.chain.specs.Chaining.{Chained}
use Rattle.chains.specs.Choosing.{Numbered}
use Rattle.chains.specs.Choosing.{Chosen}
use Rattle.chains.specs.Choosing.{NthOf}

-- the parts of f, listed from the right: 01's chain with its tries; they compose to f, none splits further, all but the leftmost
-- have constant term 0, there are 1 to `most_parts` of them, and they stand in the area, with zeros in the unused places: read back
-- part by part, the area gives these parts, and after the last of them empty ones
pub record Complete (m : ℕ) (f xs ys : List ℕ) (x : Chained) (parts : List (List ℕ)) : Type 0 where
  pub room : area_words ≤ length xs
  pub accepted : Accepted m f
  pub coprime : Coprime (degree f) m
  pub chain : Chain m (degree f) f parts x.tries
  pub composes : Same m f (composed parts)
  pub is_part : (i : ℕ) → i < length parts → Part m (part parts i)
  pub unsplit : (i : ℕ) → i < length parts → Unsplit m (part parts i)
  pub normal : (i : ℕ) → suc i < length parts → Normal m (part parts i)
  pub multiply : product (degrees parts) ≡ degree f
  pub some : 1 ≤ length parts
  pub most : length parts ≤ most_parts
  pub count : x.parts ≡ length parts
  pub cost : x.price ≡ price parts
  pub area : ys ≡ written xs parts
  pub handed : handed_out ys x.parts ≡ parts
  pub past : (i : ℕ) → x.parts ≤ i → part_of ys i ≡ []

-- the change (a, b) carried from the right turns the parts of f into those of f'; degrees, tries and price stay
pub record Carries (m a b : ℕ) (x x' : Chained) (parts parts' : List (List ℕ)) : Type 0 where
  pub carried : Carried m a b parts parts'
  pub same_degrees : degrees parts' ≡ degrees parts
  pub same_count : x'.parts ≡ x.parts
  pub same_tries : x'.tries ≡ x.tries
  pub same_price : x'.price ≡ x.price

-- x is the answer for f and x' that for f', ys and ys' the areas afterwards: a chain for both or for neither, and a refusal is the same
-- for both; else the parts that ys' hands out are those that ys hands out with the change carried from the right, of the same
-- degrees place by place; and the numbers of the answers agree
pub record ChainCarried (m : ℕ) (c : Change) (ys ys' : List ℕ) (x x' : Chained) : Type 0 where
  pub answered : (x'.outcome ≡ Answered) ↔ (x.outcome ≡ Answered)
  pub refused : (x.outcome ≡ Answered → ⊥) → x' ≡ x
  pub carried : x.outcome ≡ Answered → Carried m c.unit c.origin (handed_out ys x.parts) (handed_out ys' x'.parts)
  pub same_degrees : x.outcome ≡ Answered → (i : ℕ) → degree (part_of ys' i) ≡ degree (part_of ys i)
  pub same_count : x'.parts ≡ x.parts
  pub same_tries : x'.tries ≡ x.tries
  pub same_price : x'.price ≡ x.price

-- the parts of the j-th chain, listed from the right: a complete chain, so that none splits, all but the leftmost have constant term
-- 0 and they compose to f; there are 1 to `most_parts` of them, and they stand in the area, with zeros in the unused places: read
-- back part by part, the area gives these parts, and after the last of them empty ones
pub record NthParts (m : ℕ) (f : List ℕ) (j : ℕ) (xs ys : List ℕ) (x : Chosen) (parts : List (List ℕ)) : Type 0 where
  pub room : area_words ≤ length xs
  pub accepted : Accepted m f
  pub coprime : Coprime (degree f) m
  pub nth : NthChain m f j parts
  pub multiply : product (degrees parts) ≡ degree f
  pub some : 1 ≤ length parts
  pub most : length parts ≤ most_parts
  pub count : x.parts ≡ length parts
  pub cost : x.price ≡ price parts
  pub area : ys ≡ written xs parts
  pub handed : handed_out ys x.parts ≡ parts
  pub past : (i : ℕ) → x.parts ≤ i → part_of ys i ≡ []

-- one j below the number: the j-th answer hands these parts out, and no other does
pub record Appears (m : ℕ) (f : List ℕ) (x : Numbered) (parts : List (List ℕ)) : Type 0 where
  pub j : ℕ
  pub below : j < x.number
  pub is : {xs ys : List ℕ} {y : Chosen} → area_words ≤ length xs → NthOf m f j xs ys y → (y.outcome ≡ Answered) × (handed_out ys y.parts ≡ parts)
  pub once : {i : ℕ} {xs ys : List ℕ} {y : Chosen} → NthOf m f i xs ys y → y.outcome ≡ Answered → handed_out ys y.parts ≡ parts → i ≡ j

-- what the chain answers, but for the tries
abbrev pub without_tries : Chained → Chosen
without_tries x = record { outcome = x.outcome; parts = x.parts; price = x.price }

-- x is the answer for f and x' that for the changed f, ys and ys' the areas afterwards: the answers are the same, and the parts that
-- ys' hands out are those that ys hands out with the change (a, b) carried from the right
pub record NthCarried (m a b : ℕ) (ys ys' : List ℕ) (x x' : Chosen) : Type 0 where
  pub same : x' ≡ x
  pub carried : x.outcome ≡ Answered → Carried m a b (handed_out ys x.parts) (handed_out ys' x'.parts)
  pub same_degrees : x.outcome ≡ Answered → degrees (handed_out ys' x'.parts) ≡ degrees (handed_out ys x.parts)
