-- The readers, one law for each return and each turn of a loop.
--
--   base-..                              a base: x, a number, a bracket
--   factor-..                            a factor: with a power or without
--   product-.., sum-..                   a product, a sum: the first, one more, the end
use mathlib.Core.Path.{◌≡◌, refl, sym, ap, ◌∙◌}
use mathlib.Core.Logic.{◌⊎◌, ⊎_elim}
use mathlib.Core.List.{List, ◌∷◌}
use Prim.Native.Nat.{ℕ, ◌+◌, ◌-◌, ◌≤◌, ◌<◌}
use native.Mathlib.Omega.{arith}
use native.Mathlib.Decide.{dec_lt}
use borrow.Author.Tests.{eqb-true, ne_eqb, lt-ltb, le-ltb}
use lib.Dec.{eqb}
use lib.ListN.{length, drop, get_or}
use Rattle.algebra.specs.Polynomial.{limit, times, reduced}
use Rattle.built.specs.declared.Built.{Built}
use Rattle.built.specs.Built.{BuiltAs, Joins}
use Rattle.built.specs.Built as built-specs
use Rattle.built.proofs.Joining.{as_single, as_plus, as_less, as_times, as_scaled, as_power}
use Rattle.phrase.specs.declared.Fault.{Fault}
use Rattle.phrase.specs.declared.Fault.TheVariants.{Spelling, Depth}
use Rattle.std.specs.Prelude.{Option, Some, None, Result, Ok, Err}
use Rattle.numeral.specs.Counting.{Counted, Uncounted, ended, other, long, CountsPower}
use Rattle.text.specs.Grammar.{Sum, Product, Factor, Base, term, negative, add, subtract, single, multiply, plain, raised, number, unknown, bracket, most_deep}
use Rattle.text.specs.Grammar as grammar
use Rattle.text.specs.Meaning.{meaning, Within}
use Rattle.text.specs.States.{Before, nothing, minus, less, none, some, Frame, frame, spelling, deep, begin, expect, caret, factor, stuck, fresh, is_digit, longer, powered, step, run, at_product, at_sum, bad, verdict}
use Rattle.text.specs.States as states
use Rattle.phrase.specs.Reading.{a_base, a_factor, a_product, a_sum, before_of, Only, Done, Fails, Reads, Adds}
use Rattle.text.proofs.Spelling.{run-append, run-stuck, product-times, sum-plus, sum_less, sum_close, number-run, raised-run, same_step}
use Rattle.text.proofs.Running.{run_at, run_out, run-byte, run-fault, number-long}
use Rattle.text.proofs.Reached.{by_cond, digit_bounds}

-- ---- what may follow

module _ (st : List Frame) (f : Frame) where
  -- no digit and no ^ goes on
  only_factor : (t : Factor) (b : ℕ) → (48 ≤ b → b ≤ 57 → longer st f t b ≡ stuck spelling) → (b ≡ 94 → powered st f t ≡ stuck spelling) → Only a_factor (factor st f t) b
  unfolding step
  only_factor t b h g n42 n43 n45 n41 =
      by_cond (λ q. q ≡ stuck spelling) (is_digit b) (λ e. h (digit_bounds b e).0 (digit_bounds b e).1)
      (λ e. by_cond (λ q. q ≡ stuck spelling) (eqb b 94) (λ x. g (eqb-true b 94 x)) (λ x. simp (ne_eqb b 43 n43, ne_eqb b 45 n45, ne_eqb b 42 n42, ne_eqb b 41 n41)))

  only_base : (a : Base) (b : ℕ) → (48 ≤ b → b ≤ 57 → longer st f (plain a) b ≡ stuck spelling) → Only a_base (factor st f (plain a)) b
  only_base a b h n94 = only_factor (plain a) b h (λ e. absurd (n94 e))

-- ---- bases

module _ (m : ℕ) (s : List ℕ) (at d : ℕ) where
  pub base-deep : at < length s → get_or s at 0 ≡ 40 → 8 ≤ d → Fails a_base s at d Depth
  unfolding step
  base-deep l b h st f z = run-fault (expect st f) s at deep l (ap (step most_deep (expect st f)) b ∙ rw (le-ltb (length st) 8 (omega arith)) refl)

  pub base_x : {v : Built} → at < length s → get_or s at 0 ≡ 120 → v.coefficients ≡ reduced m (built-specs.single 1 1) → Done a_base a_base m s at d (at + 1) (Some v)
  unfolding step meaning Within built-specs.single limit
  base_x l b e =
      record {
        tree = unknown;
        ahead = omega arith;
        inside = omega arith;
        held = as_single m 1 1 (omega arith) e;
        leads = λ st f z. run-byte (expect st f) (factor st f (plain unknown)) s at 120 l b refl;
        ends = λ st f z. only_base st f unknown (get_or s (at + 1) 0) (λ x y. refl);
      }

  -- the byte is no digit, x or bracket
  base-other : (st : List Frame) (f : Frame) → (48 ≤ get_or s at 0 → get_or s at 0 ≤ 57 → ⊥) → (get_or s at 0 ≡ 40 → ⊥) → (get_or s at 0 ≡ 120 → ⊥) → step most_deep (expect st f) (get_or s at 0) ≡ stuck spelling
  unfolding step
  base-other st f h n40 n120 =
      by_cond (λ q. q ≡ stuck spelling) (is_digit (get_or s at 0)) (λ e. absurd (h (digit_bounds (get_or s at 0) e).0 (digit_bounds (get_or s at 0) e).1))
      (λ e. simp (ne_eqb (get_or s at 0) 120 n120, ne_eqb (get_or s at 0) 40 n40))

  pub base-unnumbered : Uncounted s at → (at < length s → get_or s at 0 ≡ 40 → ⊥) → (at < length s → get_or s at 0 ≡ 120 → ⊥) → Fails a_base s at d Spelling
  base-unnumbered (ended l) n40 n120 st f z = ap verdict (run_out (expect st f) s at l)
  base-unnumbered (other l h) n40 n120 st f z = run-fault (expect st f) s at spelling l (base-other st f h (n40 l) (n120 l))
  base-unnumbered (long c rest a l t) n40 n120 st f z =
      ap verdict (ap (run most_deep (expect st f)) t ∙ run-append most_deep (expect st f) c rest ∙ ap (λ q. run most_deep q rest) (number-long st f c a l) ∙ run-stuck most_deep spelling rest)

  pub base-number : {next n : ℕ} {v : Built} → Counted s at next n → v.coefficients ≡ reduced m (built-specs.single n 0) → Done a_base a_base m s at d next (Some v)
  unfolding meaning Within built-specs.single
  base-number {next} {n} {v} c e =
      record {
        tree = number c.bytes;
        ahead = c.ahead;
        inside = c.inside;
        held = rw c.is at (as_single m n 0 {v = v} (omega arith) e);
        leads = λ st f z. ap (run most_deep (expect st f)) c.text ∙ run-append most_deep (expect st f) c.bytes (drop next s) ∙ ap (λ q. run most_deep q (drop next s)) (number-run most_deep st f c.bytes c.digits);
        ends = λ st f z. only_base st f (number c.bytes) (get_or s next 0) (λ x y. absurd (c.ends z x y));
      }

  -- a bracket
  module _ (l : at < length s) (b : get_or s at 0 ≡ 40) (few : d < 8) where
    opened : (st : List Frame) (f : Frame) → length st ≡ d → run most_deep (expect st f) (drop at s) ≡ run most_deep (begin (f ∷ st)) (drop (at + 1) s)
    unfolding step
    opened st f e = run-byte (expect st f) (begin (f ∷ st)) s at 40 l b (rw (lt-ltb (length st) 8 (omega arith)) refl)

    pub bracket_missed : (e : Fault) → Fails a_sum s (at + 1) (d + 1) e → Fails a_base s at d e
    bracket_missed e x st f z = ap verdict (opened st f z) ∙ x (f ∷ st) f (omega arith)

    module _ {k : ℕ} {v : Option Built} (c : Done a_sum a_sum m s (at + 1) (d + 1) k v) where
      inner : (st : List Frame) (f : Frame) → length st ≡ d → run most_deep (expect st f) (drop at s) ≡ run most_deep (at_sum (f ∷ st) c.tree) (drop k s)
      inner st f e = opened st f e ∙ c.leads (f ∷ st) f (omega arith)

      pub bracket_open : (k < length s → get_or s k 0 ≡ 41 → ⊥) → Fails a_base s at d Spelling
      bracket_open n st f z = go (dec_lt k (length s))
        where
          product_open : (st : List Frame) (f : Frame) (b : Before) (p : Product) → verdict (at_product (f ∷ st) b p) ≡ bad spelling
          product_open st f b (single t) = refl
          product_open st f b (multiply p t) = refl

          sum_open : (st : List Frame) (f : Frame) (t : Sum) → verdict (at_sum (f ∷ st) t) ≡ bad spelling
          sum_open st f (term p) = product_open st f nothing p
          sum_open st f (negative p) = product_open st f minus p
          sum_open st f (add t p) = product_open st f (states.plus t) p
          sum_open st f (subtract t p) = product_open st f (less t) p

          go : Dec (k < length s) → verdict (run most_deep (expect st f) (drop at s)) ≡ bad spelling
          go (yes h) = ap verdict (inner st f z) ∙ run-fault (at_sum (f ∷ st) c.tree) s k spelling h (c.ends (f ∷ st) f h (n h))
          go (no h) = ap verdict (inner st f z ∙ run_out (at_sum (f ∷ st) c.tree) s k (omega arith)) ∙ sum_open st f c.tree

      pub bracket_shut : k < length s → get_or s k 0 ≡ 41 → Done a_base a_base m s at d (k + 1) v
      unfolding meaning Within
      bracket_shut h e =
          record {
            tree = bracket c.tree;
            ahead = omega (arith, c.ahead);
            inside = omega arith;
            held = c.held;
            leads = λ st f z. inner st f z ∙ run-byte (at_sum (f ∷ st) c.tree) (factor st f (plain (bracket c.tree))) s k 41 h e (sum_close most_deep st f c.tree);
            ends = λ st f z. only_base st f (bracket c.tree) (get_or s (k + 1) 0) (λ x y. refl);
          }

-- ---- factors

module _ (m : ℕ) (s : List ℕ) (at d : ℕ) where
  module _ {k : ℕ} {v : Option Built} (c : Done a_base a_base m s at d k v) where
    pub factor-plain : (k < length s → get_or s k 0 ≡ 94 → ⊥) → Done a_factor a_factor m s at d k v
    unfolding meaning Within
    factor-plain n = record { tree = plain c.tree; ahead = c.ahead; inside = c.inside; held = c.held; leads = c.leads; ends = λ st f z. c.ends st f z (n z) }

  module _ {k : ℕ} {v : Option Built} (c : Done a_base a_base m s at d k v) (l : k < length s) (b : get_or s k 0 ≡ 94) where
    -- after ^
    hatted : (st : List Frame) (f : Frame) → length st ≡ d → run most_deep (expect st f) (drop at s) ≡ run most_deep (caret st f c.tree) (drop (k + 1) s)
    unfolding step
    hatted st f e = c.leads st f e ∙ run-byte (factor st f (plain c.tree)) (caret st f c.tree) s k 94 l b refl

    pub factor_unraised : CountsPower s (k + 1) None → Fails a_factor s at d Spelling
    factor_unraised x st f z = ap verdict (hatted st f z) ∙ x st f c.tree

    pub factor-raised : {next n : ℕ} {w : Option Built} → 1 < m → Counted s (k + 1) next n → n ≤ limit → built-specs.Raises m n v w → Done a_factor a_factor m s at d next w
    unfolding meaning Within
    factor-raised {next} {n} {w} two e low p =
        let q : built-specs.Raises m (grammar.digits_value e.bytes) v w = rw e.is at p in
        record {
          tree = raised c.tree e.bytes;
          ahead = omega (arith, c.ahead, e.ahead);
          inside = e.inside;
          held = as_power (omega arith) c.held q;
          leads = λ st f z. hatted st f z ∙ ap (run most_deep (caret st f c.tree)) e.text ∙ run-append most_deep (caret st f c.tree) e.bytes (drop next s)
              ∙ ap (λ q. run most_deep q (drop next s)) (raised-run most_deep st f c.tree e.bytes e.digits (rw e.is at low));
          ends = λ st f z. only_factor st f (raised c.tree e.bytes) (get_or s next 0) (λ y u. absurd (e.ends z y u)) (λ y. refl);
        }

-- ---- products

module _ (m : ℕ) (s : List ℕ) (at d : ℕ) where
  pub product-first : {k : ℕ} {v : Option Built} → Done a_factor a_factor m s at d k v → Done a_product a_factor m s at d k v
  unfolding meaning Within
  product-first c = record { tree = single c.tree; ahead = c.ahead; inside = c.inside; held = c.held; leads = λ st f e. c.leads st (frame (before_of f) none) e; ends = λ st f z. c.ends st (frame (before_of f) none) z }

  module _ {k : ℕ} {v : Option Built} (c : Done a_product a_factor m s at d k v) (l : k < length s) (b : get_or s k 0 ≡ 42) where
    times-run : (st : List Frame) (f : Frame) → length st ≡ d → run most_deep (expect st (frame (before_of f) none)) (drop at s) ≡ run most_deep (expect st (frame (before_of f) (some c.tree))) (drop (k + 1) s)
    times-run st f e = c.leads st f e ∙ run-byte (at_product st (before_of f) c.tree) (expect st (frame (before_of f) (some c.tree))) s k 42 l b (product-times most_deep st (before_of f) c.tree)

    pub product-more_missed : (e : Fault) → Fails a_factor s (k + 1) d e → Fails a_product s at d e
    product-more_missed e x st f z = ap verdict (times-run st f z) ∙ x st (frame (before_of f) (some c.tree)) z

    pub product-more : {next : ℕ} {u w : Option Built} → 1 < m → Done a_factor a_factor m s (k + 1) d next u → Joins m times v u w → Done a_product a_factor m s at d next w
    unfolding meaning Within
    product-more two x j =
        record {
          tree = multiply c.tree x.tree;
          ahead = omega (arith, c.ahead, x.ahead);
          inside = x.inside;
          held = as_times (omega arith) c.held x.held j;
          leads = λ st f e. times-run st f e ∙ x.leads st (frame (before_of f) (some c.tree)) e;
          ends = λ st f z. x.ends st (frame (before_of f) (some c.tree)) z;
        }

-- ---- sums

module _ (m : ℕ) (s : List ℕ) (at d : ℕ) where
  -- no minus stands at the start
  plain-start : (n : at < length s → get_or s at 0 ≡ 45 → ⊥) (st : List Frame) → verdict (run most_deep (begin st) (drop at s)) ≡ verdict (run most_deep (expect st fresh) (drop at s))
  plain-start n st = go (dec_lt at (length s))
    where
      go : Dec (at < length s) → verdict (run most_deep (begin st) (drop at s)) ≡ verdict (run most_deep (expect st fresh) (drop at s))
      go (yes l) = ap verdict (run_at (begin st) s at l ∙ ap (λ q. run most_deep q (drop (at + 1) s)) (same_step most_deep st (get_or s at 0) (n l)) ∙ sym (run_at (expect st fresh) s at l))
      go (no l) = ap verdict (run_out (begin st) s at (omega arith)) ∙ sym (ap verdict (run_out (expect st fresh) s at (omega arith)))

  pub sum-plain : (r : Result ℕ Fault) (v : Option Built) → (at < length s → get_or s at 0 ≡ 45 → ⊥) → Reads a_product a_product m s at d r v → Reads a_sum a_product m s at d r v
  unfolding meaning Within
  sum-plain (Ok k) v n c =
      record {
        tree = term c.tree;
        ahead = c.ahead;
        inside = c.inside;
        held = c.held;
        leads = λ st f e. run_at (begin st) s at (omega (arith, c.ahead, c.inside)) ∙ ap (λ q. run most_deep q (drop (at + 1) s)) (same_step most_deep st (get_or s at 0) (n (omega (arith, c.ahead, c.inside)))) ∙ sym (run_at (expect st fresh) s at (omega (arith, c.ahead, c.inside))) ∙ c.leads st fresh e;
        ends = λ st f z. c.ends st fresh z;
      }
  sum-plain (Err y) v n x = λ st f e. plain-start n st ∙ x st fresh e

  module _ (l : at < length s) (b : get_or s at 0 ≡ 45) where
    minus-run : (st : List Frame) → run most_deep (begin st) (drop at s) ≡ run most_deep (expect st (frame minus none)) (drop (at + 1) s)
    unfolding step
    minus-run st = run-byte (begin st) (expect st (frame minus none)) s at 45 l b refl

    pub sum-minus_missed : (e : Fault) → Fails a_product s (at + 1) d e → Fails a_sum s at d e
    sum-minus_missed e x st f z = ap verdict (minus-run st) ∙ x st (frame minus none) z

    pub sum-minus : {k : ℕ} {a : Built} {v w : Option Built} → 1 < m → Done a_product a_product m s (at + 1) d k v → a.coefficients ≡ reduced m (built-specs.single 0 0) → Adds m 45 (Some a) v w → Done a_sum a_product m s at d k w
    unfolding meaning Within
    sum-minus two c e j =
        record {
          tree = negative c.tree;
          ahead = omega (arith, c.ahead);
          inside = c.inside;
          held = as_scaled (omega arith) (m - 1) e c.held (j.difference (λ z. omega arith));
          leads = λ st f z. minus-run st ∙ c.leads st (frame minus none) z;
          ends = λ st f z. c.ends st (frame minus none) z;
        }

  pub sum-end : {k : ℕ} {v : Option Built} → (k < length s → (get_or s k 0 ≡ 43 → ⊥) × (get_or s k 0 ≡ 45 → ⊥)) → Done a_sum a_product m s at d k v → Done a_sum a_sum m s at d k v
  sum-end n c = record { tree = c.tree; ahead = c.ahead; inside = c.inside; held = c.held; leads = c.leads; ends = λ st f z. c.ends st f z (n z).0 (n z).1 }

  module _ {k : ℕ} {v : Option Built} (c : Done a_sum a_product m s at d k v) (l : k < length s) where
    -- behind a sign, after which `on` says what stands before the next product; + and - differ in that and in the tree that they make
    module _ {b : ℕ} (e : get_or s k 0 ≡ b) (on : Sum → Before) (goes : (st : List Frame) → step most_deep (at_sum st c.tree) b ≡ expect st (frame (on c.tree) none)) where
      sign_run : (st : List Frame) (f : Frame) → length st ≡ d → run most_deep (begin st) (drop at s) ≡ run most_deep (expect st (frame (on c.tree) none)) (drop (k + 1) s)
      sign_run st f z = c.leads st f z ∙ run-byte (at_sum st c.tree) (expect st (frame (on c.tree) none)) s k b l e (goes st)

      sign_missed : (y : Fault) → Fails a_product s (k + 1) d y → Fails a_sum s at d y
      sign_missed y x st f z = ap verdict (sign_run st f z) ∙ x st (frame (on c.tree) none) z

      sign_more : {next : ℕ} {u w : Option Built} (t : Sum) (x : Done a_product a_product m s (k + 1) d next u)
          → ((st : List Frame) → at_product st (on c.tree) x.tree ≡ at_sum st t) → BuiltAs m (meaning t m) (Within t m) w → Done a_sum a_product m s at d next w
      sign_more {next} t x same held =
          record {
            tree = t;
            ahead = omega (arith, c.ahead, x.ahead);
            inside = x.inside;
            held = held;
            leads = λ st f y. sign_run st f y ∙ x.leads st (frame (on c.tree) none) y ∙ ap (λ q. run most_deep q (drop next s)) (same st);
            ends = λ st f y. rw (same st) at (x.ends st (frame (on c.tree) none) y);
          }

    module _ {b : ℕ} (is : get_or s k 0 ≡ b) (sign : (b ≡ 43) ⊎ (b ≡ 45)) where
      pub sum-more_missed : (e : Fault) → Fails a_product s (k + 1) d e → Fails a_sum s at d e
      sum-more_missed y x =
          ⊎_elim (λ e. sign_missed (is ∙ e) states.plus (λ st. sum-plus most_deep st c.tree) y x) (λ e. sign_missed (is ∙ e) less (λ st. sum_less most_deep st c.tree) y x) sign

      pub sum_more : {next : ℕ} {u w : Option Built} → 1 < m → Done a_product a_product m s (k + 1) d next u → Adds m b v u w → Done a_sum a_product m s at d next w
      unfolding meaning Within
      sum_more two x j =
          ⊎_elim
          (λ e. sign_more (is ∙ e) states.plus (λ st. sum-plus most_deep st c.tree) (add c.tree x.tree) x (λ st. refl) (as_plus (omega arith) c.held x.held (j.sum e)))
          (λ e. sign_more (is ∙ e) less (λ st. sum_less most_deep st c.tree) (subtract c.tree x.tree) x (λ st. refl) (as_less (omega arith) c.held x.held (m - 1) (j.difference (λ z. omega arith))))
          sign
