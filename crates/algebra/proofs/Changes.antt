-- Changes of unit and origin.
--
--   changed-exists, changed-reduced, changed_unique, changed_equal          there is one changed polynomial
--   changed-monic                         it is monic of the same degree
--   changed_by_nothing                    (1, 0) changes nothing
--   changed-combined                      first (a, b), then (c, d), is the combined change
--   undo, undoes_sym, undoes-invertible, undoes_unique, changed-undone      undoing
--   changed-right-exists, -reduced, -unique, -monic                         the same of a right part
--   changed-pair, changed-pair_equal      the changed pair composes to the changed polynomial, and is one
--   changed_numbers, changed-pair_numbers     changes depend on a and b modulo m only
--   changed-pair_by_nothing, changed-pair-combined                          (1, 0) and combining, of pairs
--   splits-changed, splits-unchanged      a change keeps whether f splits
use mathlib.Core.Path.{◌≡◌, refl, sym, ap, ◌∙◌}
use mathlib.Core.List.{List, [], ◌∷◌}
use Prim.Native.Nat.{ℕ, ◌+◌, ◌*◌, ◌^◌, ◌-◌, ◌%◌, ◌<◌}
use native.Mathlib.Nat as N
use native.Mathlib.Omega.{arith}
use Rattle.algebra.specs.Polynomial.{coef, plus, scaled, after, value, Same, Monic, Reduced, terms, reduced}
use Rattle.algebra.specs.Number.{Invertible}
use Rattle.algebra.specs.Pair.{Pair, Normal, SplitsRight}
use Rattle.algebra.specs.Change.{Changed, ChangedRight, ChangedPair, Undoes, combined_unit, combined_origin}
use Rattle.algebra.proofs.Numbers.{number_cancel, pow-same, mul-same, one-pow, mul-pow, pow-pow, add_cancel}
use Rattle.algebra.proofs.Polynomials.{same_refl, same_sym, ◌⨾◌, plus-same, plus_assoc, plus-nothing, scaled-same, after_same, after_assoc, after_plus, after-scaled, scaled-plus, scaled-scaled, line_after, constant-after, constant-same, after_x, scaled-number, scaled-one, scaled_cancel, plus_cancel, line_same, monic-same, zero_nothing}
use Rattle.algebra.proofs.Coefficients.{coef-scaled}
use Rattle.algebra.proofs.Reduction.{reduced-reduced, monic-reduced, reduced_equal}
use Rattle.algebra.proofs.Factors.{invertible-pow, invertible-one}
use Rattle.algebra.proofs.Values.{value-plus, value-scaled, value_after, value_same, value_zero}
use Rattle.algebra.proofs.Moved as C

module _ {m : ℕ} (pos : 0 < m) where
  -- the changed polynomial is one, modulo m
  pub changed_unique : {n a b : ℕ} {f p q : List ℕ} → Invertible m a → Changed m n a b f p → Changed m n a b f q → Same m p q
  changed_unique {n} i c d = scaled_cancel m pos (invertible-pow i n) (c.same ⨾ same_sym d.same)

  pub changed-same : {n a b : ℕ} {f p q : List ℕ} → Changed m n a b f p → Same m p q → Changed m n a b f q
  changed-same {n} {a} c e = record { same = same_sym (scaled-same m pos (a ^ n) e) ⨾ c.same }

  -- monic stays monic of the same degree
  pub changed-monic : {n a b : ℕ} {f f' : List ℕ} → 0 < n → Invertible m a → Monic m n f → Changed m n a b f f' → Monic m n f'
  changed-monic {n} {a} {b} {f} {f'} np i mon c = record {
    top = number_cancel (coef f' n) 1 (invertible-pow i n) (at n ∙ C.moved-top m pos mon np a b i.inverse i.unit ∙ ap (λ (x : ℕ). x % m) (sym (N.mul-one (a ^ n))));
    above = λ j l. number_cancel (coef f' j) 0 (invertible-pow i n) (at j ∙ C.moved-above m pos mon np a b i.inverse i.unit j l ∙ ap (λ (x : ℕ). x % m) (sym (N.mul-zero (a ^ n))));
  }
    where
      at : (j : ℕ) → a ^ n * coef f' j % m ≡ coef (after f (b ∷ a ∷ [])) j % m
      at j = ap (λ (x : ℕ). x % m) (sym (coef-scaled (a ^ n) f' j)) ∙ c.same.at j

  -- there is a changed polynomial
  pub changed-exists : {a : ℕ} (n b : ℕ) (f : List ℕ) → Invertible m a → (f' : List ℕ) × Changed m n a b f f'
  changed-exists {a} n b f i = (scaled u (after f (b ∷ a ∷ [])), record { same = scaled-scaled m pos (a ^ n) u _ ⨾ scaled-number m pos _ 1 _ (ap (λ (x : ℕ). x % m) (N.mul_comm (a ^ n) u) ∙ (invertible-pow i n).unit) ⨾ scaled-one m pos _ })
    where
      u : ℕ
      u = (invertible-pow i n).inverse

  -- and a reduced one
  pub changed-reduced : {n a : ℕ} (b : ℕ) {f : List ℕ} → 0 < n → n < terms → Invertible m a → Monic m n f
      → (f' : List ℕ) × Monic m n f' × Reduced m f' × Changed m n a b f f'
  changed-reduced {n} b {f} np l i mon =
      let (p, c) = changed-exists n b f i in
      let k = changed-monic np i mon c in
      let e = monic-reduced m pos l k in
      (reduced m p, monic-same m pos e k, reduced-reduced m pos p, changed-same c e)

  -- the change depends on a and b modulo m only
  pub changed_numbers : {n : ℕ} (a b c d : ℕ) {f f' : List ℕ} → a % m ≡ c % m → b % m ≡ d % m → Changed m n a b f f' → Changed m n c d f f'
  changed_numbers {n} a b c d {f} {f'} e o k = record { same = scaled-number m pos (c ^ n) (a ^ n) f' (sym (pow-same m a c e n)) ⨾ k.same ⨾ after_same m pos (same_refl f) (line_same m pos e o) }

  -- (1, 0) changes nothing
  pub changed_by_nothing : {n : ℕ} (f : List ℕ) → Changed m n 1 0 f f
  changed_by_nothing {n} f = record { same = scaled-number m pos _ 1 f (ap (λ (x : ℕ). x % m) (one-pow n)) ⨾ scaled-one m pos f ⨾ same_sym (after_x m pos f) }

  lines : (a b c d : ℕ) → Same m (after (b ∷ a ∷ []) (d ∷ c ∷ [])) (combined_origin a b c d ∷ combined_unit a b c d ∷ [])
  unfolding plus scaled
  lines a b c d = line_after m pos b a (d ∷ c ∷ []) ⨾ line_same m pos refl (ap (λ (x : ℕ). x % m) (N.add_comm b (a * d)))

  -- first (a, b), then (c, d), is one change
  pub changed-combined : {n a b c d : ℕ} {f f' f'' : List ℕ} → Changed m n a b f f' → Changed m n c d f' f''
      → Changed m n (combined_unit a b c d) (combined_origin a b c d) f f''
  changed-combined {n} {a} {b} {c} {d} {f} {f'} {f''} k l = record {
    same = scaled-number m pos ((a * c) ^ n) (a ^ n * c ^ n) f'' (ap (λ (x : ℕ). x % m) (mul-pow a c n)) ⨾ same_sym (scaled-scaled m pos (a ^ n) (c ^ n) f'')
        ⨾ scaled-same m pos (a ^ n) l.same ⨾ same_sym (after-scaled m pos (a ^ n) f' (d ∷ c ∷ [])) ⨾ after_same m pos k.same (same_refl (d ∷ c ∷ []))
        ⨾ after_assoc m pos f (b ∷ a ∷ []) (d ∷ c ∷ []) ⨾ after_same m pos (same_refl f) (lines a b c d);
  }

  -- what undoes (a, b) is undone by it
  pub undoes_sym : {a b u v : ℕ} → Undoes m a b u v → Undoes m u v a b
  undoes_sym {a} {b} {u} {v} k = record { unit = flip; origin = turn }
    where
      flip : u * a % m ≡ 1 % m
      flip = ap (λ (x : ℕ). x % m) (N.mul_comm u a) ∙ k.unit

      a_inv : Invertible m a
      a_inv = record { inverse = u; unit = flip }

      parts : a * (u * b + v) ≡ a * u * b + a * v
      parts = omega arith

      turned : 1 * b + a * v ≡ a * v + b
      turned = omega arith

      turn : (u * b + v) % m ≡ 0 % m
      turn = number_cancel (u * b + v) 0 a_inv (ap (λ (x : ℕ). x % m) parts ∙ sym (N.mod-add-mod (a * u * b) m (a * v))
          ∙ ap (λ (x : ℕ). (x + a * v) % m) (mul-same m (a * u) b 1 b k.unit refl) ∙ N.mod-add-mod (1 * b) m (a * v)
          ∙ ap (λ (x : ℕ). x % m) turned ∙ k.origin ∙ ap (λ (x : ℕ). x % m) (sym (N.mul-zero a)))

  pub undoes-invertible : {a b u v : ℕ} → Undoes m a b u v → Invertible m a
  undoes-invertible {a} {b} {u} {v} k = record { inverse = u; unit = ap (λ (x : ℕ). x % m) (N.mul_comm u a) ∙ k.unit }

  -- undone, the changed polynomial is f again
  pub changed-undone : {n a b u v : ℕ} {f f' : List ℕ} → Undoes m a b u v → Changed m n a b f f' → Changed m n u v f' f
  changed-undone {n} {a} {b} {u} {v} {f} {f'} k c =
      let (p, d) = changed-exists n v f' (undoes-invertible (undoes_sym k)) in
      changed-same d (changed_unique (invertible-one m) (changed_numbers (a * u) (a * v + b) 1 0 k.unit k.origin (changed-combined c d)) (changed_by_nothing f))

  -- every change with an invertible a can be undone
  pub undo : {a : ℕ} (b : ℕ) → Invertible m a → (u v : ℕ) × Undoes m a b u v
  undo {a} b i = (
    u,
    u * w,
    record {
      unit = ap (λ (x : ℕ). x % m) (N.mul_comm a u) ∙ i.unit;
      origin = ap (λ (x : ℕ). (x + b) % m) (sym (N.mul_assoc a u w)) ∙ sym (N.mod-add-mod (a * u * w) m b)
          ∙ ap (λ (x : ℕ). (x + b) % m) (mul-same m (a * u) w 1 w (ap (λ (x : ℕ). x % m) (N.mul_comm a u) ∙ i.unit) refl) ∙ N.mod-add-mod (1 * w) m b
          ∙ ap (λ (x : ℕ). (x + b) % m) (N.one-mul w) ∙ sym (N.add-mod-mod w b m) ∙ ap (λ (x : ℕ). x % m) (N.sub-add_cancel (N.le_of_lt (N.mod-lt b pos))) ∙ N.mod_self m ∙ sym (N.zero-mod m);
    },
  )
    where
      u : ℕ
      u = i.inverse

      w : ℕ
      w = m - b % m

  -- the right part's rule: one answer, monic of the same degree and without a constant term
  pub changed-right_unique : {s a b : ℕ} {h p q : List ℕ} → Invertible m a → ChangedRight m s a b h p → ChangedRight m s a b h q → Same m p q
  changed-right_unique {s} i c d = scaled_cancel m pos (invertible-pow i s) (plus_cancel m pos _ (c.same ⨾ same_sym d.same))

  pub changed-right-same : {s a b : ℕ} {h p q : List ℕ} → ChangedRight m s a b h p → Same m p q → ChangedRight m s a b h q
  changed-right-same {s} {a} c e = record { same = plus-same m pos (same_refl _) (same_sym (scaled-same m pos (a ^ s) e)) ⨾ c.same }

  pub changed-right-exists : {s a : ℕ} (b : ℕ) {h : List ℕ} → 0 < s → Invertible m a → Monic m s h
      → (h' : List ℕ) × Monic m s h' × Normal m h' × ChangedRight m s a b h h'
  changed-right-exists {s} {a} b {h} sp i mon =
      let (k, mk, z, e) = C.change m pos mon sp a b i.inverse i.unit in
      (k, mk, record { constant = z }, record { same = same_sym (line_after m pos (value h b) (a ^ s) k) ⨾ same_sym e })

  pub normal-same : {p q : List ℕ} → Same m p q → Normal m p → Normal m q
  normal-same e z = record { constant = sym (e.at 0) ∙ z.constant }

  pub changed-right-reduced : {s a : ℕ} (b : ℕ) {h : List ℕ} → 0 < s → s < terms → Invertible m a → Monic m s h
      → (h' : List ℕ) × Monic m s h' × Normal m h' × Reduced m h' × ChangedRight m s a b h h'
  changed-right-reduced b sp l i mon =
      let (k, mk, z, c) = changed-right-exists b sp i mon in
      let e = monic-reduced m pos l mk in
      (reduced m k, monic-same m pos e mk, normal-same e z, reduced-reduced m pos k, changed-right-same c e)

  pub changed-right-monic : {s a b : ℕ} {h h' : List ℕ} → 0 < s → Invertible m a → Monic m s h → ChangedRight m s a b h h' → Monic m s h' × Normal m h'
  changed-right-monic {b = b} sp i mon c =
      let (k, mk, z, d) = changed-right-exists b sp i mon in
      let e = changed-right_unique i d c in
      (monic-same m pos e mk, normal-same e z)

  -- the changed pair composes to the changed polynomial, and is normal
  pub changed-pair : {n r s a b : ℕ} {f f' g g' h h' : List ℕ} → 0 < r → 0 < s → r * s ≡ n → Invertible m a
      → Pair m f r s g h → Changed m n a b f f' → ChangedPair m r s a b g h g' h' → Pair m f' r s g' h'
  changed-pair {n} {r} {s} {a} {b} {f} {f'} {g} {g'} {h} {h'} rp sp e i p c d = record {
    left = changed-monic rp (invertible-pow i s) p.left d.left;
    right = (changed-right-monic sp i p.right d.right).0;
    whole = scaled_cancel m pos (invertible-pow i n) (
        c.same ⨾ after_same m pos p.whole (same_refl (b ∷ a ∷ [])) ⨾ after_assoc m pos g h (b ∷ a ∷ [])
        ⨾ after_same m pos (same_refl g) (same_sym d.right.same ⨾ same_sym (line_after m pos (value h b) (a ^ s) h'))
        ⨾ same_sym (after_assoc m pos g (value h b ∷ a ^ s ∷ []) h') ⨾ after_same m pos (same_sym d.left.same) (same_refl h')
        ⨾ after-scaled m pos ((a ^ s) ^ r) g' h' ⨾ scaled-number m pos _ _ _ (ap (λ (x : ℕ). x % m) (pow-pow a s r ∙ ap (λ (k : ℕ). a ^ k) e)));
  }

  -- what (a, b) and then (c, d) hand to the left part is what the combined change hands to it
  handed-on : {s a b : ℕ} (d : ℕ) {h h' : List ℕ} → ChangedRight m s a b h h' → (a ^ s * value h' d + value h b) % m ≡ value h (combined_origin a b 0 d) % m
  unfolding value
  handed-on {s} {a} {b} d {h} {h'} k = ap (λ (x : ℕ). x % m) (sym (value-plus (value h b ∷ []) (scaled (a ^ s) h') d ∙ omega (arith, value-scaled (a ^ s) h' d)))
      ∙ value_same d k.same ∙ ap (λ (x : ℕ). x % m) (value_after h (b ∷ a ∷ []) d ∙ ap (value h) line)
    where
      line : b + d * (a + d * 0) ≡ a * d + b
      line = omega arith

  -- first (a, b), then (c, d), of a right part
  pub changed-right-combined : {s a b c d : ℕ} {h h' h'' : List ℕ} → ChangedRight m s a b h h' → ChangedRight m s c d h' h''
      → ChangedRight m s (combined_unit a b c d) (combined_origin a b c d) h h''
  unfolding plus scaled
  changed-right-combined {s} {a} {b} {c} {d} {h} {h'} {h''} k l = record {
    same = plus-same m pos (constant-same m pos _ _ (sym (handed-on d k) ∙ ap (λ (x : ℕ). x % m) (N.add_comm _ (value h b)))) (scaled-number m pos _ _ h'' (ap (λ (x : ℕ). x % m) (mul-pow a c s)) ⨾ same_sym (scaled-scaled m pos (a ^ s) (c ^ s) h''))
        ⨾ plus_assoc m pos (value h b ∷ []) ((a ^ s * value h' d) ∷ []) (scaled (a ^ s) (scaled (c ^ s) h''))
        ⨾ plus-same m pos (same_sym (constant-after m pos (value h b) (d ∷ c ∷ []))) (same_sym (scaled-plus m pos (a ^ s) (value h' d ∷ []) (scaled (c ^ s) h'')) ⨾ scaled-same m pos (a ^ s) l.same ⨾ same_sym (after-scaled m pos (a ^ s) h' (d ∷ c ∷ [])))
        ⨾ same_sym (after_plus m pos (value h b ∷ []) (scaled (a ^ s) h') (d ∷ c ∷ [])) ⨾ after_same m pos k.same (same_refl (d ∷ c ∷ []))
        ⨾ after_assoc m pos h (b ∷ a ∷ []) (d ∷ c ∷ []) ⨾ after_same m pos (same_refl h) (lines a b c d);
  }

  -- and of a pair
  pub changed-pair-combined : {r s a b c d : ℕ} {g h g' h' g'' h'' : List ℕ} → ChangedPair m r s a b g h g' h' → ChangedPair m r s c d g' h' g'' h''
      → ChangedPair m r s (combined_unit a b c d) (combined_origin a b c d) g h g'' h''
  changed-pair-combined {s = s} {a = a} {b = b} {c = c} {d = d} {h = h} {h' = h'} k l = record {
    left = changed_numbers (a ^ s * c ^ s) (a ^ s * value h' d + value h b) ((a * c) ^ s) (value h (a * d + b)) (ap (λ (x : ℕ). x % m) (sym (mul-pow a c s))) (handed-on d k.right) (changed-combined k.left l.left);
    right = changed-right-combined k.right l.right;
  }

  -- a value depends on the number modulo m only
  value-number : (h : List ℕ) (b d : ℕ) → b % m ≡ d % m → value h b % m ≡ value h d % m
  unfolding value
  value-number h b d e = sym (at b) ∙ value_same 0 (after_same m pos (same_refl h) (constant-same m pos b d e)) ∙ at d
    where
      at : (b : ℕ) → value (after h (b ∷ [])) 0 % m ≡ value h b % m
      at b = ap (λ (x : ℕ). x % m) (value_after h (b ∷ []) 0 ∙ ap (value h) (N.add-zero b))

  -- and so does the change of a pair
  pub changed-pair_numbers : {r s : ℕ} (a b c d : ℕ) {g h g' h' : List ℕ} → a % m ≡ c % m → b % m ≡ d % m → ChangedPair m r s a b g h g' h' → ChangedPair m r s c d g h g' h'
  changed-pair_numbers {s = s} a b c d {h = h} {h' = h'} e o k =
      let constant = value-number h b d o in
      record {
        left = changed_numbers (a ^ s) (value h b) (c ^ s) (value h d) (pow-same m a c e s) constant k.left;
        right = record {
          same = plus-same m pos (constant-same m pos _ _ (sym constant)) (scaled-number m pos _ _ h' (sym (pow-same m a c e s)))
              ⨾ k.right.same ⨾ after_same m pos (same_refl h) (line_same m pos e o);
        };
      }

  -- (1, 0) changes no normal pair
  pub changed-pair_by_nothing : {r s : ℕ} (g : List ℕ) {h : List ℕ} → Normal m h → ChangedPair m r s 1 0 g h g h
  changed-pair_by_nothing {s = s} g {h} z = record {
    left = changed_numbers 1 0 (1 ^ s) (value h 0) (ap (λ (x : ℕ). x % m) (sym (one-pow s))) (sym constant) (changed_by_nothing g);
    right = record { same = plus-same m pos (constant-same m pos _ 0 constant ⨾ zero_nothing m pos) (scaled-number m pos _ 1 h (ap (λ (x : ℕ). x % m) (one-pow s)) ⨾ scaled-one m pos h) ⨾ plus-nothing m pos h ⨾ same_sym (after_x m pos h) };
  }
    where
      constant : value h 0 % m ≡ 0 % m
      constant = ap (λ (x : ℕ). x % m) (value_zero h) ∙ z.constant

  -- where f splits, the changed f does
  pub splits-changed : {n s a b : ℕ} {f f' : List ℕ} → Invertible m a → Changed m n a b f f' → SplitsRight m n f s → SplitsRight m n f' s
  splits-changed {n} {s} {a} {b} {f} {f'} i c k =
      let sp : 0 < s = omega (arith, k.two_right) in
      let rp : 0 < k.r = omega (arith, k.two_left) in
      let (h', mh, z, right) = changed-right-exists b sp i k.pair.right in
      let (g', left) = changed-exists k.r (value k.h b) k.g (invertible-pow i s) in
      record {
        r = k.r;
        two_left = k.two_left;
        two_right = k.two_right;
        degrees = k.degrees;
        g = g';
        h = h';
        pair = changed-pair rp sp k.degrees i k.pair c (record { left = left; right = right });
      }

  pub splits-unchanged : {n s a b : ℕ} {f f' : List ℕ} → Invertible m a → Changed m n a b f f' → SplitsRight m n f' s → SplitsRight m n f s
  splits-unchanged {b = b} i c k =
      let (u, v, d) = undo b i in
      splits-changed (undoes-invertible (undoes_sym d)) (changed-undone d c) k

  -- as the desk holds them: one changed polynomial, one changed pair, one undoing change
  pub changed_equal : {n a b : ℕ} {f p q : List ℕ} → Invertible m a → Reduced m p → Reduced m q → Changed m n a b f p → Changed m n a b f q → p ≡ q
  changed_equal i x y c d = reduced_equal x y (changed_unique i c d)

  pub changed-pair_equal : {r s a b : ℕ} {g h p q u v : List ℕ} → Invertible m a → Reduced m p → Reduced m q → Reduced m u → Reduced m v
      → ChangedPair m r s a b g h p q → ChangedPair m r s a b g h u v → (p ≡ u) × (q ≡ v)
  changed-pair_equal {s = s} i a b c d x y = (reduced_equal a c (changed_unique (invertible-pow i s) x.left y.left), reduced_equal b d (changed-right_unique i x.right y.right))

  pub undoes_unique : {a b u v x y : ℕ} → u < m → v < m → x < m → y < m → Undoes m a b u v → Undoes m a b x y → (u ≡ x) × (v ≡ y)
  undoes_unique {a} {b} {u} {v} {x} {y} lu lv lx ly k l = (
    sym (N.mod-eq_of_lt lu) ∙ number_cancel u x (undoes-invertible k) (k.unit ∙ sym l.unit) ∙ N.mod-eq_of_lt lx,
    sym (N.mod-eq_of_lt lv) ∙ number_cancel v y (undoes-invertible k) (add_cancel m (a * v) (a * y) b pos (k.origin ∙ sym l.origin)) ∙ N.mod-eq_of_lt ly,
  )
