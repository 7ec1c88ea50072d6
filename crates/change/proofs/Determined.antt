-- Two answers that satisfy a contract are equal.
--
--   change a b                     the change with these numbers
--   modulus_positive, proper_invertible     what a proper change says of m and of its unit
--   combine_determined             what combining answers
--   undo_determined                what undoing answers
--   change_polynomial_determined   what a change of a polynomial answers
--   change_pair_determined         what a change of a pair answers
use mathlib.Core.Path.{◌≡◌, ap₂}
use mathlib.Core.List.{List}
use Prim.Native.Nat.{ℕ, ◌<◌}
use native.Mathlib.Omega.{arith}
use Rattle.algebra.specs.Number.{Invertible}
use Rattle.algebra.proofs.Factors.{coprime-invertible}
use Rattle.algebra.proofs.Changes.{changed_equal, changed-pair_equal, undoes_unique}
use Rattle.polynomial.specs.Answers.{Answer}
use Rattle.polynomial.specs.Answers.{Parts}
use Rattle.change.specs.declared.Change.{Change}
use Rattle.change.specs.Changing.{Made}
use Rattle.change.specs.Changing.{Proper, Combines, Undoing, ChangesPolynomial, ChangesPair, refused, not_proper, first_improper, second_improper, combined, undone, changed}

-- a change by its numbers
abbrev pub change : ℕ → ℕ → Change
change a b = record { unit = a; origin = b }

module _ {m : ℕ} {c : Change} where
  -- a number is below m
  pub modulus_positive : Proper m c → 0 < m
  modulus_positive p = omega (arith, p.unit_below)

  -- its unit has an inverse
  pub proper_invertible : Proper m c → Invertible m c.unit
  proper_invertible p = coprime-invertible m (modulus_positive p) p.invertible

  -- what undoing answers
  pub undo_determined : {x y : Made} → Undoing m c x → Undoing m c y → x ≡ y
  undo_determined (refused e k) (refused f l) = cc
  undo_determined (refused e k) (not_proper a n l) = cc
  undo_determined (refused e k) (undone a p u l) = cc
  undo_determined (not_proper a n k) (refused e l) = cc
  undo_determined (not_proper a n k) (not_proper b o l) = cc
  undo_determined (not_proper a n k) (undone b p u l) = absurd (n p)
  undo_determined (undone a p u k) (refused e l) = cc
  undo_determined (undone a p u k) (not_proper b n l) = absurd (n p)
  undo_determined (undone {d = d} a p u k) (undone {d = e} b q v l) =
      let (unit, origin) = undoes_unique (modulus_positive p) u.unit_below u.origin_below v.unit_below v.origin_below u.undoes v.undoes in
      let same : d ≡ e = ap₂ change unit origin in
      cc

  -- what combining answers
  pub combine_determined : {d : Change} {x y : Made} → Combines m c d x → Combines m c d y → x ≡ y
  combine_determined (refused e k) (refused f l) = cc
  combine_determined (refused e k) (first_improper a n l) = cc
  combine_determined (refused e k) (second_improper a p n l) = cc
  combine_determined (refused e k) (combined a p q l) = cc
  combine_determined (first_improper a n k) (refused e l) = cc
  combine_determined (first_improper a n k) (first_improper b o l) = cc
  combine_determined (first_improper a n k) (second_improper b p o l) = absurd (n p)
  combine_determined (first_improper a n k) (combined b p q l) = absurd (n p)
  combine_determined (second_improper a p n k) (refused e l) = cc
  combine_determined (second_improper a p n k) (first_improper b o l) = absurd (o p)
  combine_determined (second_improper a p n k) (second_improper b q o l) = cc
  combine_determined (second_improper a p n k) (combined b q r l) = absurd (n r)
  combine_determined (combined a p q k) (refused e l) = cc
  combine_determined (combined a p q k) (first_improper b n l) = absurd (n p)
  combine_determined (combined a p q k) (second_improper b r n l) = absurd (n q)
  combine_determined (combined a p q k) (combined b o r l) = cc

  -- what a change of a polynomial answers
  pub change_polynomial_determined : {f : List ℕ} {x y : Answer} → ChangesPolynomial m f c x → ChangesPolynomial m f c y → x ≡ y
  change_polynomial_determined (refused e k) (refused f l) = cc
  change_polynomial_determined (refused e k) (not_proper a n l) = cc
  change_polynomial_determined (refused e k) (changed a p r u l) = cc
  change_polynomial_determined (not_proper a n k) (refused e l) = cc
  change_polynomial_determined (not_proper a n k) (not_proper b o l) = cc
  change_polynomial_determined (not_proper a n k) (changed b p r u l) = absurd (n p)
  change_polynomial_determined (changed a p r u k) (refused e l) = cc
  change_polynomial_determined (changed a p r u k) (not_proper b n l) = absurd (n p)
  change_polynomial_determined (changed a p r u k) (changed b q s v l) = cc (changed_equal (modulus_positive p) (proper_invertible p) r s u v)

  -- what a change of a pair answers
  pub change_pair_determined : {g h : List ℕ} {x y : Parts} → ChangesPair m g h c x → ChangesPair m g h c y → x ≡ y
  change_pair_determined (refused e k) (refused f l) = cc
  change_pair_determined (refused e k) (not_proper a n l) = cc
  change_pair_determined (refused e k) (changed a p r s u l) = cc
  change_pair_determined (not_proper a n k) (refused e l) = cc
  change_pair_determined (not_proper a n k) (not_proper b o l) = cc
  change_pair_determined (not_proper a n k) (changed b p r s u l) = absurd (n p)
  change_pair_determined (changed a p r s u k) (refused e l) = cc
  change_pair_determined (changed a p r s u k) (not_proper b n l) = absurd (n p)
  change_pair_determined (changed a p r s u k) (changed b q t w v l) =
      let (left, right) = changed-pair_equal (modulus_positive p) (proper_invertible p) r s t w u v in
      cc
