-- What a chain is given, and what the laws of complete chains ask.
--
--   chainable, accepted_chainable      what the code is given, and what passes the checks, as the laws ask
--   left-coprime                       a left degree shares no factor with m, as n does not
--   inverse_next                       s times the inverse of n is that of n/s
--   left_asked, right_asked            the parts of a pair are what the chain takes
use mathlib.Core.Path.{◌≡◌, refl, ap, ◌∙◌}
use mathlib.Core.List.{List}
use Prim.Native.Nat.{ℕ, ◌*◌, ◌%◌, ◌≤◌, ◌<◌}
use native.Mathlib.Nat as N
use native.Mathlib.Omega.{arith}
use Rattle.algebra.specs.Number.{Coprime}
use Rattle.algebra.specs.Polynomial.{degree, Held}
use Rattle.algebra.specs.Pair.{NormalPair}
use Rattle.algebra.proofs.Factors.{coprime-invertible, invertible-coprime, invertible-left}
use Rattle.algebra.proofs.Chains.{sum-within}
use Rattle.algebra.proofs.Complete.{Chainable}
use Rattle.polynomial.specs.Checks.{Accepted}
use Rattle.polynomial.proofs.Acceptance.{accepted_as}
use Rattle.pair.proofs.Forcing.{inverse_left}
use Rattle.round.specs.Round.{ChainAsked}

-- n shares no factor with m, so it has an inverse
coprime_chainable : {m n : ℕ} {f : List ℕ} → 1 < m → Held m n f → 2 ≤ n → Coprime n m → Chainable m n f
coprime_chainable {m} l held two c = record { modulus = l; whole = held; two = two; inverse = coprime-invertible m (omega arith) c }

pub chainable : {m n : ℕ} {f : List ℕ} → ChainAsked m n f → Chainable m n f
chainable a = coprime_chainable a.modulus.above_one a.whole a.two a.coprime

pub accepted_chainable : {m : ℕ} {f : List ℕ} → Accepted m f → Coprime (degree f) m → Chainable m (degree f) f
accepted_chainable a c = let (w, held, two) = accepted_as refl a in coprime_chainable w.above_one held two c

-- a factor of n shares no factor with m, as n does not
pub left-coprime : {m n r : ℕ} (s : ℕ) → 1 < m → Coprime n m → r * s ≡ n → Coprime r m
left-coprime {m} s l c e = invertible-coprime m (omega arith) (invertible-left s (coprime-invertible m (omega arith) c) e)

-- n·v = 1 and r·s = n
pub inverse_next : {m n : ℕ} (r s : ℕ) {u : ℕ} (v : ℕ) → 1 < m → r * s ≡ n → n * v % m ≡ 1 → u ≡ v * s % m → r * u % m ≡ 1
inverse_next {m} r s {u} v l e w q = ap (λ (x : ℕ). x % m) (N.mul_comm r u) ∙ inverse_left r s v l e w q ∙ N.mod-eq_of_lt l

module _ {m n : ℕ} {f : List ℕ} (a : ChainAsked m n f) {r s : ℕ} {g h : List ℕ} (two_left : 2 ≤ r) (two_right : 2 ≤ s) (product : r * s ≡ n) (p : NormalPair m f r s g h) where
  -- the left part of a pair
  pub left_asked : ChainAsked m r g
  left_asked = record {
    modulus = a.modulus;
    whole = record { reduced = p.reduced_left; monic = p.pair.left; within = omega (arith, a.whole.within, sum-within two_left two_right product) };
    two = two_left;
    coprime = left-coprime s a.modulus.above_one a.coprime product;
  }

  -- and the right part
  pub right_asked : ChainAsked m s h
  right_asked = record {
    modulus = a.modulus;
    whole = record { reduced = p.reduced_right; monic = p.pair.right; within = omega (arith, a.whole.within, sum-within two_left two_right product) };
    two = two_right;
    coprime = left-coprime r a.modulus.above_one a.coprime (N.mul_comm s r ∙ product);
  }
