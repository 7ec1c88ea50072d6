-- A commutative ring with true equality, and what follows in any such ring. `ring` is the ruleset by which simp proves identities.
--
--   Ring                                  the structure; its laws restated as lemmas, so that a ruleset takes them
--   add_left_comm, mul_left_comm, add-zero, mul-one, add_neg, add-mul, mul-zero, zero-mul     what follows at once
--   cancel, neg_add_cancel                cancelling a term
--   neg_mul, mul_neg, neg_zero, sub_self, eq_of_sub, add-sub     differences
--   unit_kill                             what has an inverse can be cancelled
use mathlib.Core.Path.{◌≡◌, sym, ap, ◌∙◌}

pub record Ring : Type 1 where
  pub El : Type 0
  pub 𝟘 : El
  pub 𝟙 : El
  infixl 65 ◌⊕◌
  infixl 70 ◌⊗◌
  pub ◌⊕◌ : El → El → El
  pub ◌⊗◌ : El → El → El
  pub neg : El → El
  pub add_assoc : (a b c : El) → a ⊕ b ⊕ c ≡ a ⊕ (b ⊕ c)
  pub add_comm : (a b : El) → a ⊕ b ≡ b ⊕ a
  pub zero-add : (a : El) → 𝟘 ⊕ a ≡ a
  pub neg_add : (a : El) → neg a ⊕ a ≡ 𝟘
  pub mul_assoc : (a b c : El) → a ⊗ b ⊗ c ≡ a ⊗ (b ⊗ c)
  pub mul_comm : (a b : El) → a ⊗ b ≡ b ⊗ a
  pub one-mul : (a : El) → 𝟙 ⊗ a ≡ a
  pub mul-add : (a b c : El) → a ⊗ (b ⊕ c) ≡ a ⊗ b ⊕ a ⊗ c

module _ (R : Ring) where
  open R use {El, 𝟘, 𝟙, ◌⊕◌, ◌⊗◌, neg}

  pub add_assoc : (a b c : El) → a ⊕ b ⊕ c ≡ a ⊕ (b ⊕ c)
  add_assoc = R.add_assoc

  pub add_comm : (a b : El) → a ⊕ b ≡ b ⊕ a
  add_comm = R.add_comm

  pub zero-add : (a : El) → 𝟘 ⊕ a ≡ a
  zero-add = R.zero-add

  pub neg_add : (a : El) → neg a ⊕ a ≡ 𝟘
  neg_add = R.neg_add

  pub mul_assoc : (a b c : El) → a ⊗ b ⊗ c ≡ a ⊗ (b ⊗ c)
  mul_assoc = R.mul_assoc

  pub mul_comm : (a b : El) → a ⊗ b ≡ b ⊗ a
  mul_comm = R.mul_comm

  pub one-mul : (a : El) → 𝟙 ⊗ a ≡ a
  one-mul = R.one-mul

  pub mul-add : (a b c : El) → a ⊗ (b ⊕ c) ≡ a ⊗ b ⊕ a ⊗ c
  mul-add = R.mul-add

  pub add_left_comm : (a b c : El) → a ⊕ (b ⊕ c) ≡ b ⊕ (a ⊕ c)
  add_left_comm a b c = sym (add_assoc a b c) ∙ ap (λ x. x ⊕ c) (add_comm a b) ∙ add_assoc b a c

  pub mul_left_comm : (a b c : El) → a ⊗ (b ⊗ c) ≡ b ⊗ (a ⊗ c)
  mul_left_comm a b c = sym (mul_assoc a b c) ∙ ap (λ x. x ⊗ c) (mul_comm a b) ∙ mul_assoc b a c

  pub add-zero : (a : El) → a ⊕ 𝟘 ≡ a
  add-zero a = add_comm a 𝟘 ∙ zero-add a

  pub mul-one : (a : El) → a ⊗ 𝟙 ≡ a
  mul-one a = mul_comm a 𝟙 ∙ one-mul a

  pub add_neg : (a : El) → a ⊕ neg a ≡ 𝟘
  add_neg a = add_comm a (neg a) ∙ neg_add a

  pub add-mul : (a b c : El) → (a ⊕ b) ⊗ c ≡ a ⊗ c ⊕ b ⊗ c
  add-mul a b c = mul_comm (a ⊕ b) c ∙ mul-add c a b ∙ simp mul_comm

  pub neg_add_cancel : (c x : El) → neg c ⊕ (c ⊕ x) ≡ x
  neg_add_cancel c x = rw (← add_assoc (neg c) c x, neg_add c) (zero-add x)

  pub cancel : {a b : El} (c : El) → c ⊕ a ≡ c ⊕ b → a ≡ b
  cancel {a} {b} c e = sym (neg_add_cancel c a) ∙ ap (λ x. neg c ⊕ x) e ∙ neg_add_cancel c b

  pub mul-zero : (a : El) → a ⊗ 𝟘 ≡ 𝟘
  mul-zero a = cancel (a ⊗ 𝟘) (rw (← mul-add a 𝟘 𝟘, zero-add 𝟘, add-zero (a ⊗ 𝟘)))

  pub zero-mul : (a : El) → 𝟘 ⊗ a ≡ 𝟘
  zero-mul a = mul_comm 𝟘 a ∙ mul-zero a

pub ruleset ring = (mul-add, add-mul, add_assoc, add_comm, add_left_comm, mul_assoc, mul_comm, mul_left_comm, zero-add, add-zero, mul-zero, zero-mul, one-mul, mul-one)

module _ (R : Ring) where
  open R use {El, 𝟘, 𝟙, ◌⊕◌, ◌⊗◌, neg}

  pub neg_mul : (a b : El) → neg a ⊗ b ≡ neg (a ⊗ b)
  neg_mul a b = cancel R (a ⊗ b) (sym (add-mul R a (neg a) b) ∙ ap (λ x. x ⊗ b) (add_neg R a) ∙ zero-mul R b ∙ sym (add_neg R (a ⊗ b)))

  pub mul_neg : (a b : El) → a ⊗ neg b ≡ neg (a ⊗ b)
  mul_neg a b = mul_comm R a (neg b) ∙ neg_mul b a ∙ ap neg (mul_comm R b a)

  pub sub_self : {a b : El} → a ≡ b → a ⊕ neg b ≡ 𝟘
  sub_self {a} {b} e = ap (λ x. x ⊕ neg b) e ∙ add_neg R b

  pub neg_zero : neg 𝟘 ≡ 𝟘
  neg_zero = sym (add-zero R (neg 𝟘)) ∙ neg_add R 𝟘

  pub eq_of_sub : {a b : El} → a ⊕ neg b ≡ 𝟘 → a ≡ b
  eq_of_sub {a} {b} e = cancel R (neg b) (add_comm R (neg b) a ∙ e ∙ sym (neg_add R b))

  pub add-sub : (a b : El) → b ⊕ (a ⊕ neg b) ≡ a
  add-sub a b = add_left_comm R b a (neg b) ∙ ap (◌⊕◌ a) (add_neg R b) ∙ add-zero R a

  -- what has an inverse can be cancelled
  pub unit_kill : {u n a : El} → u ⊗ n ≡ 𝟙 → a ⊗ n ≡ 𝟘 → a ≡ 𝟘
  unit_kill {u} {n} {a} e z = sym (mul-one R a) ∙ ap (◌⊗◌ a) (sym e) ∙ mul_left_comm R a u n ∙ ap (◌⊗◌ u) z ∙ mul-zero R u
