-- Laws of a field of characteristic 2. In order: its laws as lemmas, and what follows, for `ring`, by which `simp` closes identities; what is zero and what is
-- equal; inverses; cancelling.
use mathlib.Core.Path.{◌≡◌, sym, ap, ap₂, ◌∙◌}
use Rattle.theory.specs.Field.{Field}

module _ (F : Field) where
  open F use {K, zero as 𝟘, one as 𝟙, add as ◌⊕◌, mul as ◌⊗◌, inverse}

  infixl 60 ◌⊕◌
  infixl 70 ◌⊗◌
  pub add_assoc : (x y z : K) → x ⊕ y ⊕ z ≡ x ⊕ (y ⊕ z)
  add_assoc = F.add_assoc

  pub add_comm : (x y : K) → x ⊕ y ≡ y ⊕ x
  add_comm = F.add_comm

  pub add-zero : (x : K) → x ⊕ 𝟘 ≡ x
  add-zero = F.add-zero

  pub add_self : (x : K) → x ⊕ x ≡ 𝟘
  add_self = F.add_self

  pub mul_assoc : (x y z : K) → x ⊗ y ⊗ z ≡ x ⊗ (y ⊗ z)
  mul_assoc = F.mul_assoc

  pub mul_comm : (x y : K) → x ⊗ y ≡ y ⊗ x
  mul_comm = F.mul_comm

  pub mul-one : (x : K) → x ⊗ 𝟙 ≡ x
  mul-one = F.mul-one

  pub mul-add : (x y z : K) → x ⊗ (y ⊕ z) ≡ x ⊗ y ⊕ x ⊗ z
  mul-add = F.mul-add

  pub zero-add : (x : K) → 𝟘 ⊕ x ≡ x
  zero-add x = add_comm 𝟘 x ∙ add-zero x

  pub add_left_comm : (x y z : K) → x ⊕ (y ⊕ z) ≡ y ⊕ (x ⊕ z)
  add_left_comm x y z = sym (add_assoc x y z) ∙ ap (λ w. w ⊕ z) (add_comm x y) ∙ add_assoc y x z

  pub add_cancel : (x y : K) → x ⊕ (x ⊕ y) ≡ y
  add_cancel x y = sym (add_assoc x x y) ∙ ap (λ w. w ⊕ y) (add_self x) ∙ zero-add y

  pub mul_left_comm : (x y z : K) → x ⊗ (y ⊗ z) ≡ y ⊗ (x ⊗ z)
  mul_left_comm x y z = sym (mul_assoc x y z) ∙ ap (λ w. w ⊗ z) (mul_comm x y) ∙ mul_assoc y x z

  pub add-mul : (x y z : K) → (x ⊕ y) ⊗ z ≡ x ⊗ z ⊕ y ⊗ z
  add-mul x y z = mul_comm (x ⊕ y) z ∙ mul-add z x y ∙ ap₂ ◌⊕◌ (mul_comm z x) (mul_comm z y)

  pub mul-zero : (x : K) → x ⊗ 𝟘 ≡ 𝟘
  mul-zero x = ap (λ w. x ⊗ w) (sym (add_self 𝟘)) ∙ mul-add x 𝟘 𝟘 ∙ add_self (x ⊗ 𝟘)

  pub zero-mul : (x : K) → 𝟘 ⊗ x ≡ 𝟘
  zero-mul x = mul_comm 𝟘 x ∙ mul-zero x

  pub one-mul : (x : K) → 𝟙 ⊗ x ≡ x
  one-mul x = mul_comm 𝟙 x ∙ mul-one x

  pub ruleset ring = (add_assoc, add_comm, add_left_comm, add-zero, zero-add, add_self, add_cancel, mul_assoc, mul_comm, mul_left_comm, mul-one, one-mul, mul-zero, zero-mul, mul-add, add-mul)

  -- equations: what is zero, what is equal
  pub equal→zero : {x y : K} → x ≡ y → x ⊕ y ≡ 𝟘
  equal→zero {x} {y} h = ap (λ w. w ⊕ y) h ∙ add_self y

  pub zero→equal : {x y : K} → x ⊕ y ≡ 𝟘 → x ≡ y
  zero→equal {x} {y} h = simp ring at (ap (λ w. w ⊕ y) h)

  pub mul-inverse-left : (x y : K) → (x ≡ 𝟘 → ⊥) → inverse x ⊗ (x ⊗ y) ≡ y
  mul-inverse-left x y h = sym (mul_assoc (inverse x) x y) ∙ ap (λ w. w ⊗ y) (mul_comm (inverse x) x ∙ F.mul-inverse x h) ∙ one-mul y

  pub mul-inverse-right : (x y : K) → (x ≡ 𝟘 → ⊥) → x ⊗ (inverse x ⊗ y) ≡ y
  mul-inverse-right x y h = mul_left_comm x (inverse x) y ∙ mul-inverse-left x y h

  pub add_cancel_right : {x y : K} (z : K) → x ⊕ z ≡ y ⊕ z → x ≡ y
  add_cancel_right {x} {y} z h = simp ring at (ap (λ w. w ⊕ z) h)

  pub mul_cancel_right : {x y : K} (z : K) → (z ≡ 𝟘 → ⊥) → x ⊗ z ≡ y ⊗ z → x ≡ y
  mul_cancel_right {x} {y} z h e =
      sym (mul-inverse-left z x h) ∙ ap (λ w. inverse z ⊗ w) (mul_comm z x ∙ e ∙ mul_comm y z) ∙ mul-inverse-left z y h

  pub factor-zero : {x y : K} → (x ≡ 𝟘 → ⊥) → x ⊗ y ≡ 𝟘 → y ≡ 𝟘
  factor-zero {x} {y} h e = sym (mul-inverse-left x y h) ∙ ap (λ w. inverse x ⊗ w) e ∙ mul-zero (inverse x)

  pub mul_not_zero : {x y : K} → (x ≡ 𝟘 → ⊥) → (y ≡ 𝟘 → ⊥) → x ⊗ y ≡ 𝟘 → ⊥
  mul_not_zero h k e = k (factor-zero h e)

  pub add_twice : (x y : K) → x ⊕ y ⊕ y ≡ x
  add_twice x y = simp ring

  pub add-around : (x y : K) → x ⊕ (y ⊕ x) ≡ y
  add-around x y = simp ring
