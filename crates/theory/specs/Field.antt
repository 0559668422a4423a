-- A field of characteristic 2: operations and laws, and nothing else is used of the numbers anywhere in this crate.
--   K         == the numbers
--   zero, one == 0 and 1
--   add, mul  == sum and product
--   inverse   == of a number other than 0, the number whose product with it is 1; at 0 nothing is said of it
use Rattle.std.specs.Prelude.{◌≡◌}

pub record Field : Type 1 where
  pub K : Type 0
  pub zero : K
  pub one : K
  pub add : K → K → K
  pub mul : K → K → K
  pub inverse : K → K
  pub add_assoc : (x y z : K) → add (add x y) z ≡ add x (add y z)
  pub add_comm : (x y : K) → add x y ≡ add y x
  pub add-zero : (x : K) → add x zero ≡ x
  pub add_self : (x : K) → add x x ≡ zero
  pub mul_assoc : (x y z : K) → mul (mul x y) z ≡ mul x (mul y z)
  pub mul_comm : (x y : K) → mul x y ≡ mul y x
  pub mul-one : (x : K) → mul x one ≡ x
  pub mul-add : (x y z : K) → mul x (add y z) ≡ add (mul x y) (mul x z)
  pub one_not_zero : one ≡ zero → ⊥
  pub mul-inverse : (x : K) → (x ≡ zero → ⊥) → mul x (inverse x) ≡ one
