-- What each public function promises of its result, for every input.
--   SumIs a b r      == `add`: r is the sum of a and b
--   DoubleIs a r     == `double`: r is the product of a and 2
--   ProductIs a b r  == `times`, and `mul` of crate `tables`: r is the product of a and b
use Rattle.std.specs.Prelude.{◌≡◌, ℕ}
use Rattle.field.specs.Number.{add, mul}

pub record SumIs (a b r : ℕ) : Type 0 where
  pub value : r ≡ add a b

pub record DoubleIs (a r : ℕ) : Type 0 where
  pub value : r ≡ mul a 2

pub record ProductIs (a b r : ℕ) : Type 0 where
  pub value : r ≡ mul a b
