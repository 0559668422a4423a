-- What theory assumes of a code can be met: the field of `Numbers`, the powers of 2 as points and γ = 2 are lawful for any groups of at most 255
-- places in all.
--   powers_of_two s m == that code
use Prim.Native.Nat.{ℕ, ◌*◌, ◌<◌, ◌≤◌}
use native.Mathlib.Omega.{arith}
use Rattle.theory.specs.Code.{Code, Lawful}
use Rattle.field.specs.Number.{power}
use Rattle.field.proofs.Numbers.{numbers, number, number_injective, two_not_zero, two_not_one}
use Rattle.field.proofs.Powers.{power_below}
use Rattle.field.proofs.Logarithms.{powers-once}

abbrev pub powers_of_two : ℕ → ℕ → Code
powers_of_two s m = record { field = numbers; s = s; m = m; point = λ i. number (power 2 i); γ = number 2 }

pub powers_of_two_lawful : (s m : ℕ) → 0 < s → m * s ≤ 255 → Lawful (powers_of_two s m)
powers_of_two_lawful s m some few = record {
  some-place = some;
  distinct = λ i j il jl e.
      powers-once i j (omega arith) (omega arith) (number_injective (power 2 i) (power 2 j) (power_below 2 i) (power_below 2 j) e);
  γ_not_zero = two_not_zero;
  γ_not_one = two_not_one;
}
