-- A node's column as a part of the stripe. In order: it is within the 4,096 bytes; it is the column.
--   a_column == both
use mathlib.Core.Path.{◌≡◌, ap}
use mathlib.Core.List.{List}
use Prim.Native.Nat.{ℕ, ◌+◌, ◌-◌, ◌*◌, ◌<◌, ◌≤◌}
use native.Mathlib.Nat.{mul-le-mul, add-sub_cancel_left}
use native.Mathlib.Omega.{arith}
use lib.ListN.{take, drop}
use Rattle.std.proofs.lemmas.Grind.{common_steps}
use Rattle.rules.specs.declared.shapes.Sizes.{Sizes}
use Rattle.rules.specs.Shape.{rows}
use Rattle.rules.specs.Stripe.{column, column_start}
use Rattle.columns.proofs.Kernels.{column-within}

pub column_within : (z : Sizes) (i : ℕ) → 1 ≤ i → i ≤ z.shape.n → (i - 1) * z.l + z.l ≤ 4096
column_within z i least most =
    let before : i - 1 < z.shape.n = omega arith in
    omega (arith, column-within z.l before, mul-le-mul z.of_shape.n-most z.of_shape.l-most)

pub column_is : (z : Sizes) (i : ℕ) (stripe : List ℕ)
    → take ((i - 1) * z.l + z.l - (i - 1) * z.l) (drop ((i - 1) * z.l) stripe) ≡ column z.shape stripe i
unfolding column column_start
column_is z i stripe =
    let l = rows z.shape in
    rw z.of_shape.l-is (ap (λ k. take k (drop ((i - 1) * l) stripe)) (add-sub_cancel_left ((i - 1) * l) l))

pub ruleset a_column = (common_steps, column_within, column_is)
