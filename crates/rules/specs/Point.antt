-- Document 01, "Field, points and γ": the house's points and γ.
--   point_of sh i == point i, for i = 1 to 16: 2 to the power i − 1
--   γ            == 2
-- Sums, products and powers are those of crate `field`. The shape has no part in a point today: it is taken so that another rule of points changes this
-- definition alone.
use Rattle.std.specs.Prelude.{ℕ, ◌-◌}
use Rattle.field.specs.Number.{power}
use Rattle.rules.specs.declared.shapes.Shape.{Shape}

unfoldable pub point_of : Shape → ℕ → ℕ
point_of sh i = power 2 (i - 1)

unfoldable pub γ : ℕ
γ = 2
