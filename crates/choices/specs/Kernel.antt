-- One point of a list.
--   PointAt sh i p == the point of the node that counts as i from 0, or 0 where i isn't below 16
use Rattle.std.specs.Prelude.{◌≡◌, ℕ, suc, ◌<◌, ◌≤◌}
use Rattle.rules.specs.declared.shapes.Shape.{Shape}
use Rattle.rules.specs.Point.{point_of}

pub record PointAt (sh : Shape) (i p : ℕ) : Type 0 where
  pub inside : i < 16 → p ≡ point_of sh (suc i)
  pub outside : 16 ≤ i → p ≡ 0
