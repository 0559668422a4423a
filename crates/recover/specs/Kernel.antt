-- What the private functions do, each byte said.
--   PointsAre sh first points == `points_after`: what `point` answers for the four nodes after node `first`
--   position_of s w a         == how many rows with a's digit where a 1 counts w come before row a
--   Put s w size found before later == `put_rows`: at row a stands what `found` has in the column of the row's digit, at the row's position
use Rattle.std.specs.Prelude.{◌≡◌, List, ℕ, ◌+◌, ◌*◌, ◌/◌, ◌%◌, ◌<◌, length, get_or}
use Rattle.rules.specs.declared.shapes.Shape.{Shape}
use Rattle.rules.specs.Promise.{PointIs}

pub record PointsAre (sh : Shape) (first : ℕ) (points : List ℕ) : Type 0 where
  pub each : (u : ℕ) → u < 4 → PointIs sh (first + (u + 1)) (get_or points u 0)

abbrev pub position_of : ℕ → ℕ → ℕ → ℕ
position_of s w a = a / (w * s) * w + a % w

pub record Put (s w size : ℕ) (found before later : List ℕ) : Type 0 where
  pub same_length : length later ≡ length before
  pub bytes : (a : ℕ) → a < length before → get_or later a 0 ≡ get_or found (a / w % s * size + position_of s w a) 0
