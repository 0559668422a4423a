-- What the private function for one column does. s is the size of a group; nodes count from 0.
--   correction_at s w l group first flags u a == what is added at row a for the node at place u of the group whose first node is `first`, w being what a 1
--                         as the group's digit counts; `group` holds what the weights of the group's nodes fall short by, columns of length l end to end
--   ColumnCorrected == `Group::correct_column`: at the rows of the score asked for that is added, other rows stay
use Rattle.std.specs.Prelude.{◌≡◌, Bool, cond, List, eqb, length, get_or}
use Prim.Native.Nat.{ℕ, ◌+◌, ◌-◌, ◌*◌, ◌/◌, ◌%◌, ◌<◌, compare}
use Rattle.field.specs.Number.{add}
use Rattle.corrections.specs.Correction.{chosen, correction_by}

unfoldable pub correction_at : ℕ → ℕ → ℕ → List ℕ → ℕ → List Bool → ℕ → ℕ → ℕ
correction_at s w l group first flags u a =
    correction_by (compare u (a / w % s)) (chosen flags (first + a / w % s))
    (get_or group (u * l + a) 0)
    (get_or group (a / w % s * l + (a - a / w % s * w + u * w)) 0)

pub record ColumnCorrected (s w : ℕ) (group : List ℕ) (first : ℕ) (flags : List Bool) (u : ℕ) (scores : List ℕ) (level : ℕ) (before later : List ℕ)
    : Type 0 where
  pub same_length : length later ≡ length before
  pub bytes : (a : ℕ) → a < length before
      → get_or later a 0
      ≡ cond (eqb (get_or scores a 0) level) (add (get_or before a 0) (correction_at s w (length before) group first flags u a)) (get_or before a 0)
