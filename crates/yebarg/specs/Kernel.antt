-- What the private functions over the bytes of columns do, each byte said: s is the size of a group, w what a 1 as the group's digit counts (`worth`).
--   row_at s w u j       == the row that has u as the digit that counts w, and j such rows before it
--   Taken s w u col before later == `take_rows`: the column's bytes at these rows
use Rattle.std.specs.Prelude.{◌≡◌, List, ℕ, ◌+◌, ◌*◌, ◌/◌, ◌%◌, ◌<◌, length, get_or}

unfoldable pub row_at : ℕ → ℕ → ℕ → ℕ → ℕ
row_at s w u j = j / w * (w * s) + u * w + j % w

pub record Taken (s w u : ℕ) (col before later : List ℕ) : Type 0 where
  pub same_length : length later ≡ length before
  pub bytes : (j : ℕ) → j < length before → get_or later j 0 ≡ get_or col (row_at s w u j) 0
