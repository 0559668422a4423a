-- What the private function does, each byte said.
--   Merged may from before later == `merge`: each byte is one that `may` allows for the byte before and the byte of `from`; past the end of `from` it is kept
use Rattle.std.specs.Prelude.{◌≡◌, List, ℕ, ◌<◌, ◌≤◌, length, get_or}

pub record Merged (may : ℕ → ℕ → ℕ → Type 0) (from before later : List ℕ) : Type 0 where
  pub same_length : length later ≡ length before
  pub bytes : (j : ℕ) → j < length before → j < length from → may (get_or before j 0) (get_or from j 0) (get_or later j 0)
  pub kept : (j : ℕ) → length from ≤ j → get_or later j 0 ≡ get_or before j 0
