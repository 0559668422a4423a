-- What a private function does, each byte said.
--   Weighed s w group u before later == `weigh`: later holds the weights, at all rows, of the node at place u of the group
use Rattle.std.specs.Prelude.{◌≡◌, List, ℕ, ◌<◌, length, get_or}
use Rattle.weights.specs.Promise.{weight_at}

pub record Weighed (s w : ℕ) (group : List ℕ) (u : ℕ) (before later : List ℕ) : Type 0 where
  pub same_length : length later ≡ length before
  pub bytes : (a : ℕ) → a < length before → get_or later a 0 ≡ weight_at s w (length before) group u a
