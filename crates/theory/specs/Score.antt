-- The score of a row against a set of nodes: by it rows are settled one after the other. Some groups may be free, and do not count.
--   scored s free L a v == group v is not free and has in L the node that row a's digit names
--   score s m free L a  == how many groups v < m are scored
use Rattle.std.specs.Prelude.{Bool, not, ◌&&◌, ℕ}
use Rattle.theory.specs.Digit.{digit, node}
use Rattle.theory.specs.Set.{count}

abbrev pub scored : ℕ → (ℕ → Bool) → (ℕ → Bool) → ℕ → ℕ → Bool
scored s free L a v = not (free v) && L (node s v (digit s a v))

unfoldable pub score : ℕ → ℕ → (ℕ → Bool) → (ℕ → Bool) → ℕ → ℕ
score s m free L a = count m (scored s free L a)
