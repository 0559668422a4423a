-- Columns of unknowns.
--   columns_at size list a == of columns of that size that stand end to end, what each has at row a
--   Solved count points size sums found == at every row, found's sums of powers times unknowns are the sums
use Rattle.std.specs.Prelude.{◌≡◌, List, ℕ, ◌+◌, ◌*◌, ◌<◌, get_or}
use Rattle.systems.specs.System.{moment}

abbrev pub columns_at : ℕ → List ℕ → ℕ → ℕ → ℕ
columns_at size list a j = get_or list (j * size + a) 0

abbrev pub Solved : ℕ → List ℕ → ℕ → List ℕ → List ℕ → Type 0
Solved count points size sums found =
    (a t : ℕ) → a < size → t < count → moment count points (columns_at size found a) t ≡ columns_at size sums a t
