-- What the private functions promise, in the order in which they are called.
--   unit t                == the numbers given that are 1 at index t, and 0 else
--   ConstantsAre count points rows == `constants`: row t solves for the unit t
--   WeightsAre rows j weights == `weights_of`: what the rows have at column j
--   combined count size weights sums a == the sum, over the columns of sums, of each one's weight times its byte at row a
--   Combined, ColumnsAre  == `combine`, `write`: one column so; every column j, by the constants that the rows have at column j
use Rattle.std.specs.Prelude.{◌≡◌, List, [], ◌∷◌, ℕ, zero, suc, ◌<◌, length, get_or}
use Rattle.field.specs.Number.{mul}
use Rattle.rules.specs.Equation.{sum_below}
use Rattle.systems.specs.System.{Solves, entry}
use Rattle.solver.specs.Solve.{columns_at}

abbrev pub unit : ℕ → List ℕ
unit zero = 1 ∷ 0 ∷ 0 ∷ 0 ∷ []
unit (suc zero) = 0 ∷ 1 ∷ 0 ∷ 0 ∷ []
unit (suc (suc zero)) = 0 ∷ 0 ∷ 1 ∷ 0 ∷ []
unit (suc (suc (suc t))) = 0 ∷ 0 ∷ 0 ∷ 1 ∷ []

pub record ConstantsAre (count : ℕ) (points : List ℕ) (rows : List (List ℕ)) : Type 0 where
  pub each : (t : ℕ) → t < 4 → Solves count points (unit t) (get_or rows t [])

pub record WeightsAre (rows : List (List ℕ)) (j : ℕ) (weights : List ℕ) : Type 0 where
  pub each : (t : ℕ) → t < 4 → get_or weights t 0 ≡ entry rows t j

unfoldable pub combined : ℕ → ℕ → (ℕ → ℕ) → List ℕ → ℕ → ℕ
combined count size weights sums a = sum_below count (λ t. mul (weights t) (columns_at size sums a t))

pub record Combined (count : ℕ) (weights sums before later : List ℕ) : Type 0 where
  pub same_length : length later ≡ length before
  pub bytes : (a : ℕ) → a < length before → get_or later a 0 ≡ combined count (length before) (λ t. get_or weights t 0) sums a

pub record ColumnsAre (count : ℕ) (rows : List (List ℕ)) (size : ℕ) (sums before later : List ℕ) : Type 0 where
  pub same_length : length later ≡ length before
  pub bytes : (j a : ℕ) → j < count → a < size → columns_at size later a j ≡ combined count size (λ t. entry rows t j) sums a
