-- What the private functions promise, in the order in which the row solver calls them.
--   PowersAre points rows == `powers`: row t has every point to the power t
--   Products xs ys found  == `products`: number by number
--   Gained width p above row later == `gained`: each number of a row plus p times the one above it
--   staged factors f      == a column of numbers after a stage: the first stays, and each other gets its factor times the one above it, as that was before
--   RowsStaged width factors before later == `stage`: every column of a table so
--   dotted row found      == the sum of the four products
--   DotIs                 == `dot`
--   Triangle count rows   == in the first `count` rows, 0 below the diagonal and not 0 on it
--   Substituted count rows given found == `substituted`: found is four bytes, 0 past `count`; the first `count` rows times found are the numbers
--                            given, which are a table of one column
use Rattle.std.specs.Prelude.{◌≡◌, List, ℕ, zero, suc, ◌<◌, ◌≤◌, get_or}
use Rattle.field.specs.Number.{add, mul, power}
use Rattle.rules.specs.Equation.{sum_below}
use Rattle.rules.specs.Stripe.{IsBytes}
use Rattle.systems.specs.System.{entry}

pub record Products (xs ys found : List ℕ) : Type 0 where
  pub each : (j : ℕ) → j < 4 → get_or found j 0 ≡ mul (get_or xs j 0) (get_or ys j 0)

pub record PowersAre (points : List ℕ) (rows : List (List ℕ)) : Type 0 where
  pub each : (t j : ℕ) → t < 4 → j < 4 → entry rows t j ≡ power (get_or points j 0) t

pub record Gained (width p : ℕ) (above row later : List ℕ) : Type 0 where
  pub each : (j : ℕ) → j < width → get_or later j 0 ≡ add (get_or row j 0) (mul p (get_or above j 0))

unfoldable pub staged : List ℕ → (ℕ → ℕ) → ℕ → ℕ
staged factors f zero = f zero
staged factors f (suc i) = add (f (suc i)) (mul (get_or factors (suc i) 0) (f i))

pub record RowsStaged (width : ℕ) (factors : List ℕ) (before later : List (List ℕ)) : Type 0 where
  pub each : (i j : ℕ) → i < 4 → j < width → entry later i j ≡ staged factors (λ h. entry before h j) i

unfoldable pub dotted : (ℕ → ℕ) → (ℕ → ℕ) → ℕ
dotted row found = sum_below 4 (λ j. mul (row j) (found j))

pub record DotIs (row found : List ℕ) (sum : ℕ) : Type 0 where
  pub value : sum ≡ dotted (λ j. get_or row j 0) (λ j. get_or found j 0)

pub record Triangle (count : ℕ) (rows : List (List ℕ)) : Type 0 where
  pub below : (i j : ℕ) → i < count → j < i → entry rows i j ≡ 0
  pub pivot : (i : ℕ) → i < count → 0 < entry rows i i

pub record Substituted (count : ℕ) (rows given : List (List ℕ)) (found : List ℕ) : Type 0 where
  pub bytes : IsBytes 4 found
  pub sums : (i : ℕ) → i < count → dotted (entry rows i) (λ j. get_or found j 0) ≡ entry given i 0
  pub rest : (j : ℕ) → count ≤ j → get_or found j 0 ≡ 0
