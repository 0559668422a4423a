-- Systems in powers of points. Sums, products and powers are those of crate `field`; power 0 of every number is 1, of 0 too.
--   entry rows i j == of a table, what row i has at column j
--   moment count points x t == the sum, over j from 0 to count − 1, of point j to the power t times x j
--   Solves count points given found == found is four bytes; its sums of powers times unknowns are the numbers given, for t from 0 to count − 1; what lies past
--                         `count` is 0
use Rattle.std.specs.Prelude.{◌≡◌, List, [], ℕ, ◌<◌, ◌≤◌, get_or}
use Rattle.field.specs.Number.{mul, power}
use Rattle.rules.specs.Equation.{sum_below}
use Rattle.rules.specs.Stripe.{IsBytes}

abbrev pub entry : List (List ℕ) → ℕ → ℕ → ℕ
entry rows i j = get_or (get_or rows i []) j 0

unfoldable pub moment : ℕ → List ℕ → (ℕ → ℕ) → ℕ → ℕ
moment count points x t = sum_below count (λ j. mul (power (get_or points j 0) t) (x j))

pub record Solves (count : ℕ) (points given found : List ℕ) : Type 0 where
  pub bytes : IsBytes 4 found
  pub sums : (t : ℕ) → t < count → moment count points (λ j. get_or found j 0) t ≡ get_or given t 0
  pub rest : (j : ℕ) → count ≤ j → get_or found j 0 ≡ 0
