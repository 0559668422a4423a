-- What the private functions do, each byte said. l is the length of a column.
--   partial sh C i a t   == the sum of an equation over the nodes 1 to i
--   SumsAre sh C i sums  == `sums` holds these sums, those of t = 0 for every row first
--   AllZero r l sums     == every sum is 0
--   FirstRow r l sums a t == a is the lowest row with a sum that isn't 0, and t the lowest in it
--   FoundIn r l sums answer == `lowest`: the lowest row, and in it the lowest t, whose sum isn't 0
use Rattle.std.specs.Prelude.{◌≡◌, ◌≢◌, List, ℕ, ◌+◌, ◌*◌, ◌<◌, length, get_or, Option, None, Some}
use Rattle.field.specs.Number.{mul, power}
use Rattle.rules.specs.declared.shapes.Shape.{Shape}
use Rattle.rules.specs.Shape.{rows}
use Rattle.rules.specs.Point.{point_of}
use Rattle.rules.specs.Stripe.{Symbols}
use Rattle.rules.specs.Equation.{weight, sum_to}
use Rattle.sums.specs.declared.answers.Failure.{Failure}

unfoldable pub partial : Shape → Symbols → ℕ → ℕ → ℕ → ℕ
partial sh C i a t = sum_to i (λ j. mul (power (point_of sh j) t) (weight sh C a j))

pub record SumsAre (sh : Shape) (C : Symbols) (i : ℕ) (sums : List ℕ) : Type 0 where
  pub all : length sums ≡ sh.r * rows sh
  pub bytes : (t a : ℕ) → t < sh.r → a < rows sh → get_or sums (t * rows sh + a) 0 ≡ partial sh C i a t

abbrev pub AllZero : ℕ → ℕ → List ℕ → Type 0
AllZero r l sums = (a t : ℕ) → a < l → t < r → get_or sums (t * l + a) 0 ≡ 0

pub record FirstRow (r l : ℕ) (sums : List ℕ) (a t : ℕ) : Type 0 where
  pub row_below : a < l
  pub t-below : t < r
  pub fails : get_or sums (t * l + a) 0 ≢ 0
  pub lower-rows : (b j : ℕ) → b < a → j < r → get_or sums (j * l + b) 0 ≡ 0
  pub lower-t : (j : ℕ) → j < t → get_or sums (j * l + a) 0 ≡ 0

abbrev pub FoundIn : ℕ → ℕ → List ℕ → Option Failure → Type 0
FoundIn r l sums None = AllZero r l sums
FoundIn r l sums (Some f) = FirstRow r l sums f.row f.t
