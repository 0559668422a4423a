-- The equations: document 01, "The equations"; source 000, (3) and (4), and (5) and (6) for Construction 2, gathered by point.
--   weighed o own other == the weight by its three cases, o being how the place u compares with the digit a_v
--   weight sh C a i     == the weight at row a of node i, place u of group v. The other symbol is that of the node at place a_v of group v, taken at
--                          the row that is a with digit v set to u
--   sum_below n f       == f 0 + f 1 + .. + f (n − 1), + being the field's `add`
--   sum_to n f          == f 1 + f 2 + .. + f n
--   equation sh C a t   == the sum, over i = 1 to m × s, of point i to the power t times the weight of node i at row a
--   MeetsRow sh C a     == row a meets its equations: for every t from 0 to r − 1 that sum is 0
--   Whole sh stripe     == every row of the stripe meets its equations. Its length, and that its numbers are bytes, are said by `IsBytes`, not here
--   all_rows sh         == the rows 0 to l − 1
--   LowestFailure sh C listed a t == of the rows listed, a is the lowest that fails, and t the lowest in it
use Rattle.std.specs.Prelude.{◌≡◌, List}
use Prim.Native.Nat.{ℕ, zero, suc, ◌*◌, ◌<◌, compare, Ordering}
use Rattle.field.specs.Number.{add, mul, power}
use Rattle.rules.specs.declared.shapes.Shape.{Shape}
use Rattle.rules.specs.Rising.{up_to, Listed}
use Rattle.rules.specs.Shape.{group_size, groups, rows, node, group, place, digit, with_digit}
use Rattle.rules.specs.Point.{point_of, γ}
use Rattle.rules.specs.Stripe.{Symbols, symbol}

unfoldable pub weighed : Ordering → ℕ → ℕ → ℕ
weighed Ordering.eq own other = own
weighed Ordering.gt own other = add own other
weighed Ordering.lt own other = add (mul γ own) other

unfoldable pub weight : Shape → Symbols → ℕ → ℕ → ℕ
weight sh C a i =
    weighed (compare (place sh i) (digit sh a (group sh i)))
    (C i a)
    (C (node sh (group sh i) (digit sh a (group sh i))) (with_digit sh a (group sh i) (place sh i)))

unfoldable pub sum_below : ℕ → (ℕ → ℕ) → ℕ
sum_below zero f = 0
sum_below (suc n) f = add (sum_below n f) (f n)

unfoldable pub sum_to : ℕ → (ℕ → ℕ) → ℕ
sum_to n f = sum_below n (λ j. f (suc j))

unfoldable pub equation : Shape → Symbols → ℕ → ℕ → ℕ
equation sh C a t = sum_to (groups sh * group_size sh) (λ i. mul (power (point_of sh i) t) (weight sh C a i))

abbrev pub MeetsRow : Shape → Symbols → ℕ → Type 0
MeetsRow sh C a = (t : ℕ) → t < sh.r → equation sh C a t ≡ 0

abbrev pub Whole : Shape → List ℕ → Type 0
Whole sh stripe = (a : ℕ) → a < rows sh → MeetsRow sh (symbol sh stripe) a

abbrev pub all_rows : Shape → List ℕ
all_rows sh = up_to (rows sh)

pub record LowestFailure (sh : Shape) (C : Symbols) (listed : List ℕ) (a t : ℕ) : Type 0 where
  pub row_listed : Listed a listed
  pub t-below : t < sh.r
  pub fails : equation sh C a t ≡ 0 → ⊥
  pub lower-rows : (b : ℕ) → Listed b listed → b < a → MeetsRow sh C b
  pub lower-t : (j : ℕ) → j < t → equation sh C a j ≡ 0
