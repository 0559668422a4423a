-- What the private functions do, each byte said. s is the size of a group, w what a 1 as the group's digit counts (`worth`), l how
-- many rows are read.
--   Gained r l gains before later == to the r sums of every row is added what `gains` has for that t and row
--   gain sh first s weights t a == the sum, over the s nodes after node `first`, of point to the power t times weight
--   lone h given u a     == what place u has at row a in a group of which only place h has a column that isn't zeros, `given`
--   weight_of s w columns u a == `weight_at` of a group by what each place has at each row
--   factor_of h u        == `factor`: what the weight of the node at place h has of its own symbol at a row with the digit u, which isn't h
--   left_out g v         == `left_out`: the number from 1 of group g's digit among the others, where that of group v is left out; g and v count from 0
use Rattle.std.specs.Prelude.{◌≡◌, cond, List, eqb, ltb, length, get_or}
use Prim.Native.Nat.{ℕ, suc, ◌+◌, ◌-◌, ◌*◌, ◌/◌, ◌%◌, ◌<◌, compare}
use Rattle.field.specs.Number.{add, mul, power}
use Rattle.rules.specs.declared.shapes.Shape.{Shape}
use Rattle.rules.specs.Point.{point_of, γ}
use Rattle.rules.specs.Equation.{weighed, sum_below}

pub record Gained (r l : ℕ) (gains : ℕ → ℕ → ℕ) (before later : List ℕ) : Type 0 where
  pub same_length : length later ≡ length before
  pub bytes : (t a : ℕ) → t < r → a < l → get_or later (t * l + a) 0 ≡ add (get_or before (t * l + a) 0) (gains t a)

unfoldable pub gain : Shape → ℕ → ℕ → (ℕ → ℕ → ℕ) → ℕ → ℕ → ℕ
gain sh first s weights t a = sum_below s (λ x. mul (power (point_of sh (suc (first + x))) t) (weights x a))

unfoldable pub lone : ℕ → List ℕ → ℕ → ℕ → ℕ
lone h given u a = cond (eqb u h) (get_or given a 0) 0

unfoldable pub weight_of : ℕ → ℕ → (ℕ → ℕ → ℕ) → ℕ → ℕ → ℕ
weight_of s w columns u a = weighed (compare u (a / w % s)) (columns u a) (columns (a / w % s) (a - a / w % s * w + u * w))

unfoldable pub factor_of : ℕ → ℕ → ℕ
factor_of h u = cond (ltb u h) 1 γ

unfoldable pub left_out : ℕ → ℕ → ℕ
left_out g v = cond (ltb g v) (g + 1) g
