-- What `solve_rows` promises, for every input. `before` is what the column holds at the call, `later` what it holds when the function returns.
--   spread sh f col a t       == what a column of node f brings to equation t of row a, one that is read for f: the sum, over the places u of f's group, of the
--                               point of the node there to the power t times the column's symbol at row a with the group's digit set to u
--                               (`equation-column` of crates/rebuild/proofs/Finding.antt: the equation is that of the others and this)
--   RowsSolved sh f sums later == later is l bytes, and what it brings to the equations of the rows read are the sums
--   Recoverable sh f sums column == the shape is accepted, f is one of its nodes, and the lengths are exact
--   SolveRowsIs == `solve_rows`: done exactly so, and then every later byte is settled by the sums; else a misfit, and nothing is written
use Rattle.std.specs.Prelude.{◌≡◌, List, ℕ, ◌+◌, ◌*◌, ◌<◌, ◌≤◌, length, get_or, Result, OnOk, OnErr}
use Rattle.std.proofs.Math.Option.{none}
use Rattle.field.specs.Number.{mul, power}
use Rattle.rules.specs.declared.refusals.Misfit.{Misfit}
use Rattle.rules.specs.declared.shapes.Shape.{Shape}
use Rattle.rules.specs.Shape.{group_size, rows, node, group, with_digit}
use Rattle.rules.specs.Point.{point_of}
use Rattle.rules.specs.Refusal.{shape_refusal}
use Rattle.rules.specs.Stripe.{IsBytes}
use Rattle.rules.specs.Equation.{sum_below}
use Rattle.rules.specs.Fraction.{rows_read, fraction_length}

unfoldable pub spread : Shape → ℕ → List ℕ → ℕ → ℕ → ℕ
spread sh f col a t =
    sum_below (group_size sh) (λ u. mul (power (point_of sh (node sh (group sh f) u)) t) (get_or col (with_digit sh a (group sh f) u) 0))

pub record RowsSolved (sh : Shape) (f : ℕ) (sums later : List ℕ) : Type 0 where
  pub bytes : IsBytes (rows sh) later
  pub solved : (t j : ℕ) → t < sh.r → j < fraction_length sh
      → spread sh f later (get_or (rows_read sh f) j 0) t ≡ get_or sums (t * fraction_length sh + j) 0

pub record Recoverable (sh : Shape) (f : ℕ) (sums column : List ℕ) : Type 0 where
  pub taken : shape_refusal sh ≡ none
  pub sums-exact : length sums ≡ sh.r * fraction_length sh
  pub column-exact : length column ≡ rows sh
  pub first : 1 ≤ f
  pub last : f ≤ sh.n

pub record SolveRowsIs (sh : Shape) (f : ℕ) (sums before : List ℕ) (answer : Result (Unit {0}) Misfit) (later : List ℕ) : Type 0 where
  pub can : OnOk answer (Recoverable sh f sums before)
  pub solved : OnOk answer (RowsSolved sh f sums later)
  pub cannot : OnErr answer (Recoverable sh f sums before → ⊥)
  pub kept : OnErr answer (later ≡ before)
