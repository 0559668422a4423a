-- What `add_fraction` promises: its answer and every later byte of the sums, on every input and under every refusal. `later` is what the buffer holds when it
-- returns.
--   Added sh failed helper given before later == to the r sums of every row read is added what the helper's fraction alone brings to its equations; those
--                    of t = 0 stand first, and the rows read in rising order
--   AddMeets      == `add_fraction`
use Rattle.std.specs.Prelude.{◌≡◌, List, ℕ, ◌+◌, ◌*◌, ◌<◌, length, get_or, Result}
use Rattle.std.proofs.Math.Option.{none, some}
use Rattle.field.specs.Number.{add}
use Rattle.rules.specs.declared.shapes.Shape.{Shape}
use Rattle.rules.specs.Equation.{equation}
use Rattle.rules.specs.Fraction.{rows_read, fraction_length, alone}
use Rattle.rules.specs.declared.refusals.Refusal.{Refusal}
use Rattle.rules.specs.Refusal.{refusal_of}
use Rattle.fractions.specs.Refusal.{add_refusal}

pub record Added (sh : Shape) (failed helper : ℕ) (given before later : List ℕ) : Type 0 where
  pub same_length : length later ≡ length before
  pub bytes : (t j : ℕ) → t < sh.r → j < fraction_length sh
      → get_or later (t * fraction_length sh + j) 0
      ≡ add (get_or before (t * fraction_length sh + j) 0) (equation sh (alone sh failed helper given) (get_or (rows_read sh failed) j 0) t)

pub record AddMeets (sh : Shape) (failed helper : ℕ) (given sums : List ℕ) (answer : Result (Unit {0}) Refusal) (later : List ℕ) : Type 0 where
  pub answered : refusal_of answer ≡ add_refusal sh failed helper given sums
  pub written : add_refusal sh failed helper given sums ≡ none → Added sh failed helper given sums later
  pub kept : (q : ℕ) → add_refusal sh failed helper given sums ≡ some q → later ≡ sums
