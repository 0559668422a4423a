-- What `unknowns` promises, for every input.
--   Solvable count points size sums found == what it is given can be solved: at most 4 points, which differ, columns of at most 256 bytes, and as many
--                      bytes of sums, and to write, as the columns have
--   UnknownsAre == `unknowns`: done exactly where it can be solved, and then every later byte is settled by what is solved; else a misfit, and nothing is
--                      written
use Rattle.std.specs.Prelude.{◌≡◌, List, ℕ, ◌*◌, ◌≤◌, length, Result, OnOk, OnErr}
use Rattle.rules.specs.declared.refusals.Misfit.{Misfit}
use Rattle.rules.specs.Stripe.{IsBytes}
use Rattle.distinct.specs.Promise.{Apart}
use Rattle.solver.specs.Solve.{Solved}

pub record Solvable (count : ℕ) (points : List ℕ) (size : ℕ) (sums found : List ℕ) : Type 0 where
  pub few : count ≤ 4
  pub short : size ≤ 256
  pub sums-exact : length sums ≡ count * size
  pub found-exact : length found ≡ count * size
  pub apart : Apart count points

pub record UnknownsAre (count : ℕ) (points : List ℕ) (size : ℕ) (sums before : List ℕ) (answer : Result (Unit {0}) Misfit) (later : List ℕ) : Type 0 where
  pub can : OnOk answer (Solvable count points size sums before)
  pub bytes : OnOk answer (IsBytes (count * size) later)
  pub solved : OnOk answer (Solved count points size sums later)
  pub cannot : OnErr answer (Solvable count points size sums before → ⊥)
  pub kept : OnErr answer (later ≡ before)
