-- What each function promises, for every input: its answer and every later byte of the sums. All is in plain numbers: s is the size of a group, w what a 1 as
-- the group's digit counts (`worth`), l the length of a column, p a point. What lies past the end of a buffer counts as 0, so that a phantom's column need
-- not be there.
--   weight_at s w l group u a == the weight at row a of the node at place u of the group whose columns stand end to end in `group`, where w × s divides l, as it
--                       does in every shape (`part-weight` of crates/sums/proofs/Groups.antt); elsewhere it may read past a column's end
--   Shared r p l weights before later == to the r sums of every row is added the point p to the power t times the weight at that row; those of t = 0 stand
--                       first
--   Shareable r weights sums == what `add_shares` is given fits together: at most 4 sums for each of at most 256 weights, and as many sums as that is
--   SharesAre   == `add_shares`: Ok exactly where it fits together, and then the weights are shared out; else nothing is written
--   Addable s w l u r sums == what `add_node` is given fits together: w is 1 to 256, u a place of a group of at most 4, and at most 4 sums for each of at most
--                       256 rows, as many sums as that is
--   NodeAdded   == `add_node`: Ok exactly where it fits together, and then the node's weights are shared out; else nothing is written
use Rattle.std.specs.Prelude.{◌≡◌, List, length, get_or, Result, OnOk, OnErr}
use Prim.Native.Nat.{ℕ, ◌+◌, ◌-◌, ◌*◌, ◌/◌, ◌%◌, ◌<◌, ◌≤◌, compare}
use Rattle.field.specs.Number.{add, mul, power}
use Rattle.rules.specs.declared.refusals.Misfit.{Misfit}
use Rattle.rules.specs.Equation.{weighed}

unfoldable pub weight_at : ℕ → ℕ → ℕ → List ℕ → ℕ → ℕ → ℕ
weight_at s w l group u a =
    weighed (compare u (a / w % s)) (get_or group (u * l + a) 0) (get_or group (a / w % s * l + (a - a / w % s * w + u * w)) 0)

pub record Shared (r p l : ℕ) (weights : ℕ → ℕ) (before later : List ℕ) : Type 0 where
  pub same_length : length later ≡ length before
  pub bytes : (t a : ℕ) → t < r → a < l → get_or later (t * l + a) 0 ≡ add (get_or before (t * l + a) 0) (mul (power p t) (weights a))

pub record Shareable (r : ℕ) (weights sums : List ℕ) : Type 0 where
  pub few : r ≤ 4
  pub short : length weights ≤ 256
  pub exact : length sums ≡ r * length weights

pub record SharesAre (r p : ℕ) (weights before : List ℕ) (answer : Result (Unit {0}) Misfit) (later : List ℕ) : Type 0 where
  pub can : OnOk answer (Shareable r weights before)
  pub shared : OnOk answer (Shared r p (length weights) (λ a. get_or weights a 0) before later)
  pub cannot : OnErr answer (Shareable r weights before → ⊥)
  pub kept : OnErr answer (later ≡ before)

pub record Addable (s w l u r : ℕ) (sums : List ℕ) : Type 0 where
  pub counts : 0 < w
  pub counts-most : w ≤ 256
  pub inside : u < s
  pub size-most : s ≤ 4
  pub few : r ≤ 4
  pub short : l ≤ 256
  pub exact : length sums ≡ r * l

pub record NodeAdded (s w l u r p : ℕ) (group before : List ℕ) (answer : Result (Unit {0}) Misfit) (later : List ℕ) : Type 0 where
  pub can : OnOk answer (Addable s w l u r before)
  pub shared : OnOk answer (Shared r p l (weight_at s w l group u) before later)
  pub cannot : OnErr answer (Addable s w l u r before → ⊥)
  pub kept : OnErr answer (later ≡ before)
