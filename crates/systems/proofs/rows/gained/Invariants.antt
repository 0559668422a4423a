use mathlib.Core.Path.{◌≡◌}
use Prim.Native.Nat.{ℕ, ◌<◌, ◌≤◌}
use mathlib.Core.List.{List}
use lib.ListN.{length, get_or}
use Rattle.field.specs.Number.{add, mul}
use Rattle.systems.proofs.rows.gained.Given as goal

pub record GainedTo (p j : ℕ) (above before row : List ℕ) : Type 0 where
  pub exact : length row ≡ length before
  pub done : (k : ℕ) → k < j → get_or row k 0 ≡ add (get_or before k 0) (mul p (get_or above k 0))
  pub kept : (k : ℕ) → j ≤ k → get_or row k 0 ≡ get_or before k 0

abbrev pub invariant-loop-j : goal.invariant-loop-j
invariant-loop-j g l = GainedTo l.p l.j l.above l.initial.row l.row
