use mathlib.Core.Path.{◌≡◌}
use Prim.Native.Nat.{ℕ, ◌<◌, ◌+◌, ◌*◌}
use lib.ListN.{get_or}
use Rattle.sums.proofs.testing.lowest.Given as goal

abbrev pub invariant-loop-row : goal.invariant-loop-row
invariant-loop-row l = (b j : ℕ) → b < l.row → j < l.z.shape.r → get_or l.sums (j * l.z.l + b) 0 ≡ 0

abbrev pub invariant-loop-t : goal.invariant-loop-t
invariant-loop-t l = record {
  rows : (b j : ℕ) → b < l.row → j < l.z.shape.r → get_or l.sums (j * l.z.l + b) 0 ≡ 0;
  ts : (j : ℕ) → j < l.t → get_or l.sums (j * l.z.l + l.row) 0 ≡ 0;
}
