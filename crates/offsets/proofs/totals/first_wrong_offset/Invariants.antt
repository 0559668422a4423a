use mathlib.Core.Path.{◌≡◌}
use mathlib.Core.Bool.{false}
use Prim.Native.Nat.{ℕ, ◌<◌}
use Rattle.offsets.specs.Promise.{wrong_offset_by}
use Rattle.offsets.proofs.totals.first_wrong_offset.Given as goal

abbrev pub invariant-loop-e : goal.invariant-loop-e
invariant-loop-e l = (d : ℕ) → d < l.e → wrong_offset_by l.pack l.start l.l d ≡ false
