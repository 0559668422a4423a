use mathlib.Core.Bool.{Bool, cond}
use mathlib.Core.List.{List}
use Prim.Native.Nat.{ℕ, ◌+◌, ◌*◌}
use lib.ListN.{get_or}
use Rattle.corrections.specs.Correction.{chosen}
use Rattle.columns.proofs.Columns.{ColumnsTo}
use Rattle.lost.proofs.copying.copy_columns.Given as goal

-- the byte to come at row a of column i
abbrev pub copied_at : List Bool → ℕ → List ℕ → List ℕ → ℕ → ℕ → ℕ
copied_at flags l from before i a = cond (chosen flags i) (get_or from (i * l + a) 0) (get_or before (i * l + a) 0)

abbrev pub invariant-loop-i : goal.invariant-loop-i
invariant-loop-i l = ColumnsTo (copied_at l.flags l.l l.from l.initial.to) l.l l.i l.initial.to l.to
