use mathlib.Core.Bool.{Bool, cond}
use mathlib.Core.List.{List}
use Prim.Native.Nat.{ℕ}
use lib.Dec.{eqb}
use lib.ListN.{length, get_or}
use Rattle.field.specs.Number.{add}
use Rattle.columns.proofs.Carrying.{Carried}
use Rattle.columns.proofs.Kernels.{Written}
use Rattle.corrections.specs.Kernel.{correction_at}
use Rattle.corrections.proofs.correcting.Group.correct_column.Given as goal

-- the byte to come at row a, z being the correction
abbrev pub byte_at : List ℕ → ℕ → List ℕ → ℕ → ℕ → ℕ
byte_at scores level before a z = cond (eqb (get_or scores a 0) level) (add (get_or before a 0) z) (get_or before a 0)

abbrev pub corrected_at : ℕ → ℕ → List ℕ → ℕ → List Bool → ℕ → List ℕ → ℕ → List ℕ → ℕ → ℕ
corrected_at s w group first flags u scores level before a = byte_at scores level before a (correction_at s w (length before) group first flags u a)

abbrev pub invariant-loop-a : goal.invariant-loop-a
invariant-loop-a l = record {
  written : Written (corrected_at l.self.z.s l.self.w l.self.short.now l.self.first l.asked.flags l.u l.asked.scores.now l.asked.level l.initial.column) l.a l.initial.column l.column;
  carried : Carried l.self.z.s l.self.w l.a l.d l.j;
}
