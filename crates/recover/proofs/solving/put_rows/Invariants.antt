use mathlib.Core.Path.{◌≡◌}
use Prim.Native.Nat.{ℕ, ◌<◌, ◌+◌, ◌*◌, ◌/◌, ◌%◌}
use lib.ListN.{get_or}
use Rattle.columns.proofs.Kernels.{Written}
use Rattle.recover.specs.Kernel.{position_of}
use Rattle.recover.proofs.solving.put_rows.Given as goal

-- row a by its digit d where a 1 counts w, and what stands above and below it
pub record Split (s w a above d j : ℕ) : Type 0 where
  pub whole : a ≡ (above * s + d) * w + j
  pub digit-small : d < s
  pub below-small : j < w

abbrev pub invariant-loop-byte : goal.invariant-loop-byte
invariant-loop-byte l = Written (λ b. get_or l.found (b / l.w % l.s * l.size + position_of l.s l.w b) 0) l.byte-index l.initial.column l.column × Split l.s l.w l.byte-index l.above l.d l.j
