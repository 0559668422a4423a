use Rattle.std.proofs.Common.{ℕ, ◌<◌, slice_index_or, false}
use Rattle.lost.proofs.flagging.flags_by.Given as goal

abbrev pub invariant-loop-i : goal.invariant-loop-i
invariant-loop-i g l = (k : ℕ) → k < l.i → g.F.Fn.post l.is (k, tt) (slice_index_or l.flag-items k false)
