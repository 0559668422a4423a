use Rattle.std.proofs.Common.{◌≡◌, ℕ, ◌<◌, get_or}
use Rattle.yebarg.specs.Kernel.{row_at}
use Rattle.yebarg.proofs.cutting.take_rows.Given as goal

abbrev pub invariant-loop-j : goal.invariant-loop-j
invariant-loop-j l = (k : ℕ) → k < l.j → get_or l.fraction k 0 ≡ get_or l.column (row_at l.s l.w l.u k) 0
