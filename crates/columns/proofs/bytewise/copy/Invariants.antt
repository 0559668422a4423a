use Rattle.std.proofs.Common.{◌≡◌, ◌++◌, take, drop}
use Rattle.columns.proofs.bytewise.copy.Given as goal

abbrev pub invariant-loop-j : goal.invariant-loop-j
invariant-loop-j l = l.to ≡ take l.j l.from ++ drop l.j l.fn.to
