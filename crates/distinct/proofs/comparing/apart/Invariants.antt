use Rattle.distinct.specs.Promise.{Apart}
use Rattle.distinct.proofs.comparing.apart.Given as goal

abbrev pub invariant-loop-i : goal.invariant-loop-i
invariant-loop-i l = Apart l.i l.fn.points
