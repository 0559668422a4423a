use Rattle.solver.proofs.Combining.{CombinedTo}
use Rattle.solver.proofs.solving.combine.Given as goal

abbrev pub invariant-loop-t : goal.invariant-loop-t
invariant-loop-t l = CombinedTo l.t l.size l.weights l.sums l.column
