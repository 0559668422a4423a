use Rattle.solver.proofs.Combining.{WrittenTo}
use Rattle.solver.proofs.solving.write.Given as goal

abbrev pub invariant-loop-j : goal.invariant-loop-j
invariant-loop-j l = WrittenTo l.j l.count l.rows l.size l.sums l.initial.found l.found
