use Rattle.levels.specs.Kernel.{Placed}
use Rattle.levels.proofs.level.Lost.place.Given as goal

abbrev pub invariant-loop-j : goal.invariant-loop-j
invariant-loop-j l = Placed l.self.nodes l.j l.l l.found l.initial.to l.to
