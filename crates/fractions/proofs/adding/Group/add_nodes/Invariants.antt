use Rattle.weights.specs.Promise.{weight_at}
use Rattle.fractions.specs.Kernel.{Gained, gain}
use Rattle.fractions.proofs.adding.Group.add_nodes.Given as goal

abbrev pub invariant-loop-u : goal.invariant-loop-u
invariant-loop-u l =
    Gained l.shape.r l.l (gain l.shape l.self.first l.u (weight_at l.s l.self.w l.l l.columns)) l.initial.sums l.sums
