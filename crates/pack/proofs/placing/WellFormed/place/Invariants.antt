use Rattle.pack.proofs.Placings.{PlacedTo}
use Rattle.pack.proofs.placing.WellFormed.place.Given as goal

abbrev pub invariant-loop-i : goal.invariant-loop-i
invariant-loop-i l = PlacedTo l.self.found l.self.pack.now l.initial.stripe l.i l.at l.stripe
