use Rattle.entries.proofs.Checking.{HeldTo}
use Rattle.entries.proofs.entries.held_of.Given as goal

abbrev pub invariant-loop-e : goal.invariant-loop-e
invariant-loop-e l = HeldTo l.pack l.e l.held
