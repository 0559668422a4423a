use Rattle.systems.proofs.Substitution.{Unfinished}
use Rattle.systems.proofs.rows.substituted.Given as goal

abbrev pub invariant-loop-h : goal.invariant-loop-h
invariant-loop-h l = Unfinished l.count l.h l.rows l.given l.found
