use Rattle.theory.specs.Free.{no_group}
use Rattle.theory.specs.Score.{score}
use Rattle.columns.proofs.Kernels.{Written}
use Rattle.corrections.specs.Correction.{chosen}
use Rattle.choices.proofs.scoring.scores_of.Given as goal

abbrev pub invariant-loop-a : goal.invariant-loop-a
invariant-loop-a l = Written (score l.z.s l.z.m no_group (chosen l.flags)) l.a l.initial.scores l.scores
