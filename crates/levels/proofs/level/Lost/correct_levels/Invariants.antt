use Rattle.levels.proofs.Steps.{LevelsDone}
use Rattle.levels.proofs.level.Lost.correct_levels.Given as goal

abbrev pub invariant-loop-level : goal.invariant-loop-level
invariant-loop-level l = LevelsDone l.self.z.shape l.self.flags l.self.count l.initial.stripe l.level l.stripe
