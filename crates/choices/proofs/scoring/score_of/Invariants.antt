use mathlib.Core.Path.{◌≡◌}
use Prim.Native.Nat.{◌/◌, ◌^◌}
use Rattle.theory.specs.Set.{count}
use Rattle.theory.specs.Free.{no_group}
use Rattle.theory.specs.Score.{scored}
use Rattle.corrections.specs.Correction.{chosen}
use Rattle.choices.proofs.scoring.score_of.Given as goal

abbrev pub invariant-loop-v : goal.invariant-loop-v
invariant-loop-v l = record {
  counted : l.sum ≡ count l.v (scored l.s no_group (chosen l.flags) l.a);
  digits : l.rest ≡ l.a / l.s ^ l.v;
}
