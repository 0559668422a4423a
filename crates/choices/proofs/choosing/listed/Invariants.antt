use mathlib.Core.Path.{◌≡◌}
use Rattle.theory.specs.Set.{count}
use Rattle.corrections.specs.Correction.{chosen}
use Rattle.choices.specs.Promise.{ListedAre}
use Rattle.choices.proofs.choosing.listed.Given as goal

abbrev pub invariant-loop-i : goal.invariant-loop-i
invariant-loop-i l = record {
  counted : l.j ≡ count l.i (chosen l.flags);
  listed : ListedAre l.i l.flags l.nodes;
}
