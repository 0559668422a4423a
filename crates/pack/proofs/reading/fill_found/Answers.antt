use Rattle.rules.proofs.LostSets.{lost-below}
use Rattle.pack.proofs.reading.fill_found.Goals as goal

pub invariant_of-given : goal.invariant_of-given
invariant_of-given c = record {
  layout_is = c.requires.layout_is;
  same_shape = c.in-Ok.ensures;
  held_bound = lost-below c.args.found.shape c.args.found.held c.requires.layout_is.inside;
}
