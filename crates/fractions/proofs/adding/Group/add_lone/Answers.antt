-- `Group::add_lone` meets its contract: the fraction stands in the array as the column of place h, with zeros around it, and `add_nodes` adds the shares.
use Rattle.fractions.proofs.Gains.{lone-gained}
use Rattle.fractions.proofs.adding.Group.add_lone.Goals as goal

pub returns : goal.returns
returns c =
    let g = c.args.self.now in
    lone-gained g.z.s c.args.h 256 c.args.fraction.now c.copy.new.to c.requires.place c.requires.short c.copy.ensures g.w g.worth_some c.requires.periods g.z.shape
    g.first g.z.shape.r c.args.sums.now _ c.add_nodes.ensures
