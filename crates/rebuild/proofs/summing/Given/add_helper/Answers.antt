-- `Given::add_helper` meets its contract: `add_fraction` refuses none of what it is lent here, and adds what the helper's fraction alone brings.
use mathlib.Core.Path.{subst}
use Rattle.rules.proofs.Accepted.{bounds}
use Rattle.yebarg.proofs.Refusals.{a-node}
use Rattle.fractions.specs.Promise.{Added}
use Rattle.fractions.proofs.Refusals.{add-accepted}
use Rattle.rebuild.proofs.Gathering.{sums_skip, sums-step}
use Rattle.rebuild.proofs.summing.Given.add_helper.Goals as goal

pub returns-then-i-self : goal.returns-then-i-self
returns-then-i-self c =
    let g = c.args.self.now in
    sums_skip g.z.shape g.failed g.bytes.now (bounds g.z.shape g.z.of_shape.taken) c.args.i c.args.sums.now c.if-i-self.true c.requires.sums_are

pub returns : goal.returns
returns c =
    let g = c.args.self.now in
    let added =
    c.add_fraction.ensures.written
    (add-accepted g.z.shape g.failed c.args.i c.fraction.result.now c.args.sums.now g.z.of_shape.taken c.fraction.ensures.exact c.requires.sums_are.all
    (a-node g.z.shape c.args.i c.requires.node.0 c.requires.node.1)
    (a-node g.z.shape g.failed g.first g.last)
    c.if-i-self.false) in
    sums-step g.z.shape g.failed g.bytes.now (bounds g.z.shape g.z.of_shape.taken) c.args.i c.args.sums.now _ c.if-i-self.false c.requires.node.1 c.requires.sums_are
    (subst (λ given. Added g.z.shape g.failed c.args.i given c.args.sums.now c.add_fraction.new.sums) c.fraction.ensures.is added)
