-- `Group::add_nodes` meets its contract: after u nodes the sums have gained the shares of u nodes, and one step is `gained-step`.
use mathlib.Core.Path.{◌∙◌}
use native.Mathlib.Omega.{arith}
use Rattle.weights.specs.Promise.{weight_at, Addable}
use Rattle.weights.proofs.Refusing.{node_ok, node-shared}
use Rattle.fractions.proofs.Gains.{gained_start, gained-step}
use Rattle.fractions.proofs.adding.Group.add_nodes.Goals as goal
use Rattle.fractions.proofs.adding.Group.add_nodes.Goals.{In-loop-u}

pub loop-u-init : goal.loop-u-init
loop-u-init c = gained_start _ _ _ _ _ _

-- nothing is refused
addable : (c : In-loop-u) → let g = c.args.self.now in Addable g.z.s g.w c.args.l c.loop-u.u g.z.shape.r c.loop-u.sums
addable c =
    let g = c.args.self.now in
    record {
      counts = g.worth_some;
      counts-most = g.worth_most;
      inside = c.loop-u-test.true;
      size-most = g.z.of_shape.s-most;
      few = g.z.of_shape.r-most;
      short = c.requires.short;
      exact = c.loop-u.invariant.same_length ∙ c.requires.sums_len;
    }

pub unwrap-requires : goal.unwrap-requires
unwrap-requires c = node_ok c.add_node.result c.add_node.ensures (addable (goal.at.unwrap-requires c).In-loop-u)

pub loop-u-preserved : goal.loop-u-preserved
loop-u-preserved c =
    let g = c.args.self.now in
    gained-step g.z.shape g.first g.z.shape.r c.args.l c.loop-u.u _ (weight_at g.z.s g.w c.args.l c.args.columns.now) c.args.sums.now c.loop-u.sums _
    (c.point-p.ensures.inside (omega arith) (omega arith))
    c.loop-u.invariant
    (node-shared c.add_node.result c.add_node.ensures (addable (goal.at.loop-u-preserved c).In-loop-u))
