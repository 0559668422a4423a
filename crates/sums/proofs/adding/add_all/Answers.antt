-- `sums::add_all` meets its contract: after u nodes of group v + 1 the sums are those of all nodes so far, and one step is `node-step`.
use mathlib.Core.Path.{sym, ap, ◌∙◌}
use Prim.Native.Nat.{◌<◌, ◌*◌, min}
use native.Mathlib.Omega.{arith}
use Rattle.weights.specs.Promise.{Addable}
use Rattle.weights.proofs.Refusing.{node_ok, node-shared}
use Rattle.sums.proofs.Room.{Counts, room, counts}
use Rattle.sums.proofs.Summing.{node-step}
use Rattle.sums.proofs.adding.add_all.Goals as goal
use Rattle.sums.proofs.adding.add_all.Goals.{In-loop-u}

digit : (c : In-loop-u) → Counts c.args.z c.loop-v.v c.worth-w.result
digit c = counts c.args.z c.loop-v.v c.worth-w.result c.loop-v-test.true c.worth-w.ensures

place : (c : In-loop-u) → c.loop-u.u < c.args.z.s
place c = omega (arith, c.loop-u-test.true)

-- nothing is refused
addable : (c : In-loop-u) → Addable c.args.z.s c.worth-w.result c.args.z.l c.loop-u.u c.args.z.shape.r c.loop-u.sums
addable c =
    let h = c.args.z.of_shape in
    let d = digit c in
    record {
      counts = d.some;
      counts-most = d.most;
      inside = place c;
      size-most = h.s-most;
      few = h.r-most;
      short = h.l-most;
      exact = c.loop-u.invariant.all ∙ sym (ap (λ l. c.args.z.shape.r * l) h.l-is);
    }

pub unwrap-requires : goal.unwrap-requires
unwrap-requires c = node_ok c.add_node.result c.add_node.ensures (addable (goal.at.unwrap-requires c).In-loop-u)

pub loop-u-preserved : goal.loop-u-preserved
loop-u-preserved c =
    let z = c.args.z in
    let here = (goal.at.loop-u-preserved c).In-loop-u in
    node-step z c.args.stripe.now c.loop-v.v c.loop-u.u _ _ _ c.loop-u.sums _ c.loop-v-test.true (place here) (digit here).is
    (c.point-p.ensures.inside (omega arith) (omega (arith, room z c.loop-v.v c.loop-v-test.true)))
    (c.lesser-stop.ensures.value ∙ ap (min _) c.requires.stripe_len)
    c.loop-u.invariant
    (node-shared c.add_node.result c.add_node.ensures (addable here))
