-- `Lost::place` meets its contract: the first j columns of `found` are where their nodes have theirs, all others as they were. No node is listed twice.
use Prim.Native.Nat.{◌≤◌, ◌+◌, ◌*◌}
use native.Mathlib.Omega.{arith}
use lib.ListN.{length, get_or}
use Rattle.columns.proofs.Kernels.{column-within}
use Rattle.columns.proofs.Parts.{parts_as_long}
use Rattle.yebarg.proofs.Lists.{copied-whole}
use Rattle.levels.proofs.Losses.{lists, node-within}
use Rattle.levels.proofs.Placements.{placed-step}
use Rattle.levels.proofs.level.Lost.place.Goals as goal
use Rattle.levels.proofs.level.Lost.place.Goals.{In-loop-j}

within : (c : In-loop-j) → get_or c.args.self.now.nodes c.loop-j.j 0 * c.args.self.now.z.l + c.args.self.now.z.l ≤ length c.loop-j.to
within c = omega (arith, node-within c.args.self.now c.loop-j.j c.loop-j-test.true)

pub slice_bounds-copy-end-in-loop-j : goal.slice_bounds-copy-end-in-loop-j
slice_bounds-copy-end-in-loop-j c = within (goal.at.slice_bounds-copy-end-in-loop-j c).In-loop-j

pub loop-j-preserved : goal.loop-j-preserved
loop-j-preserved c =
    let lost = c.args.self.now in
    let l = lost.z.l in
    let j = c.loop-j.j in
    let node = get_or lost.nodes j 0 in
    let inside : j * l + l ≤ length c.args.found.now = omega (arith, column-within l c.loop-j-test.true) in
    let fits = within (goal.at.loop-j-preserved c).In-loop-j in
    placed-step lost.nodes l j c.args.found.now c.args.to.now c.loop-j.to c.loop-j.invariant
    (λ k h e. omega (arith, h, (lists lost).once k j (omega arith) c.loop-j-test.true e)) inside fits _
    (copied-whole (parts_as_long l (node * l) (j * l) c.loop-j.to c.args.found.now fits inside) c.copy.ensures)
