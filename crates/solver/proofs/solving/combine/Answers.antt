-- `solver::combine` meets its contract: after t steps the column has the sum of the first t columns of sums, each times its weight.
use Rattle.columns.proofs.Kernels.{column-within}
use Rattle.solver.proofs.Combining.{combined_start, combined-step}
use native.Mathlib.Omega.{arith}
use lib.ListN.{length, replicate}
use mathlib.Core.Path.{◌≡◌}
use Rattle.solver.proofs.solving.combine.Goals as goal

pub loop-t-init : goal.loop-t-init
loop-t-init c =
    let zeros : c.fill.new.self ≡ replicate (length c.args.column.now) 0 = c.fill.ensures.after (λ _ same. same) in
    rw zeros (combined_start _ _ _)

pub loop-t-preserved : goal.loop-t-preserved
loop-t-preserved c =
    let x = c.loop-t in
    combined-step x.t (length c.args.column.now) c.args.weights c.args.sums.now x.column c.add_multiple.new.to
    (omega (arith, column-within (length c.args.column.now) c.loop-t-test.true, c.requires.sums_len))
    x.invariant
    c.add_multiple.ensures
