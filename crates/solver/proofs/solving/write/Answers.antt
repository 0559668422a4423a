-- `solver::write` meets its contract: after j steps the columns below j are combined by their constants.
use Rattle.columns.proofs.Kernels.{column-within}
use Rattle.solver.proofs.Combining.{written_more}
use native.Mathlib.Omega.{arith}
use Rattle.solver.proofs.solving.write.Goals as goal

pub loop-j-preserved : goal.loop-j-preserved
loop-j-preserved c =
    let x = c.loop-j in
    written_more x.j c.args.count c.args.rows c.args.size c.args.sums.now c.args.found.now x.found _ c.combine.new.column c.requires.count_bound.0
    (omega (arith, column-within c.args.size c.loop-j-test.true, x.invariant.same_length, c.requires.sums_len.1))
    x.invariant
    c.weights_of.ensures
    c.combine.ensures
