-- `Given::fraction` meets its contract: the part is the fraction of node i.
use Prim.Native.Nat.{◌-◌, ◌*◌}
use native.Mathlib.Nat.{add-sub_cancel_left}
use native.Mathlib.Omega.{arith}
use mathlib.Core.Path.{ap}
use Rattle.rules.specs.Fraction.{fraction_of}
use Rattle.rebuild.proofs.Gathering.{Ends, fraction_ends}
use Rattle.rebuild.proofs.summing.Given.fraction.Goals as goal
use Rattle.rebuild.proofs.summing.Given.fraction.Goals.{After-helper_before}

ends : (c : After-helper_before) → let g = c.args.self.now in Ends g.z.shape.n g.failed c.args.i c.helper_before.result c.fraction_len-size.result
ends c =
    let g = c.args.self.now in
    fraction_ends g.z.shape.n g.failed c.args.i c.helper_before.result c.fraction_len-size.result c.helper_before.ensures g.z.of_shape.n-most
    c.fraction_len-size.ensures.most g.first g.last c.requires.node.0 c.requires.node.1 c.requires.other

pub overflow_mul-start : goal.overflow_mul-start
overflow_mul-start c = record { fits = omega (arith, ends (goal.at.overflow_mul-start c).After-helper_before) }

pub overflow_add-stop : goal.overflow_add-stop
overflow_add-stop c = record { fits = omega (arith, ends (goal.at.overflow_add-stop c).After-helper_before) }

pub slice_bounds-result-end : goal.slice_bounds-result-end
slice_bounds-result-end c =
    let g = c.args.self.now in
    omega (arith, ends (goal.at.slice_bounds-result-end c).After-helper_before, g.exact, ap (λ size. (g.z.shape.n - 1) * size) c.fraction_len-size.ensures.is)

pub returns-clause-is : goal.returns-clause-is
unfolding fraction_of
returns-clause-is c = rw (add-sub_cancel_left, c.helper_before.ensures, c.fraction_len-size.ensures.is)
