-- `solver::unknowns` meets its contract: the constants solve for every right-hand side, so for every row of the sums.
use Rattle.solver.specs.Promise.{Solvable}
use Rattle.solver.proofs.Units.{constants-solve}
use mathlib.Core.Path.{◌∙◌}
use Rattle.solver.proofs.solving.unknowns.Goals as goal

pub returns : goal.returns
returns c =
    let apart = c.apart.ensures.is c.if-not-apart.false in
    let way : Solvable c.args.count c.args.points c.args.size c.args.sums.now c.args.found.now =
    record {
      few = apart.few;
      short = c.if-size-gt256.false;
      sums-exact = c.if-sums-count.false;
      found-exact = c.if-found-count.false;
      apart = apart.apart;
    }
    in
    record {
      can = way;
      bytes = record { exact = c.write.ensures.same_length ∙ way.found-exact; bytes = λ k l. (c.type_inv.found k).fits };
      solved =
          constants-solve c.args.count c.args.points c.constants-rows.result c.args.size c.args.sums.now c.args.found.now c.write.new.found
          way.few (λ k. (c.type_inv.sums k).fits) c.constants-rows.ensures c.write.ensures;
      cannot = tt;
      kept = tt;
    }
