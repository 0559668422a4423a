-- `rules::measure` meets its contract: what passes the tests has all that the type of the sizes keeps.
use native.Mathlib.Omega.{arith}
use Rattle.rules.proofs.Sizing.{groups_few, power-fits, found}
use Rattle.rules.proofs.measuring.measure.Goals as goal

pub pow-l-requires : goal.pow-l-requires
pow-l-requires c = grind (arith, power-fits, groups_few)

pub invariant_of-result : goal.invariant_of-result
invariant_of-result c = record {
  of_shape = found c.args.shape _ _ (omega arith) (omega arith) (omega arith) (omega arith) c.div_ceil-m.ensures c.pow-l.ensures (omega arith);
}
