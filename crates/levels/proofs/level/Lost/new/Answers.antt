-- `Lost::new` keeps what the struct knows: at most four nodes are listed.
use native.Mathlib.Omega.{arith}
use Rattle.levels.proofs.Nodes.{in_order}
use Rattle.levels.proofs.level.Lost.new.Goals as goal

pub invariant_of-result-clause-in_order : goal.invariant_of-result-clause-in_order
invariant_of-result-clause-in_order c = in_order (c.listed-nodes.ensures.few (omega arith))
