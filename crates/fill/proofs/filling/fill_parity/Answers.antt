-- `fill::fill_parity` meets its contract: the parity nodes are r of the n nodes.
use Rattle.std.proofs.Common.{sym, arith}
use Rattle.fill.proofs.Flags.{parity-none, parity-count}
use Rattle.fill.proofs.filling.fill_parity.Goals as goal

pub invariant_of-parity : goal.invariant_of-parity
invariant_of-parity c =
    let z = c.in-Ok.z in
    record {
      counted = sym (parity-count z.k z.shape.n c.parity_flags.ensures z.shape.r (sym z.of_shape.k-adds) z.of_shape.n-most);
      few = omega arith;
      none_above = parity-none z.k z.shape.n c.parity_flags.ensures;
    }
