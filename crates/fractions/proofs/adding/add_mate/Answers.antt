-- `fractions::add_mate` meets its contract: what `add_multiple` leaves at the front of the array is what `add_shares` shares out.
use mathlib.Core.Path.{sym, ap, ◌∙◌}
use Prim.Native.Nat.{◌*◌}
use native.Mathlib.Omega.{arith}
use lib.ListN.{length}
use Rattle.weights.specs.Promise.{Shareable}
use Rattle.weights.proofs.Refusing.{shares_ok}
use Rattle.fractions.proofs.Gains.{multiple-length, multiple_shared}
use Rattle.fractions.proofs.adding.add_mate.Goals as goal
use Rattle.fractions.proofs.adding.add_mate.Goals.{After-add_multiple}

-- nothing is refused
shareable : (c : After-add_multiple) → Shareable c.args.z.shape.r c.add_multiple.new.to c.args.sums.now
shareable c =
    let exact = multiple-length c.args.fraction.now c.args.c (length c.args.fraction.now) 256 c.requires.short c.add_multiple.new.to c.add_multiple.ensures in
    record {
      few = c.args.z.of_shape.r-most;
      short = omega (arith, exact, c.requires.short);
      exact = c.requires.sums_len ∙ ap (λ l. c.args.z.shape.r * l) (sym exact);
    }

pub unwrap-requires : goal.unwrap-requires
unwrap-requires c = shares_ok c.add_shares.result c.add_shares.ensures (shareable (goal.at.unwrap-requires c).After-add_multiple)

pub returns : goal.returns
returns c =
    multiple_shared c.args.fraction.now c.args.c (length c.args.fraction.now) 256 c.requires.short c.add_multiple.new.to c.add_multiple.ensures c.args.z.shape.r
    c.args.p c.args.sums.now _
    (rw c.unwrap.ensures at c.add_shares.ensures.shared)
