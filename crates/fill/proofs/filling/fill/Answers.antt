-- `fill::fill` meets its contract: past the tests the lost nodes are at most r and none above n.
use Rattle.std.proofs.Common.{◌≡◌, ◌/◌, ◌^◌, sym, ap, ◌∙◌}
use Rattle.rules.specs.Lost.{lost_count}
use Rattle.fill.proofs.Flags.{lost-none, lost-count}
use Rattle.fill.proofs.filling.fill.Goals as goal

pub invariant_of-chosen : goal.invariant_of-chosen
unfolding lost_count
invariant_of-chosen c =
    let none : c.args.lost / 2 ^ c.in-Ok.z.shape.n ≡ 0 = ap (λ x. x / 2 ^ c.in-Ok.z.shape.n) (sym c.from.ensures) ∙ c.if-from-z-ne0.false in
    record {
      counted = sym (lost-count c.args.lost c.in-Ok.z.shape.n c.flags_of.ensures none c.in-Ok.z.of_shape.n-most);
      few = c.if-count-z.false;
      none_above = lost-none c.args.lost c.in-Ok.z.shape.n c.flags_of.ensures none;
    }
