-- There are at most 65,536 lost sets, at most one is counted a turn, and the scratch is a stripe long.
use Rattle.std.proofs.Common.{◌≡◌, ◌≤◌, length}
use Rattle.rules.specs.Stripe.{stripe_length}
use Rattle.allshapes.proofs.shapes.Trial.filled.Given as goal

abbrev pub invariant-loop-lost : goal.invariant-loop-lost
invariant-loop-lost g l = record {
  few : l.sets ≤ 65536;
  counted : l.right ≤ l.lost;
  long : length l.scratch ≡ stripe_length l.fn.self.z.shape;
}
