use Prim.Native.Nat.{◌+◌, ◌*◌}
use Rattle.rules.specs.Stripe.{symbol}
use Rattle.sums.specs.Kernel.{SumsAre}
use Rattle.sums.proofs.adding.add_all.Given as goal

abbrev pub invariant-loop-v : goal.invariant-loop-v
invariant-loop-v l = SumsAre l.shape (symbol l.shape l.stripe) (l.v * l.s) l.sums

abbrev pub invariant-loop-u : goal.invariant-loop-u
invariant-loop-u l = SumsAre l.shape (symbol l.shape l.stripe) (l.v * l.s + l.u) l.sums
