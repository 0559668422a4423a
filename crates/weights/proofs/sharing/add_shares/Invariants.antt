use mathlib.Core.Path.{◌≡◌}
use lib.ListN.{get_or}
use Rattle.field.specs.Number.{power}
use Rattle.weights.proofs.Shares.{SharedTo}
use Rattle.weights.proofs.sharing.add_shares.Given as goal

abbrev pub invariant-loop-t : goal.invariant-loop-t
invariant-loop-t l = (l.q ≡ power l.p l.t) × SharedTo l.p l.l (λ a. get_or l.weights a 0) l.t l.initial.sums l.sums
