use Rattle.std.proofs.Common.{◌≡◌, ℕ, ◌<◌, get_or}
use Rattle.weights.specs.Promise.{weight_at}
use Rattle.columns.proofs.Carrying.{Carried}
use Rattle.weights.proofs.weighing.weigh.Given as goal

abbrev pub invariant-loop-a : goal.invariant-loop-a
invariant-loop-a l = record {
  done : (k : ℕ) → k < l.a → get_or l.weights k 0 ≡ weight_at l.s l.w l.l l.group l.u k;
  carried : Carried l.s l.w l.a l.d l.j;
  digit_small : l.d < l.s;
  past-small : l.j < l.w;
}
