-- `weights::add_shares` meets its contract: after t steps the sums below t have their share, those from t on are as they were, and q is p to the power t.
use Rattle.std.proofs.Common.{◌≡◌, ℕ, sym, ap, ◌∙◌, add-one, arith, length, ◌≤◌, ◌*◌, ◌+◌}
use Rattle.field.specs.Number.{mul, power}
use Rattle.field.proofs.Powers.{power_zero}
use Rattle.columns.proofs.Kernels.{column-within}
use Rattle.weights.proofs.Shares.{shared_start, shared_step}
use Rattle.weights.proofs.sharing.add_shares.Goals as goal

pub loop-t-init : goal.loop-t-init
loop-t-init c = (sym (power_zero c.args.p), shared_start _ _ _ _)

power-next : (p t : ℕ) → mul (power p t) p ≡ power p (t + 1)
unfolding power
power-next p t = ap (power p) (sym (add-one t))

pub loop-t-preserved : goal.loop-t-preserved
loop-t-preserved c =
    let x = c.loop-t in
    let size = length c.args.weights.now in
    let within : x.t * size + size ≤ length x.sums = omega (arith, column-within size c.loop-t-test.true) in (
      c.times-q.ensures.value ∙ ap (λ q. mul q c.args.p) x.invariant.0 ∙ power-next c.args.p x.t,
      shared_step c.args.p size x.t c.args.weights.now c.args.sums.now x.sums within x.q c.add_multiple.new.to x.invariant.0 x.invariant.1 c.add_multiple.ensures,
    )
