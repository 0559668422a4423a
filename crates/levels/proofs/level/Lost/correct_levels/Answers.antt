-- `Lost::correct_levels` meets its contract. The invariant: the levels below `level` are done. A level is done by corrections, or because no row has it.
use mathlib.Core.Path.{sym, subst}
use Prim.Native.Nat.{◌+◌}
use native.Mathlib.Omega.{arith}
use lib.ListN.{take}
use Rattle.choices.specs.Promise.{AnyIs}
use Rattle.levels.proofs.Losses.{fits}
use Rattle.levels.proofs.Steps.{LevelsDone, done-corrected, done_none, done_all}
use Rattle.levels.proofs.level.Lost.correct_levels.Goals as goal
use Rattle.levels.proofs.level.Lost.correct_levels.Goals.{then-any_at, else-any_at}

pub loop-level-preserved : goal.loop-level-preserved
loop-level-preserved c =
    let lost = c.args.self.now in
    let now = c.loop-level in
    let stage = LevelsDone lost.z.shape lost.flags lost.count c.args.stripe.now (now.level + 1) in
    elim c.if-any_at.branch [
      | then-any_at w ↦ subst stage (sym w.stripe-is)
          (done-corrected lost.z.shape (fits lost) lost.flags lost.count c.args.stripe.now now.level now.stripe _ now.invariant w.correct_level.ensures)
      | else-any_at w ↦ subst stage (sym w.stripe-is)
          (done_none lost.z.shape (fits lost) lost.flags lost.count c.args.stripe.now now.level lost.z.l lost.scores now.stripe lost.z.of_shape.l-is
          lost.scores_are now.invariant
          (subst (AnyIs (take lost.z.l lost.scores) now.level) w.if-any_at.false c.any_at.ensures))
    ]

pub returns : goal.returns
returns c =
    let lost = c.args.self.now in
    done_all lost.z.shape (fits lost) lost.flags lost.count c.args.stripe.now c.loop-level.level c.loop-level.stripe (omega arith) lost.none_above
    (omega arith) c.loop-level.invariant
