-- `Chosen::fill_in` meets its contract: the survivors are copied to scratch and the lost columns filled in there; where that stands they are copied to the
-- stripe.
use Rattle.std.proofs.Common.{◌∙◌, sym, ap, subst, is_ok, OnOk, Result}
use Rattle.rules.specs.Stripe.{symbol}
use Rattle.rules.proofs.Accepted.{bounds}
use Rattle.rules.proofs.House.{code, stripe}
use Rattle.rules.specs.declared.refusals.Misfit.{Misfit}
use Rattle.theory.specs.Set.{count}
use Rattle.theory.specs.Whole.{AgreeOff}
use Rattle.corrections.specs.Correction.{chosen}
use Rattle.levels.specs.Promise.{LevelsCorrected}
use Rattle.lost.specs.Promise.{Copied}
use Rattle.fill.proofs.Attempts.{survivors, written-fills, unwritten_unfilled}
use Rattle.fill.proofs.filling.Chosen.fill_in.Goals as goal
use Rattle.fill.proofs.filling.Chosen.fill_in.Goals.{After-stands, After-others_of-kept}

levels : (c : After-stands) → LevelsCorrected c.args.self.now.z.shape c.args.self.now.flags c.args.self.now.count c.copy_columns.new.to c.fill_levels.new.stripe
levels c =
    subst (λ k. LevelsCorrected c.args.self.now.z.shape c.args.self.now.flags k c.copy_columns.new.to c.fill_levels.new.stripe) (sym c.args.self.now.counted)
    (subst (λ (answer : Result (Unit {0}) Misfit). OnOk answer (LevelsCorrected c.args.self.now.z.shape c.args.self.now.flags (count c.args.self.now.z.shape.n (chosen c.args.self.now.flags)) c.copy_columns.new.to c.fill_levels.new.stripe))
    c.unwrap-2.ensures c.fill_levels.ensures.filled)

agrees : (c : After-stands) → AgreeOff (code c.args.self.now.z.shape) (chosen c.args.self.now.flags) (stripe c.args.self.now.z.shape (symbol c.args.self.now.z.shape c.args.stripe.now))
    (stripe c.args.self.now.z.shape (symbol c.args.self.now.z.shape c.copy_columns.new.to))
agrees c =
    survivors c.args.self.now.z.shape (bounds _ c.args.self.now.z.of_shape.taken) c.args.self.now.flags c.args.self.now.none_above _ _ _ _ c.others_of-kept.ensures
    (subst (λ l. Copied c.others_of-kept.result c.args.self.now.z.shape.n l c.args.stripe.now c.args.scratch.now c.copy_columns.new.to) c.args.self.now.z.of_shape.l-is
    (c.copy_columns.ensures.copied (ap is_ok c.unwrap.ensures)))

pub returns-then-not-stands : goal.returns-then-not-stands
returns-then-not-stands c =
    let g = (goal.at.returns-then-not-stands c).After-stands in
    unwritten_unfilled c.args.self.now.z.shape (bounds _ c.args.self.now.z.of_shape.taken) c.args.self.now.flags c.args.self.now.none_above c.args.self.now.count c.args.self.now.counted c.args.self.now.few
    _ _ _ (agrees g) (levels g) c.if-not-stands.true c.stands.ensures

pub returns : goal.returns
returns c =
    let g = goal.at.returns c in
    written-fills c.args.self.now.z.shape (bounds _ c.args.self.now.z.of_shape.taken) c.args.self.now.flags c.args.self.now.none_above c.args.self.now.count c.args.self.now.counted c.args.self.now.few
    _ _ _ (agrees g.After-stands) (levels g.After-stands) c.if-not-stands.false c.stands.ensures _
    (record { exact = c.requires.stripe_len; bytes = λ k h. (g.After-others_of-kept.type_inv.stripe k).fits })
    (record { exact = c.copy_columns-2.auto.to ∙ c.requires.stripe_len; bytes = λ k h. (c.type_inv.stripe k).fits })
    (subst (λ l. Copied c.args.self.now.flags c.args.self.now.z.shape.n l c.fill_levels.new.stripe c.args.stripe.now c.copy_columns-2.new.to) c.args.self.now.z.of_shape.l-is
    (c.copy_columns-2.ensures.copied (ap is_ok c.unwrap-3.ensures)))
