-- `WellFormed::fill_in` meets its contract: the columns of the pack are put into scratch and the others filled there (`Placed`, `FillMeets`); where that is
-- done the scratch is copied over the front of the stripe.
use Rattle.std.proofs.Common.{◌≡◌, ℕ, List, ◌++◌, length, drop, rules, ap, ap₂, ◌∙◌, arith}
use lib.Seq.{take-length}
use Rattle.rules.specs.Stripe.{stripe_length}
use Rattle.rules.proofs.Accepted.{bounds}
use Rattle.rules.proofs.Lengths.{stripe-most}
use Rattle.columns.proofs.Parts.{copied-over}
use Rattle.pack.proofs.Owed.{found_refused, found_filled}
use Rattle.pack.proofs.placing.WellFormed.fill_in.Goals as goal

pub returns-in_err-fill : goal.returns-in_err-fill
returns-in_err-fill c =
    found_refused c.args.self.now.layout_is c.requires.scratch_len c.place.ensures c.lost-lost.ensures c.fill.ensures c.in_err-fill.was (search rules)

pub returns : goal.returns
returns c =
    let long : length c.fill.new.stripe ≡ stripe_length c.args.self.now.found.shape = c.fill.auto.stripe ∙ c.place.ensures.same_length ∙ c.requires.scratch_len in
    let most = stripe-most c.args.self.now.found.shape (bounds _ c.args.self.now.layout_is.taken) in
    found_filled c.args.self.now.layout_is c.requires.scratch_len c.place.ensures c.lost-lost.ensures c.fill.ensures c.in_ok-fill.was
    (copied-over (omega (arith, long, most, c.requires.stripe_len)) c.copy.ensures
    ∙ ap₂ (λ (xs ys : List ℕ). xs ++ ys) (take-length c.fill.new.stripe) (ap (λ k. drop k c.args.stripe.now) long))
