-- `sums::sums_of` meets its contract: past all tests `add_all` adds the sums to a cleared buffer.
use mathlib.Core.Path.{refl, sym, ◌∙◌, subst}
use lib.ListN.{length}
use Rattle.sums.specs.Kernel.{SumsAre}
use Rattle.sums.proofs.Summing.{sums-clear, summed}
use Rattle.sums.proofs.adding.sums_of.Goals as goal

pub add_all-requires-clause-sums_are : goal.add_all-requires-clause-sums_are
add_all-requires-clause-sums_are c =
    subst (SumsAre c.in-Ok.z.shape _ 0) (sym (c.fill.ensures.after (λ _ same. same)))
    (sums-clear c.in-Ok.z _ (length c.args.sums.now) (c.in_ok-check_len-2.ensures.when.0 refl))

pub returns : goal.returns
returns c =
    summed c.in-Ok.z c.args.shape c.in-Ok.ensures c.args.stripe.now (c.in_ok-check_len.ensures.when.0 refl ∙ c.stripe_len.ensures.is) c.add_all.new.sums
    c.add_all.ensures c.args.sums.now (c.in_ok-check_len-2.ensures.when.0 refl)
