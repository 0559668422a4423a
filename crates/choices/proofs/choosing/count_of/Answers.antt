-- `count_of` meets its contract: the flags that are set among the first n are counted.
use Rattle.std.proofs.Common.{◌∙◌, take, rules, tests}
use Rattle.std.proofs.lemmas.Iterator.{YieldsList-from_slice, YieldsList-from_take}
use Rattle.std.proofs.lemmas.Iterator.Consumers.{YieldsList-at, YieldsList-from_filter, count_from_yields_List}
use Rattle.std.proofs.lemmas.List.Sums.{length-filter}
use Rattle.choices.proofs.Counting.{counted}
use Rattle.choices.proofs.choosing.count_of.Goals as goal

pub returns : goal.returns
returns c =
    record {
      value =
          count_from_yields_List c.filter.result _ c.count.ensures.ran
          (YieldsList-from_filter _ (λ b. b)
          (YieldsList-at c.filter.ensures.source (YieldsList-from_take c.args.n (YieldsList-at c.take.ensures.source (YieldsList-from_slice c.args.flags cc)) c.take.ensures.count))
          c.filter.ensures.closure (λ x b q k. search (rules, tests)))
          ∙ length-filter (λ b. b) (take c.args.n c.args.flags)
          ∙ counted c.args.n c.args.flags;
    }
