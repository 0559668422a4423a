use Rattle.fill.specs.Promise.{FillMeets}
use Rattle.capi.proofs.Codes.{told}
use Rattle.capi.proofs.stripes.przytulisz_fill.Goals as goal

pub returns-then-lost-gt65535 : goal.returns-then-lost-gt65535
returns-then-lost-gt65535 c =
    told (λ sh o. FillMeets sh c.args.lost c.args.stripe.now o c.args.stripe.now) c.fill_wide.result c.shape_of.ensures c.code_of.ensures c.fill_wide.ensures

pub returns : goal.returns
returns c =
    told (λ sh o. FillMeets sh c.args.lost c.args.stripe.now o c.fill.new.stripe) c.fill.result c.shape_of-2.ensures c.code_of-2.ensures c.fill.ensures
