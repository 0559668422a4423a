use Rattle.fill.specs.Promise.{ParityMeets}
use Rattle.capi.proofs.Codes.{told}
use Rattle.capi.proofs.stripes.przytulisz_fill_parity.Goals as goal

pub returns : goal.returns
returns c =
    told (λ sh o. ParityMeets sh c.args.stripe.now o c.fill_parity.new.stripe)
    c.fill_parity.result c.shape_of.ensures c.code_of.ensures c.fill_parity.ensures
