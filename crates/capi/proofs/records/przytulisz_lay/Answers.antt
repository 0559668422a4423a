use Rattle.yebarg.specs.Promise.{LayMeets}
use Rattle.capi.proofs.Codes.{told}
use Rattle.capi.proofs.records.przytulisz_lay.Goals as goal

pub returns : goal.returns
returns c = told (λ sh o. LayMeets sh c.args.rec.now c.args.stripe.now o c.lay.new.stripe) c.lay.result c.shape_of.ensures c.code_of.ensures c.lay.ensures
