use Rattle.yebarg.specs.Promise.{ReadBackMeets}
use Rattle.capi.proofs.Codes.{told}
use Rattle.capi.proofs.records.przytulisz_read_back.Goals as goal

pub returns : goal.returns
returns c =
    told (λ sh o. ReadBackMeets sh c.args.stripe.now c.args.rec.now o c.read_back.new.buffer)
    c.read_back.result c.shape_of.ensures c.code_of.ensures c.read_back.ensures
