use Rattle.yebarg.specs.Promise.{CutMeets}
use Rattle.capi.proofs.Codes.{told}
use Rattle.capi.proofs.repairs.przytulisz_cut.Goals as goal

pub returns : goal.returns
returns c =
    told (λ sh o. CutMeets sh c.args.helper c.args.failed c.args.column.now c.args.fraction.now o c.cut.new.fraction)
    c.cut.result c.shape_of.ensures c.code_of.ensures c.cut.ensures
