use Rattle.rebuild.specs.Promise.{RebuildMeets}
use Rattle.capi.proofs.Codes.{told}
use Rattle.capi.proofs.repairs.przytulisz_rebuild.Goals as goal

pub returns : goal.returns
returns c =
    told (λ sh o. RebuildMeets sh c.args.failed c.args.fractions.now c.args.column.now o c.rebuild.new.column)
    c.rebuild.result c.shape_of.ensures c.code_of.ensures c.rebuild.ensures
