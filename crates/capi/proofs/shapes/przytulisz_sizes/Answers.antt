use mathlib.Core.Path.{subst}
use Rattle.rules.specs.Promise.{MeasuredIs}
use Rattle.rules.proofs.Measures.{measured-sizes, measured-refused}
use Rattle.capi.specs.Word.{shape_of}
use Rattle.capi.proofs.Pointers.{sizes-refused, sizes-told}
use Rattle.capi.proofs.shapes.przytulisz_sizes.Goals as goal
use Rattle.capi.proofs.shapes.przytulisz_sizes.Goals.{After-measure}

measured : (c : After-measure) → MeasuredIs (shape_of c.args.shape) c.measure.result
measured c = subst (λ sh. MeasuredIs sh c.measure.result) c.shape_of.ensures c.measure.ensures

pub returns-in_default : goal.returns-in_default
returns-in_default c =
    sizes-refused _ _ _ _ _ c.into.ensures (measured-refused _ (measured (goal.at.returns-in_default c).After-measure) c.in_default.is)

pub returns : goal.returns
returns c = sizes-told _ _ _ _ _ c.in-Ok.z (measured-sizes _ (measured (goal.at.returns c).After-measure) c.in-Ok.is)
