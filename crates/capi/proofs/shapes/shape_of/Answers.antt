use mathlib.Core.Path.{ap₂}
use Rattle.rules.specs.Bench.{shape}
use Rattle.capi.proofs.shapes.shape_of.Goals as goal

pub returns : goal.returns
returns c = ap₂ shape c.new.ensures.nodes c.new.ensures.parity
