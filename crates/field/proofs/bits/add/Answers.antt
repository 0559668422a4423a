-- `field::add` meets its contract: the sum is exclusive or by definition.
use mathlib.Core.Path.{refl}
use Rattle.field.specs.Number.{add}
use Rattle.field.proofs.bits.add.Goals as goal

pub returns : goal.returns
unfolding add
returns c = record { value = refl }
