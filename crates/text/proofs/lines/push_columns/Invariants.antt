use mathlib.Core.List.{flat_map}
use lib.ListN.{take}
use Rattle.text.specs.Text.{column_line}
use Rattle.text.specs.Kernel.{WrittenOn}
use Rattle.text.proofs.lines.push_columns.Given as goal

abbrev pub invariant-loop-node : goal.invariant-loop-node
invariant-loop-node l = WrittenOn l.initial.page (flat_map (column_line l.sizes.shape l.stripe) (take l.node-index l.nodes)) l.page
