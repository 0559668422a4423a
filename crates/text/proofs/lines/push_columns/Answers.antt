use Rattle.text.specs.Text.{column_line}
use Rattle.text.proofs.Turns.{listed_at}
use Rattle.text.proofs.Puts.{next_written}
use Rattle.text.proofs.lines.push_columns.Goals as goal

pub push_column-requires-clause-inside : goal.push_column-requires-clause-inside
push_column-requires-clause-inside c =
    c.requires.inside c.from.result (listed_at c.args.nodes.now c.loop-node.node-index c.from.result c.loop-node-test.true c.from.ensures)

pub loop-node-preserved : goal.loop-node-preserved
loop-node-preserved c =
    next_written (column_line c.args.sizes.shape c.args.stripe.now) c.args.nodes.now c.loop-node.node-index c.loop-node-test.true c.requires.room
    c.loop-node.invariant (rw c.from.ensures at c.push_column.ensures)
