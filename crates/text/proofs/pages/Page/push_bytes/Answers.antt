use Rattle.text.specs.Text.{spaced, spaced_all}
use Rattle.text.proofs.Puts.{next_written}
use Rattle.text.proofs.pages.Page.push_bytes.Goals as goal

pub loop-byte-preserved : goal.loop-byte-preserved
unfolding spaced_all
loop-byte-preserved c =
    next_written spaced c.args.list.now c.loop-byte.byte-index c.loop-byte-test.true c.requires c.loop-byte.invariant (rw c.from.ensures at c.push_number.ensures)
