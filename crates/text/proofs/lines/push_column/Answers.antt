-- The number and the bytes are the middle of the line.
use mathlib.Core.List.{◌++◌}
use Rattle.rules.specs.Stripe.{column}
use Rattle.text.specs.Text.{letters, spaced, spaced_all, line, column_line}
use Rattle.text.proofs.Columns.{column_is}
use Rattle.text.proofs.Puts.{fits-rest, second_room, written_then, written_three}
use Rattle.text.proofs.lines.push_column.Goals as goal

pub push_bytes-requires : goal.push_bytes-requires
unfolding column_line line
push_bytes-requires c =
    let number = spaced c.args.node in
    let bytes = spaced_all (column c.args.sizes.shape c.args.stripe.now c.args.node) in
    rw (column_is c.args.sizes c.args.node c.args.stripe.now)
    (fits-rest number bytes (second_room (letters "column") (number ++ bytes) (letters "\n") c.requires.room c.push.ensures) c.push_number.ensures.put)

pub returns : goal.returns
unfolding column_line line
returns c =
    let number = spaced c.args.node in
    let bytes = spaced_all (column c.args.sizes.shape c.args.stripe.now c.args.node) in
    written_three (letters "column") (number ++ bytes) (letters "\n") c.requires.room c.push.ensures
    (written_then number bytes (second_room (letters "column") (number ++ bytes) (letters "\n") c.requires.room c.push.ensures)
    c.push_number.ensures (rw (column_is c.args.sizes c.args.node c.args.stripe.now) at c.push_bytes.ensures))
    c.push-2.ensures
