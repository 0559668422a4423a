-- The three numbers are the middle of the line.
use mathlib.Core.List.{◌++◌}
use Rattle.rules.specs.Shape.{rows}
use Rattle.text.specs.Text.{letters, spaced, line, shape_line}
use Rattle.text.proofs.Puts.{second_room, written_three}
use Rattle.text.proofs.lines.push_shape.Goals as goal

pub returns : goal.returns
unfolding shape_line line
returns c =
    let sh = c.args.sizes.shape in
    let numbers = spaced sh.n ++ spaced sh.r ++ spaced (rows sh) in
    written_three (letters "shape") numbers (letters "\n") c.requires c.push.ensures
    (written_three (spaced sh.n) (spaced sh.r) (spaced (rows sh)) (second_room (letters "shape") numbers (letters "\n") c.requires c.push.ensures)
    c.push_number.ensures c.push_number-2.ensures (rw c.args.sizes.of_shape.l-is at c.push_number-3.ensures))
    c.push-2.ensures
