use mathlib.Core.Path.{◌∙◌}
use mathlib.Core.List.{flat_map}
use Rattle.entries.specs.Pack.{nodes_of}
use Rattle.entries.proofs.Sets.{listed_held}
use Rattle.text.specs.Text.{shape_line, lost_line, column_line, read_text}
use Rattle.text.proofs.Puts.{written_three}
use Rattle.text.proofs.printing.push_read.Goals as goal

pub push_columns-requires-clause-inside : goal.push_columns-requires-clause-inside
push_columns-requires-clause-inside c =
    let is = c.deref-2.ensures.0 ∙ c.lost_nodes-nodes.ensures in
    λ i m. let (p, q, e) = listed_held c.args.sizes.shape c.args.lost i (rw is at m) in (p, q)

pub returns : goal.returns
unfolding read_text lost_line
returns c =
    let sh = c.args.sizes.shape in
    let is = c.deref.ensures.0 ∙ c.lost_nodes-nodes.ensures in
    let is-2 = c.deref-2.ensures.0 ∙ c.lost_nodes-nodes.ensures in
    written_three (shape_line sh) (lost_line sh c.args.lost) (flat_map (column_line sh c.args.stripe.now) (nodes_of sh c.args.lost)) c.requires.room
    c.push_shape.ensures (rw is at c.push_lost.ensures) (rw is-2 at c.push_columns.ensures)
