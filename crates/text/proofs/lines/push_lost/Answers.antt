use Rattle.text.specs.Text.{letters, line, spaced_or_none}
use Rattle.text.proofs.Puts.{written_three}
use Rattle.text.proofs.lines.push_lost.Goals as goal

pub returns : goal.returns
unfolding line
returns c =
    written_three (letters "lost") (spaced_or_none c.args.nodes.now) (letters "\n") c.requires c.push.ensures c.push_nodes.ensures c.push-2.ensures
