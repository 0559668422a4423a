use Rattle.text.specs.Text.{letters, spaced, line, refused_line}
use Rattle.text.proofs.Puts.{written_three}
use Rattle.text.proofs.lines.push_refused.Goals as goal

pub returns : goal.returns
unfolding refused_line line
returns c =
    written_three (letters "refused") (spaced c.args.q) (letters "\n") c.requires c.push.ensures (rw c.from.ensures at c.push_number.ensures) c.push-2.ensures
