-- `scores_of` meets its contract: the scores of the rows below a are written, and 0 stands from there on.
use mathlib.Core.Path.{◌∙◌}
use native.Mathlib.Omega.{arith}
use Rattle.rules.proofs.Measures.{measured-sizes, refused_not_accepted}
use Rattle.columns.proofs.Parts.{zeros-at}
use Rattle.choices.proofs.scoring.scores_of.Goals as goal
use Rattle.choices.proofs.scoring.scores_of.Goals.{In-Ok}

-- in the shape's sizes
pub returns : goal.returns
returns c =
    let h = measured-sizes c.args.shape c.measure.ensures c.in-Ok.is in
    let written = c.loop-a.invariant in
    record {
      inside = λ taken. rw (← h.s-is, ← h.m-is, ← h.l-is) (record {
        all = written.same_length;
        each = λ b k. written.done b (omega arith);
        rest = λ b k. written.kept b (omega arith) ∙ zeros-at 256 b;
      });
      outside = λ refused. absurd (refused_not_accepted _ 1 refused h.taken);
    }
