use Rattle.columns.proofs.Columns.{ColumnsTo}
use Rattle.corrections.proofs.Groups.{corrected_in}
use Rattle.corrections.proofs.correcting.correct_chosen.Given as goal

abbrev pub invariant-loop-i : goal.invariant-loop-i
invariant-loop-i l = ColumnsTo (corrected_in l.z.shape l.asked.flags l.asked.scores.now l.asked.level l.short l.initial.stripe) l.l l.i l.initial.stripe l.stripe
