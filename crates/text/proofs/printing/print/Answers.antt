use Rattle.std.proofs.Common.{arith}
use Rattle.std.proofs.lemmas.Grind.{common_steps}
use Rattle.text.specs.Refusal.{print_refusal}
use Rattle.text.proofs.printing.print.Goals as goal

pub returns-in_err-check_len : goal.returns-in_err-check_len
unfolding print_refusal
returns-in_err-check_len c = let long = c.in-Ok.ensures.1.long in grind (arith, common_steps)
