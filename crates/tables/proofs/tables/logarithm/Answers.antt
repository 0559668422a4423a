-- `tables::logarithm` meets its contract: the table is the computed list of the logarithms, whose rule holds at each entry but that of 0.
use Rattle.std.proofs.Common.{◌≡◌, ap, ◌∙◌}
use Rattle.field.specs.Number.{modulus, add, double, power}
use Rattle.field.proofs.Lists.{powers, place, places, logarithms, log}
use Rattle.field.proofs.Logarithms.{log-below, power-log}
use borrow.Author.Rules.{rules}
use Rattle.tables.proofs.tables.logarithm.Goals as goal

pub returns : goal.returns
unfolding log logarithms place places powers double add modulus
returns c =
    let entry : c.from-2.result ≡ log c.args.a = c.from-2.ensures ∙ ap log c.from.ensures in
    (rw entry (log-below c.args.a (search rules) (search rules)), ap (power 2) entry ∙ power-log c.args.a (search rules) (search rules))
