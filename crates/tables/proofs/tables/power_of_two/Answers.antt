-- `tables::power_of_two` meets its contract: the table is the computed list of the powers of 2, whose rule holds at each entry.
use Rattle.field.specs.Number.{modulus, add, double}
use Rattle.field.proofs.Lists.{powers}
use Rattle.field.proofs.Logarithms.{power_at}
use borrow.Author.Rules.{rules}
use Rattle.tables.proofs.tables.power_of_two.Goals as goal

pub returns : goal.returns
unfolding powers double add modulus
returns c = power_at 512 c.args.t (search rules)
