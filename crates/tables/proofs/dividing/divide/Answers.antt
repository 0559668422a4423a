-- `tables::divide` meets its contract: where neither number is 0, the power of 2 whose exponent is the difference of the logarithms, plus
-- 255 so that it is not below 0, is the quotient.
use mathlib.Core.Path.{sym, ap₂, ◌∙◌}
use Rattle.field.specs.Number.{mul}
use Rattle.field.proofs.Product.{zero-mul}
use Rattle.tables.proofs.Exponents.{quotient_by_logs}
use borrow.Author.Rules.{rules}
use Rattle.tables.proofs.dividing.divide.Goals as goal

pub returns-then-a-eq0 : goal.returns-then-a-eq0
returns-then-a-eq0 c = record { divisor = search rules; small = search rules; value = zero-mul c.args.b ∙ sym c.if-a-eq0.true }

pub returns : goal.returns
returns c =
    record {
      divisor = search rules;
      small = search rules;
      value = ap₂ mul c.power_of_two.ensures (sym c.logarithm-2.ensures.1) ∙ quotient_by_logs c.logarithm.result c.logarithm-2.result (search rules) ∙ c.logarithm.ensures.1;
    }
